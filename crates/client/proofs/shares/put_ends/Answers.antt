-- One more server's end fits its slot. Nothing is assumed.
use Rattle.std.proofs.Common.{◌≡◌, ◌∙◌, refl, ◌+◌, length, arith, rules}
use Rattle.protocol.specs.View.{replies_place, reply_slot}
use Rattle.client.specs.Steps.{slot_run}
use Rattle.client.proofs.SlotRuns.{slots_more}
use Rattle.client.proofs.Offered.{servers-few}
use Rattle.client.proofs.shares.put_ends.Goals as goal

pub loop-i-init : goal.loop-i-init
unfolding slot_run
loop-i-init c = record { ends = refl; size = c.requires.1.1.0 }

pub overflow_mul-i : goal.overflow_mul-i
overflow_mul-i c = omega (arith, c.servers-i-end.ensures, servers-few c.args.t c.requires.0)

pub overflow_add-at-in-loop-i : goal.overflow_add-at-in-loop-i
overflow_add-at-in-loop-i c =
    omega (arith, c.servers-i-end.ensures, servers-few c.args.t c.requires.0, c.fragment_size-f.ensures, c.requires.1.1.1)

pub write_at-requires : goal.write_at-requires
write_at-requires c =
    omega (arith, c.servers-i-end.ensures, servers-few c.args.t c.requires.0, c.fragment_size-f.ensures, c.requires.1.1.1, c.loop-i.invariant.size)

pub loop-i-preserved : goal.loop-i-preserved
loop-i-preserved c =
    let a = c.args in
    let v = c.loop-i.invariant in
    let z : length c.write_at.new.kept ≡ length c.loop-i.kept = search rules in
    record {
      ends = c.write_at.ensures ∙ slots_more reply_slot (replies_place + (2 + c.fragment_size-f.result)) (λ _. a.common.now) a.kept.now c.loop-i.i v.ends
          refl;
      size = z ∙ v.size;
    }
