-- The starts so far stand above the content, which stays. Nothing is assumed.
use Rattle.std.proofs.Common.{◌∙◌, refl, ap, ℕ, List, suc, ◌≤◌, length, arith}
use Rattle.cluster.specs.Config.{shelf}
use Rattle.format.proofs.Puts.{put-length}
use Rattle.protocol.specs.Values.{run_of}
use Rattle.protocol.specs.View.{replies_place, reply_slot, content_of}
use Rattle.client.specs.Steps.{digest_run, slot_run, start_of}
use Rattle.client.proofs.StampBytes.{put_none}
use Rattle.client.proofs.ShareBytes.{digest_more, digests-room}
use Rattle.client.proofs.SlotRuns.{slots_more, slots_length}
use Rattle.client.proofs.Offered.{content_short, content-below, starts-end}
use Rattle.client.proofs.shares.put_fragments.Goals as goal

pub loop-i-init : goal.loop-i-init
unfolding slot_run digest_run run_of
loop-i-init c = record { starts = refl; digests = put_none c.args.digests.now }

pub put_fragment-requires : goal.put_fragment-requires
put_fragment-requires c =
    let a = c.args in
    let p = c.requires in
    let i = c.loop-i.i in
    let v = c.loop-i.invariant in
    let r = content_of a.call a.kept.now in
    let k = content_short a.call a.kept.now in
    let n : suc i ≤ (shelf a.t).servers = omega (arith, c.servers-i-end.ensures) in
    let w : i ≤ (shelf a.t).servers = omega (arith, c.servers-i-end.ensures) in
    let l = ap length v.digests ∙ put-length a.digests.now 0 (digest_run a.t r i) (digests-room a.t r i a.digests.now w p.1.1.1) in (
      p.0,
      (
        p.1.0,
        (
          n,
          (
            ap length v.starts ∙ (slots_length reply_slot replies_place (start_of a.t r) a.kept.now i
                (starts-end a.t r p.0 p.1.0 k a.kept.now i p.1.1.0 w) ∙ p.1.1.0),
            omega (arith, l, n, p.1.1.1),
          ),
        ),
      ),
    )

pub loop-i-preserved : goal.loop-i-preserved
loop-i-preserved c =
    let a = c.args in
    let p = c.requires in
    let i = c.loop-i.i in
    let v = c.loop-i.invariant in
    let r = content_of a.call a.kept.now in
    let k = content_short a.call a.kept.now in
    let e = c.put_fragment.ensures in
    let n : suc i ≤ (shelf a.t).servers = omega (arith, c.servers-i-end.ensures) in
    let w : i ≤ (shelf a.t).servers = omega (arith, c.servers-i-end.ensures) in
    let s = ap (content_of a.call) v.starts ∙ content-below a.t r p.0 p.1.0 k a.call a.kept.now i p.1.1.0 w in
    record {
      starts = e.0 ∙ slots_more reply_slot replies_place (start_of a.t r) a.kept.now i v.starts (ap (λ (x : List ℕ). start_of a.t x (suc i)) s);
      digests = e.1 ∙ digest_more a.t r a.digests.now i v.digests s (omega (arith, n, p.1.1.1));
    }
