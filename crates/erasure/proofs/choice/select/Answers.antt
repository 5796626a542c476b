-- One server more is looked at; at the end all are.
use Rattle.std.proofs.Common.{◌≡◌, ℕ, length, refl, sym, ap, subst, ◌∙◌, arith, rules}
use lib.Seq.{length-take-le}
use Rattle.erasure.specs.System.{width}
use Rattle.erasure.specs.Choice.{picked, first_different}
use Rattle.erasure.specs.Chosen.{Holds}
use Rattle.erasure.proofs.Choosing.{picked_more}
use Rattle.erasure.proofs.choice.select.Goals as goal

pub loop-i-init : goal.loop-i-init
unfolding picked
loop-i-init c = record { chosen = record { room = search rules; places_is = refl; servers_is = refl }; many = refl }

pub loop-i-preserved : goal.loop-i-preserved
loop-i-preserved c =
    let l = c.loop-i in
    let h = l.invariant.chosen in
    let new = c.add_server-c in
    let e = picked_more c.args.k c.args.servers.now l.i l.c.count l.c.at l.c.servers _ _ h.places_is h.servers_is l.invariant.many new.ensures.places
    new.ensures.servers in
    let long : length new.result.at ≡ width = search rules in
    record {
      chosen = record { room = new.ensures.room; places_is = e.0; servers_is = e.1 };
      many = ap length (sym e.0) ∙ length-take-le new.result.count new.result.at (omega (arith, new.ensures.room));
    }

pub returns : goal.returns
unfolding first_different
returns c = subst (λ (n : ℕ). Holds c.args.k c.args.servers.now (picked c.args.k c.args.servers.now n) c.loop-i.c) (omega arith) c.loop-i.invariant.chosen
