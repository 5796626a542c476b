use Rattle.std.proofs.Common.{◌≡◌, suc, ◌-◌, ℕ, replicate, refl, ap, ◌∙◌, arith}
use Rattle.gf256.specs.Gf.{times, power}
use Rattle.erasure.specs.System.{system_row}
use Rattle.erasure.proofs.Fill.{filled_none, filled_more}
use Rattle.erasure.proofs.system.powers_row.Goals as goal

pub loop-c-init : goal.loop-c-init
unfolding power
loop-c-init c = filled_more {l = replicate system_row 0} (filled_none refl) (omega arith) 1 refl

pub loop-c-preserved : goal.loop-c-preserved
unfolding power
loop-c-preserved c =
    let at = c.loop-c in
    let x = c.args.x in
    let e : suc (at.c - 1) ≡ at.c = omega arith in
    filled_more at.invariant (omega arith) _
    (c.mul.ensures ∙ ap (λ (w : ℕ). times w x) (at.invariant.each (at.c - 1) (omega arith)) ∙ ap (power x) e)
