-- The doubled sum, and one run after the other where its weight has the bit.
use Rattle.std.proofs.Common.{◌*◌, ℕ, get_or, refl, sym, ap, ◌∙◌}
use Rattle.std.specs.Int.Bits.{bit_xor}
use lib.Bits.{xor_zero_r}
use Rattle.gf256.proofs.Xor.{xor_assoc}
use Rattle.erasure.specs.System.{entry, sum_to}
use Rattle.erasure.specs.Lanes.{bit_of}
use Rattle.erasure.proofs.Sums.{sum_to_none, sum_to_more}
use Rattle.erasure.proofs.lanes.bit_step.Goals as goal

pub loop-j-init : goal.loop-j-init
loop-j-init c i h = sym (ap (bit_xor (get_or c.doubled-out.result i 0)) (sum_to_none _) ∙ xor_zero_r (get_or c.doubled-out.result i 0))

pub loop-j-preserved : goal.loop-j-preserved
loop-j-preserved c i h =
    let l = c.loop-j in
    let begun = c.doubled-out.result in
    let term : ℕ → ℕ = λ m. bit_of (get_or c.args.weights m 0) c.args.b * entry c.args.lanes.now m i in
    c.added-more.ensures i h
    ∙ ap (λ (x : ℕ). bit_xor x (term l.j)) (l.invariant i h)
    ∙ xor_assoc (get_or begun i 0) (sum_to l.j term) (term l.j)
    ∙ ap (bit_xor (get_or begun i 0)) (sum_to_more l.j term (sum_to l.j term) (term l.j) refl refl)
