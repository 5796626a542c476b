use Rattle.std.proofs.Common.{◌≡◌, ℕ, ◌+◌, ◌-◌, ◌/◌, ◌%◌, ◌^◌, bit_and, bit_xor, refl, sym, ap, ap₂, ◌∙◌, arith}
use Rattle.gf256.specs.Gf.{xtime, times_bits, times}
use native.Mathlib.Nat.{div-one}
use Rattle.gf256.proofs.Xor.{bit}
use Rattle.gf256.proofs.Doubling.{masked, bit_more}
use Rattle.gf256.proofs.mul.Goals as goal

pub loop-n-init : goal.loop-n-init
unfolding times_bits
loop-n-init c = refl

pub loop-n-preserved : goal.loop-n-preserved
loop-n-preserved c =
    let l = c.loop-n in
    let i : ℕ = l.n - 1 in
    let up : i + 1 ≡ l.n = omega arith in
    let more : 8 - l.n + 1 ≡ 8 - i = omega arith in
    let x = c.args.a in
    let w = c.args.b in
    ap₂ bit_xor (c.double.ensures ∙ ap xtime (l.invariant ∙ ap (λ (m : ℕ). times_bits (8 - l.n) x (w / 2 ^ m)) (sym up)))
    (ap (bit_and x) c.mask.ensures ∙ masked (w / 2 ^ i % 2) x (bit (w / 2 ^ i)) (omega arith))
    ∙ bit_more (8 - l.n) x w i (omega arith)
    ∙ ap (λ (m : ℕ). times_bits m x (w / 2 ^ i)) more

pub returns : goal.returns
unfolding times
returns c =
    let e : c.loop-n.n ≡ 0 = omega arith in
    (rw e at c.loop-n.invariant) ∙ ap (times_bits 8 c.args.a) (div-one c.args.b)
