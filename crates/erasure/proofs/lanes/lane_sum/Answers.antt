-- After n turns the sum is that of the highest n bits of each weight.
use Rattle.std.proofs.Common.{◌≡◌, ◌<◌, ◌+◌, ◌-◌, ◌*◌, ◌/◌, ◌^◌, ℕ, get_or, sym, ap, subst, ◌∙◌, arith}
use native.Mathlib.Nat.{div-one}
use lib.ListN.{get_or-replicate}
use Rattle.std.specs.Int.Bits.{bit_xor}
use Rattle.gf256.specs.Gf.{xtime, times_bits, times}
use Rattle.erasure.specs.System.{entry, sum_to}
use Rattle.erasure.specs.Lanes.{lane, bit_of}
use Rattle.erasure.proofs.Sums.{sum_to_ext}
use Rattle.erasure.proofs.Horner.{sum-bit, sum_none}
use Rattle.erasure.proofs.lanes.lane_sum.Goals as goal

pub loop-n-init : goal.loop-n-init
loop-n-init c i h = get_or-replicate lane i 0 0 h ∙ sym (sum_none c.args.k (λ j. entry c.args.lanes.now j i) _)

pub loop-n-preserved : goal.loop-n-preserved
loop-n-preserved c i h =
    let l = c.loop-n in
    let args = c.args in
    let b : ℕ = 7 - l.n in
    let up : b + 1 ≡ 8 - l.n = omega arith in
    let down : b ≡ 8 - (l.n + 1) = omega arith in
    let w : ℕ → ℕ = λ j. get_or args.weights j 0 in
    let x : ℕ → ℕ = λ j. entry args.lanes.now j i in
    let small : (j : ℕ) → j < args.k → x j < 256 = λ j lt. c.requires.1 j i lt h in
    c.bit_step-more.ensures i h
    ∙ ap (λ (s : ℕ). bit_xor (xtime s) (sum_to args.k (λ j. bit_of (w j) b * x j)))
    (l.invariant i h ∙ ap (λ (m : ℕ). sum_to args.k (λ j. times_bits l.n (x j) (w j / 2 ^ m))) (sym up))
    ∙ sum-bit args.k l.n b x w small
    ∙ ap (λ (m : ℕ). sum_to args.k (λ j. times_bits (l.n + 1) (x j) (w j / 2 ^ m))) down

pub returns : goal.returns
unfolding times
returns c i h =
    let l = c.loop-n in
    let args = c.args in
    let lanes = args.lanes.now in
    let e : l.n ≡ 8 = omega arith in
    subst (λ (n : ℕ). get_or l.out i 0 ≡ sum_to args.k (λ j. times_bits n (entry lanes j i) (get_or args.weights j 0 / 2 ^ (8 - n)))) e
    (l.invariant i h)
    ∙ sum_to_ext args.k (λ j. times_bits 8 (entry lanes j i) (get_or args.weights j 0 / 1))
    (λ j. times (entry lanes j i) (get_or args.weights j 0))
    (λ j b. ap (times_bits 8 (entry lanes j i)) (div-one (get_or args.weights j 0)))
