-- Each turn at a pivot that is not zero leaves the system solved one step further; k turns solve it.
use Rattle.std.proofs.Common.{◌≡◌, ◌<◌, ℕ, length, get_or, sym, subst, arith, rules}
use native.Mathlib.Numerals.{add-one}
use mir.Val.{Fits}
use mir.Syntax.{w8}
use Rattle.gf256.specs.Gf.{inverse}
use Rattle.gf256.proofs.Exchange.{Half, half_none, half_more}
use Rattle.gf256.proofs.Powers.{pow}
use Rattle.gf256.proofs.Byte.{field, laws}
use Rattle.gf256.proofs.Tables.{inverse-lt}
use Rattle.erasure.specs.System.{width, entry}
use Rattle.erasure.proofs.Solved.{begun, begun-small, mat, small-out, turned_mat, half_system}
use Rattle.erasure.proofs.Solved.{point, pivot_pos, unit_law, solves, to_byte}
use Rattle.erasure.proofs.system.solve.Goals as goal

pub loop-p-init : goal.loop-p-init
loop-p-init c =
    let xs = c.args.xs in
    let k = c.args.k in
    let s : (i : ℕ) → get_or xs i 0 < 256 = λ i. (let f : Fits w8 (get_or xs i 0) = search rules in f.fits) in
    record { small = begun-small k xs c.begin-a.result s c.begin-a.ensures; half = half_none field laws k (mat c.begin-a.result) }

pub loop-p-preserved : goal.loop-p-preserved
loop-p-preserved c =
    let at = c.loop-p in
    let sys = c.begin-a in
    let xs = c.args.xs in
    let k = c.args.k in
    let s : (i : ℕ) → get_or xs i 0 < 256 = λ i. (let f : Fits w8 (get_or xs i 0) = search rules in f.fits) in
    let pk : at.p < k = omega arith in
    let e = entry at.a at.p at.p in
    let small : e < 256 = at.invariant.small at.p at.p pk pk in
    let pos : 0 < e =
    pivot_pos k at.p xs at.a s c.requires.1 pk
    (half_system k at.p (mat sys.result) (λ r j. pow field laws (point xs r) j) (mat at.a)
    (begun k xs sys.result s sys.ensures) at.invariant.half) in
    record {
      small = small-out k at.a c.turn-b.result at.p (inverse e) c.turn-b.ensures at.invariant.small (inverse-lt e small) pk;
      half = subst (λ (n : ℕ). Half field laws k (mat sys.result) n (mat c.turn-b.result)) (sym (add-one at.p))
          (half_more field laws k at.p (mat sys.result) (mat at.a) (mat c.turn-b.result) (to_byte (inverse e))
          (turned_mat k at.a c.turn-b.result at.p (inverse e) c.turn-b.ensures at.invariant.small (inverse-lt e small) pk) pk
          (unit_law at.a at.p small pos) at.invariant.half);
    }

pub returns : goal.returns
returns c =
    let at = c.loop-p in
    let sys = c.begin-a in
    let xs = c.args.xs in
    let k = c.args.k in
    let s : (i : ℕ) → get_or xs i 0 < 256 = λ i. (let f : Fits w8 (get_or xs i 0) = search rules in f.fits) in
    let wide : length xs ≡ width = search rules in
    let end : at.p ≡ k = omega arith in
    solves k xs at.a (omega arith) s at.invariant.small c.requires.1
    (half_system k k (mat sys.result) (λ r j. pow field laws (point xs r) j) (mat at.a)
    (begun k xs sys.result s sys.ensures)
    (subst (λ (n : ℕ). Half field laws k (mat sys.result) n (mat at.a)) end at.invariant.half))
