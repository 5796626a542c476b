-- The sum of the rows, each times its power of z, has the weights; the first of its entries are taken.
use Rattle.std.proofs.Common.{ℕ, List, get_or, ap, ◌∙◌, arith, rules}
use lib.Seq.{get_or-take}
use Rattle.gf256.specs.Gf.{times, power}
use Rattle.erasure.specs.System.{width, entry, weight_at}
use Rattle.erasure.proofs.Sums.{sum_to_ext}
use Rattle.erasure.proofs.system.weights.Goals as goal

-- the power 0 is 1
pub sum_rows-sum-requires : goal.sum_rows-sum-requires
unfolding power
sum_rows-sum-requires c = (search rules, search rules, c.powers_row.ensures 0 (search rules))

pub returns : goal.returns
unfolding weight_at
returns c j h =
    let powers = c.powers_row in
    let args = c.args in
    ap (λ (l : List ℕ). get_or l j 0) c.copy_from_slice.ensures.after ∙ get_or-take width c.sum_rows-sum.result j 0 h
    ∙ c.sum_rows-sum.ensures j (omega arith)
    ∙ sum_to_ext args.k (λ i. times (get_or powers.result i 0) (entry args.a i j)) (λ i. times (power args.z i) (entry args.a i j))
    (λ i b. ap (λ (x : ℕ). times x (entry args.a i j)) (powers.ensures i b))
