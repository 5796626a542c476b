-- The place of the stored writes and so many of them. Assumes nothing.
use mathlib.Core.Path.{ap₂}
use Prim.Native.Nat.{ℕ, ◌+◌, ◌*◌, ◌≤◌}
use native.Mathlib.Omega.{arith}
use borrow.Author.Rules.{rules}
use Rattle.planner.proofs.Bounds.{plenty, candidate-most, stored-most, product-most}
use Rattle.planner.proofs.memory.Statement.{statement}
use Rattle.planner.proofs.memory.Tie as tie

all-stored : (c : tie.After-stored_size) → c.args.stores * c.stored_size.result ≤ plenty * plenty
all-stored c =
    let p = c.requires in
    let l : c.stored_size.result ≤ plenty = omega (arith, c.stored_size.ensures, stored-most _ _ p.0 p.1) in
    product-most c.args.stores _ (omega (arith, p.2)) l

mul-result : tie.Need-overflow_mul-result
mul-result c = omega (arith, all-stored c)

add-result : tie.Need-overflow_add-result
add-result c = omega (arith, all-stored c, c.writes_place.ensures, candidate-most _ c.requires.0)

returns : tie.Need-returns
returns c = let m = c.args.stores in ap₂ (λ (p w : ℕ). p + m * w) c.writes_place.ensures c.stored_size.ensures

pub memory_spec : {M : Type 1} → statement M
memory_spec = tie.close (tie.spec (λ c κs. search rules) (λ c κs. search rules) mul-result add-result returns)
