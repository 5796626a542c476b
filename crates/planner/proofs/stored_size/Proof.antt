-- The sum of the lengths of stamp and share. Assumes nothing.
use mathlib.Core.Path.{ap}
use Prim.Native.Nat.{ℕ, ◌+◌}
use native.Mathlib.Omega.{arith}
use borrow.Author.Rules.{rules}
use Rattle.protocol.specs.Values.{stamp_size}
use Rattle.planner.proofs.Bounds.{share-most}
use Rattle.planner.proofs.stored_size.Statement.{statement}
use Rattle.planner.proofs.stored_size.Tie as tie

add-result : tie.Need-overflow_add-result
add-result c = let p = c.requires in omega (arith, c.share_size.ensures, share-most _ _ p.0 p.1)

returns : tie.Need-returns
returns c = ap (λ (n : ℕ). stamp_size + n) c.share_size.ensures

pub stored_size_spec : {M : Type 1} → statement M
stored_size_spec = tie.close (tie.spec (λ c κs. search rules) add-result returns)
