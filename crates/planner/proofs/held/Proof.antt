-- With and without a share. Assumes nothing.
use mathlib.Core.Path.{ap}
use mathlib.Core.List.{[], ◌∷◌}
use Prim.Native.Nat.{ℕ, ◌+◌}
use native.Mathlib.Omega.{arith}
use borrow.Author.Rules.{rules}
use Rattle.protocol.specs.Values.{stamp_size}
use Rattle.protocol.specs.Packet.{head_size}
use Rattle.planner.proofs.Bounds.{share-most}
use Rattle.planner.proofs.held.Statement.{statement}
use Rattle.planner.proofs.held.Tie as tie

add-t5 : tie.Need-overflow_add-result
add-t5 c = let p = c.requires in omega (arith, c.share_size.ensures, share-most _ _ p.0 p.1)

returns : tie.Need-returns
returns c = ap (λ (n : ℕ). (head_size + (stamp_size + 1)) ∷ n ∷ []) (omega (arith, c.share_size.ensures))

pub held_spec : {M : Type 1} → statement M
held_spec = tie.close (tie.spec (λ c. search rules) (λ c κs. search rules) add-t5 returns)
