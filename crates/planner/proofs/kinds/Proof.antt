-- Each kind's entry is its sum of lengths. Assumes nothing.
use mathlib.Core.Path.{ap₂}
use mathlib.Core.List.{[], ◌∷◌}
use Prim.Native.Nat.{ℕ, ◌+◌}
use native.Mathlib.Omega.{arith}
use borrow.Author.Rules.{rules}
use Rattle.protocol.specs.Values.{stamp_size}
use Rattle.protocol.specs.Packet.{head_size}
use Rattle.planner.proofs.Bounds.{stored-most, candidate-most}
use Rattle.planner.proofs.kinds.Statement.{statement}
use Rattle.planner.proofs.kinds.Tie as tie

add-store : tie.Need-overflow_add-store
add-store c = let p = c.requires in omega (arith, c.stored_size.ensures, stored-most _ _ p.0 p.1)

add-candidate : tie.Need-overflow_add-candidate
add-candidate c = omega (arith, c.candidate_size.ensures, candidate-most _ c.requires.0)

returns : tie.Need-returns
returns c =
    let h = head_size in
    ap₂
    (λ (w a : ℕ). 0 ∷ h ∷ (h + stamp_size) ∷ (h + w) ∷ (h + 1) ∷ (h + a) ∷ h ∷ h ∷ (h + a) ∷ 0 ∷ 0 ∷ (h + a) ∷ h ∷ [])
    c.stored_size.ensures c.candidate_size.ensures

pub kinds_spec : {M : Type 1} → statement M
kinds_spec = tie.close (tie.spec (λ c. search rules) (λ c κs. search rules) add-store (λ c κs. search rules) add-candidate (λ c. search rules) returns)
