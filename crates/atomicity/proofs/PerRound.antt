-- How many servers do a thing in the rounds of a call, taken together: at most all servers in each round, and just that many if all do it in each.
-- By counting. Assumes nothing.
use mathlib.Core.Path.{◌≡◌, refl, ap}
use mathlib.Core.Bool.{Bool, true, cond}
use mathlib.Core.List.{List, [], ◌∷◌}
use mathlib.Core.Logic.{inl, inr}
use Prim.Native.Nat.{ℕ, zero, suc, ◌*◌, ◌≤◌}
use native.Mathlib.Nat.{suc-mul}
use native.Mathlib.Omega.{arith}
use lib.ListN.{length}
use Rattle.protocol.specs.Rules.{count_to}
use Rattle.atomicity.specs.Lists.{In}
use Rattle.atomicity.specs.Traffic.{over_rounds, EachRound}
use Rattle.atomicity.proofs.Counting.{split-count}

count_all : (n : ℕ) (p : ℕ → Bool) → ((b : ℕ) → 1 ≤ b → b ≤ n → p b ≡ true) → count_to n p ≡ n
unfolding count_to
count_all zero p h = refl
count_all (suc n) p h =
    omega (arith, count_all n p (λ b lo hi. h b lo (omega arith)), ap {B = ℕ} (λ (b : Bool). cond b 1 0) (h (suc n) (omega arith) (omega arith)))

module _ (n : ℕ) (p : ℕ → ℕ → Bool) where
  pub most-rounds : (ks : List ℕ) → over_rounds n p ks ≤ length ks * n
  most-rounds [] = omega arith
  most-rounds (k ∷ ks) = omega (arith, most-rounds ks, split-count (p k) n, suc-mul (length ks) n)

  pub all-rounds : (ks : List ℕ) → EachRound n p ks → over_rounds n p ks ≡ length ks * n
  unfolding In
  all-rounds [] h = omega arith
  all-rounds (k ∷ ks) h = omega (arith, all-rounds ks (λ j i. h j (inr i)), count_all n (p k) (h k (inl refl)), suc-mul (length ks) n)
