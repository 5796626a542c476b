-- Tests as facts: of Booleans, of ranges, and of a refusal's number. Each law goes through the cases of its test. Nothing is assumed.
use mathlib.Core.Path.{◌≡◌, refl, sym}
use mathlib.Core.Logic.{◌≢◌, ◌⊎◌, inl, inr}
use mathlib.Core.Bool.{Bool, true, false, not, cond, ◌&&◌, ◌||◌, true≢false}
use Prim.Native.Nat.{ℕ, zero, suc, ◌≤◌, ◌<◌}
use native.Mathlib.Omega.{arith}
use lib.Dec.{leb, ltb}
use borrow.Author.Tests.{le-leb, lt-leb, leb-true, ltb-true, ltb-false, not-false}
use Rattle.cluster.specs.Ranges.{within}
use Rattle.cluster.specs.Refusals.{on_refusal}

-- ---- Booleans

pub untrue : (b : Bool) → (b ≡ true → ⊥) → b ≡ false
untrue true h = absurd (h refl)
untrue false h = refl

pub and_both : (a b : Bool) → (a && b) ≡ true → (a ≡ true) × (b ≡ true)
and_both true b e = (refl, e)
and_both false b e = absurd (true≢false (sym e))

-- where the first test holds, the second decides
pub and-rest : (a b : Bool) → a ≡ true → (a && b) ≡ false → b ≡ false
and-rest true b e f = f
and-rest false b e f = absurd (true≢false (sym e))

pub or_none : (a b : Bool) → (a || b) ≡ false → (a ≡ false) × (b ≡ false)
or_none true b e = absurd (true≢false e)
or_none false b e = (refl, e)

-- ---- ranges

pub below_or_not : (a b : ℕ) → (a < b) ⊎ (b ≤ a)
below_or_not a b = go (ltb a b) refl
  where
    go : (t : Bool) → ltb a b ≡ t → (a < b) ⊎ (b ≤ a)
    go true e = inl (ltb-true a b e)
    go false e = inr (ltb-false a b e)

module _ (lo hi x : ℕ) where
  pub within_in : lo ≤ x → x ≤ hi → within lo hi x ≡ true
  within_in a b = rw (le-leb lo x a, le-leb x hi b)

  pub within_low : x < lo → within lo hi x ≡ false
  within_low a = rw (lt-leb lo x a)

  pub within-high : lo ≤ x → hi < x → within lo hi x ≡ false
  within-high a b = rw (le-leb lo x a, lt-leb x hi b)

  pub within_bounds : within lo hi x ≡ true → (lo ≤ x) × (x ≤ hi)
  within_bounds e = let (a, b) = and_both (leb lo x) (leb x hi) e in (leb-true lo x a, leb-true x hi b)

  pub inside : not (within lo hi x) ≡ false → (lo ≤ x) × (x ≤ hi)
  inside e = within_bounds (not-false (within lo hi x) e)

-- ---- refusals

-- a list of tests that gives 0: the first does not apply, and so on with the rest
pub passes : (b : Bool) (n m : ℕ) → cond b (suc n) m ≡ 0 → (b ≡ false) × (m ≡ 0)
passes true n m e = absurd (omega arith)
passes false n m e = (refl, e)

pub refused_is : {A : Type 0} (n : ℕ) (a b : A) → n ≢ 0 → on_refusal n a b ≡ b
refused_is zero a b h = absurd (h refl)
refused_is (suc n) a b h = refl

pub accepted_is : {A : Type 0} (n : ℕ) (a b : A) → n ≡ 0 → on_refusal n a b ≡ a
accepted_is zero a b h = refl
accepted_is (suc n) a b h = absurd (omega arith)
