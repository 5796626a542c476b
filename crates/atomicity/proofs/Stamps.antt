-- The order of stamps, by number, then writer; and that lists that are equal pass the test for it.
-- Assumes nothing.
use mathlib.Core.Path.{◌≡◌, sym, subst, ◌∙◌}
use mathlib.Core.Bool.{true, false, ◌&&◌}
use mathlib.Core.List.{List}
use mathlib.Core.Logic.{◌⊎◌, inl, inr}
use Prim.Native.Nat.{ℕ, ◌≤◌, ◌<◌}
use native.Mathlib.Omega.{arith}
use lib.Dec.{ltb, eqb}
use borrow.Author.Tests.{ltb-true, ltb-false, eqb-true, lt-ltb, eq-eqb}
use Rattle.protocol.specs.declared.Stamp.{Stamp}
use Rattle.protocol.specs.Values.{below, blank_stamp, same_list}
use Rattle.protocol.proofs.Equal.{same_refl}
use Rattle.atomicity.proofs.Util.{bool_case, clash, and_left, and_right, and_intro, or_cases, or_left, or_right}
use Rattle.cluster.proofs.Tests.{untrue}

pub below-view : (a b : Stamp) → below a b ≡ true → (a.number < b.number) ⊎ ((a.number ≡ b.number) × (a.writer < b.writer))
unfolding below
below-view a b e = go (or_cases (ltb a.number b.number) (eqb a.number b.number && ltb a.writer b.writer) e)
  where
    go : (ltb a.number b.number ≡ true) ⊎ ((eqb a.number b.number && ltb a.writer b.writer) ≡ true) → (a.number < b.number)
        ⊎ ((a.number ≡ b.number) × (a.writer < b.writer))
    go (inl h) = inl (ltb-true _ _ h)
    go (inr h) = inr (eqb-true _ _ (and_left _ _ h), ltb-true _ _ (and_right (eqb a.number b.number) _ h))

pub below_num : (a b : Stamp) → a.number < b.number → below a b ≡ true
unfolding below
below_num a b h = or_left _ _ (lt-ltb _ _ h)

pub below_who : (a b : Stamp) → a.number ≡ b.number → a.writer < b.writer → below a b ≡ true
unfolding below
below_who a b e h = or_right (ltb a.number b.number) _ (and_intro _ _ (eq-eqb _ _ e) (lt-ltb _ _ h))

-- b is not below a: a is at most b
pub le-view : (a b : Stamp) → below b a ≡ false → (a.number < b.number) ⊎ ((a.number ≡ b.number) × (a.writer ≤ b.writer))
le-view a b e = bool_case (ltb a.number b.number) (λ h. inl (ltb-true _ _ h))
    (λ h. bool_case (ltb b.number a.number) (λ k. clash (below_num b a (ltb-true _ _ k)) e) (λ k. same (ltb-false _ _ h) (ltb-false _ _ k)))
  where
    same : b.number ≤ a.number → a.number ≤ b.number → (a.number < b.number) ⊎ ((a.number ≡ b.number) × (a.writer ≤ b.writer))
    same h k = let q : b.number ≡ a.number = omega arith in
        bool_case (ltb b.writer a.writer) (λ l. clash (below_who b a q (ltb-true _ _ l)) e) (λ l. inr (sym q, ltb-false _ _ l))

pub num-le : (a b : Stamp) → below b a ≡ false → a.number ≤ b.number
num-le a b e = go (le-view a b e)
  where
    go : (a.number < b.number) ⊎ ((a.number ≡ b.number) × (a.writer ≤ b.writer)) → a.number ≤ b.number
    go (inl h) = omega arith
    go (inr h) = omega (arith, h.0)

-- below c a, a at most b: below c b; in the form of the negative
pub le_trans : (a b c : Stamp) → below b a ≡ false → below c b ≡ false → below c a ≡ false
le_trans a b c p q = untrue (below c a) (λ h. go (le-view a b p) (le-view b c q) (below-view c a h))
  where
    go : (a.number < b.number) ⊎ ((a.number ≡ b.number) × (a.writer ≤ b.writer)) → (b.number < c.number)
        ⊎ ((b.number ≡ c.number) × (b.writer ≤ c.writer)) →
        (c.number < a.number) ⊎ ((c.number ≡ a.number) × (c.writer < a.writer)) → ⊥
    go (inl x) (inl y) (inl z) = omega arith
    go (inl x) (inl y) (inr z) = omega (arith, z.0)
    go (inl x) (inr y) (inl z) = omega (arith, y.0)
    go (inl x) (inr y) (inr z) = omega (arith, y.0, z.0)
    go (inr x) (inl y) (inl z) = omega (arith, x.0)
    go (inr x) (inl y) (inr z) = omega (arith, x.0, z.0)
    go (inr x) (inr y) (inl z) = omega (arith, x.0, y.0)
    go (inr x) (inr y) (inr z) = omega (arith, x.1, y.1, z.1)

pub below-blank : (a : Stamp) → below a blank_stamp ≡ false
below-blank a = untrue (below a blank_stamp) (λ h. go (below-view a blank_stamp h))
  where
    go : (a.number < 0) ⊎ ((a.number ≡ 0) × (a.writer < 0)) → ⊥
    go (inl x) = omega arith
    go (inr x) = omega (arith, x.1)

-- nothing is below what is at most the blank
pub le-blank : (a b : Stamp) → below blank_stamp a ≡ false → below b a ≡ false
le-blank a b e = le_trans a blank_stamp b e (below-blank b)

-- ---- a stamp is never below itself

pub below_irrefl : (a : Stamp) → below a a ≡ false
below_irrefl a = untrue (below a a) (λ h. go (below-view a a h))
  where
    go : (a.number < a.number) ⊎ ((a.number ≡ a.number) × (a.writer < a.writer)) → ⊥
    go (inl x) = omega arith
    go (inr x) = omega (arith, x.1)

pub below_asym : (a b : Stamp) → below a b ≡ true → below b a ≡ false
below_asym a b p = untrue (below b a) (λ q. go (below-view a b p) (below-view b a q))
  where
    go : (a.number < b.number) ⊎ ((a.number ≡ b.number) × (a.writer < b.writer)) → (b.number < a.number)
        ⊎ ((b.number ≡ a.number) × (b.writer < a.writer)) → ⊥
    go (inl x) (inl y) = omega arith
    go (inl x) (inr y) = omega (arith, y.0)
    go (inr x) (inl y) = omega (arith, x.0)
    go (inr x) (inr y) = omega (arith, x.1, y.1)

-- ---- equality

pub same_is : (xs ys : List ℕ) → xs ≡ ys → same_list xs ys ≡ true
same_is xs ys e = subst (λ (z : List ℕ). same_list xs z ≡ true) e (same_refl xs)

pub below-trans : (a b c : Stamp) → below a b ≡ true → below b c ≡ true → below a c ≡ true
below-trans a b c p q = go (below-view a b p) (below-view b c q)
  where
    go : (a.number < b.number) ⊎ ((a.number ≡ b.number) × (a.writer < b.writer)) →
        (b.number < c.number) ⊎ ((b.number ≡ c.number) × (b.writer < c.writer)) → below a c ≡ true
    go (inl x) (inl y) = below_num a c (omega arith)
    go (inl x) (inr y) = below_num a c (omega (arith, y.0))
    go (inr x) (inl y) = below_num a c (omega (arith, x.0))
    go (inr x) (inr y) = below_who a c (x.0 ∙ y.0) (omega (arith, x.1, y.1))
