-- The highest stamp among the servers that a test picks, and what filtering a list leaves.
-- Assumes nothing.
use mathlib.Core.Path.{◌≡◌, refl, sym, ap, ◌∙◌, subst}
use mathlib.Core.Bool.{Bool, true, false, cond}
use mathlib.Core.List.{List, [], ◌∷◌}
use mathlib.Core.Option.{none, some}
use mathlib.Core.Logic.{◌⊎◌, inl, inr}
use Prim.Native.Nat.{ℕ, zero, suc, ◌+◌, ◌≤◌, ◌<◌}
use native.Mathlib.Omega.{arith}
use lib.Dec.{leb}
use borrow.Author.Tests.{leb-true, leb-false}
use Rattle.protocol.specs.declared.Stamp.{Stamp}
use Rattle.protocol.specs.Values.{below}
use Rattle.protocol.specs.Rules.{keep, first, count_to}
use Rattle.atomicity.specs.Lists.{In}
use Rattle.atomicity.proofs.Util.{bool_case, clash}
use Rattle.atomicity.proofs.Stamps.{le_trans, below_irrefl, below_asym}
use Rattle.atomicity.proofs.Listed.{counted_one}

-- ---- lists and orders

pub first_some : {A : Type 0} (p : A → Bool) (l : List A) (c : A) → In c l → p c ≡ true → first p l ≡ none → ⊥
unfolding first In
first_some p [] c i q e = i
first_some {A} p (x ∷ xs) c (inl z) q e = go (p x) (subst (λ (y : A). p y ≡ true) z q) e
  where
    go : (b : Bool) → b ≡ true → cond b (some x) (first p xs) ≡ none → ⊥
    go true k f = (let y : ◌≡◌ {A = ℕ} 0 1 = cc in omega arith)
    go false k f = clash k refl
first_some p (x ∷ xs) c (inr i) q e = go (p x) e (first_some p xs c i q)
  where
    go : (b : Bool) → cond b (some x) (first p xs) ≡ none → (first p xs ≡ none → ⊥) → ⊥
    go true k f = (let y : ◌≡◌ {A = ℕ} 0 1 = cc in omega arith)
    go false k f = f k

pub keep_none : {A : Type 0} (p : A → Bool) (l : List A) → ((x : A) → In x l → p x ≡ false) → keep p l ≡ []
unfolding keep In
keep_none p [] f = refl
keep_none p (x ∷ l) f = ap (λ (b : Bool). cond b (x ∷ keep p l) (keep p l)) (f x (inl refl)) ∙ keep_none p l (λ y i. f y (inr i))

-- a ≤ b, b < c: a < c
pub le-lt : (a b c : Stamp) → below b a ≡ false → below b c ≡ true → below a c ≡ true
le-lt a b c p q = bool_case (below a c) (λ t. t) (λ t. clash q (le_trans c a b t p))

pub both-le : (a b : Stamp) → (a.number < b.number) ⊎ ((a.number ≡ b.number) × (a.writer ≤ b.writer)) → (b.number < a.number)
    ⊎ ((b.number ≡ a.number) × (b.writer ≤ a.writer)) → (a.number ≡ b.number) × (a.writer ≡ b.writer)
both-le a b (inl p) (inl q) = absurd (omega arith)
both-le a b (inl p) (inr q) = absurd (omega (arith, q.0))
both-le a b (inr p) (inl q) = absurd (omega (arith, p.0))
both-le a b (inr p) (inr q) = (p.0, omega (arith, p.1, q.1))

-- the server of 1 to n with the highest stamp among those that p marks
abbrev pub Most : (ℕ → Bool) → (ℕ → Stamp) → ℕ → Type 0
Most p f n = (y : ℕ) × (1 ≤ y) × (y ≤ n) × (p y ≡ true) × ((z : ℕ) → 1 ≤ z → z ≤ n → p z ≡ true → below (f y) (f z) ≡ false)

pub most : (p : ℕ → Bool) (f : ℕ → Stamp) (n : ℕ) → 1 ≤ count_to n p → Most p f n
unfolding count_to
most p f zero l = absurd (omega arith)
most p f (suc n) l = go (p (suc n)) refl (leb 1 (count_to n p)) refl l (λ k. most p f n k)
  where
    last : (u : ℕ) → u ≤ suc n → leb u n ≡ false → u ≡ suc n
    last u hi t = let z : u ≡ suc n = omega (arith, leb-false u n t) in z

    only : p (suc n) ≡ true → ((z : ℕ) → 1 ≤ z → z ≤ n → p z ≡ true → below (f (suc n)) (f z) ≡ false) → Most p f (suc n)
    only e h = (
      suc n,
      omega arith,
      omega arith,
      e,
      λ z lo hi q. bool_case (leb z n) (λ t. h z lo (leb-true z n t) q)
          (λ t. subst (λ (i : ℕ). below (f (suc n)) (f i) ≡ false) (sym (last z hi t)) (below_irrefl (f (suc n)))),
    )

    go : (t : Bool) → p (suc n) ≡ t → (o : Bool) → leb 1 (count_to n p) ≡ o → 1 ≤ cond t 1 0 + count_to n p → (1 ≤ count_to n p → Most p f n) →
        Most p f (suc n)
    go false e o q l r = let k = r (omega arith) in (
      k.0,
      k.1,
      omega (arith, k.2),
      k.3,
      λ z lo hi h. bool_case (leb z n) (λ t. k.4 z lo (leb-true z n t) h) (λ t. clash (subst (λ (i : ℕ). p i ≡ true) (last z hi t) h) e),
    )
    go true e false q l r = only e (λ z lo hi h. absurd (omega (arith, leb-false 1 (count_to n p) q, counted_one n p z lo hi h)))
    go true e true q l r = let k = r (leb-true 1 (count_to n p) q) in bool_case (below (f k.0) (f (suc n)))
        (λ t. only e (λ z lo hi h. le_trans (f z) (f k.0) (f (suc n)) (k.4 z lo hi h) (below_asym (f k.0) (f (suc n)) t)))
        (λ t. (
          k.0,
          k.1,
          omega (arith, k.2),
          k.3,
          λ z lo hi h. bool_case (leb z n) (λ u. k.4 z lo (leb-true z n u) h)
              (λ u. subst (λ (i : ℕ). below (f k.0) (f i) ≡ false) (sym (last z hi u)) t),
        ))
