-- The answers of parsers: what a guard, a sequel or an alternative that gave a value tells of its parts; and lists of bytes, runs of zeros.
-- Each by cases on the answer. Nothing is assumed.
use mathlib.Core.Path.{◌≡◌, refl, sym, ap, ◌∙◌, subst}
use mathlib.Core.Bool.{Bool, true, false, cond}
use mathlib.Core.Option.{Option, none, some, some-injective, none-ne-some}
use mathlib.Core.Logic.{◌⊎◌, inl, inr}
use mathlib.Core.List.{List, [], ◌∷◌, ◌++◌}
use Prim.Native.Nat.{ℕ, zero, suc, ◌+◌, ◌≤◌, ◌<◌}
use lib.ListN.{length, drop, replicate}
use lib.Seq.{drop_at, get_or-drop}
use lib.Dec.{leb, eqb}
use borrow.Author.Tests.{leb-true, eqb-true}
use Rattle.format.specs.Format.{Bytes, guard, ranged, and_then, or_else, zeros, whole, at_end}
use Rattle.cluster.proofs.Tests.{and_both}

-- ---- tests

pub guard_some : {A : Type 0} (t : Bool) (o : Option A) (a : A) → guard t o ≡ some a → (t ≡ true) × (o ≡ some a)
guard_some true o a e = (refl, e)
guard_some false o a e = absurd (none-ne-some a e)

-- one eliminator for a test
pub at-cond : {A : Type 0} (b : Bool) (x y : A) (Q : A → Type 0) → (b ≡ true → Q x) → (b ≡ false → Q y) → Q (cond b x y)
at-cond true x y Q f g = f refl
at-cond false x y Q f g = g refl

-- the second may differ where it is not taken
pub cond_cong : {A : Type 0} (b : Bool) (x y z : A) → (b ≡ false → y ≡ z) → cond b x y ≡ cond b x z
cond_cong true x y z f = refl
cond_cong false x y z f = f refl

-- ---- a value and the bytes after it

module _ {A : Type 0} where
  pub no_some : {B : Type 0} (a : A) → none ≡ some a → B
  no_some a e = absurd (none-ne-some a e)

  pub same-value : (x a : A) (q r : List ℕ) → ◌≡◌ {A = Option (A × List ℕ)} (some (x, q)) (some (a, r)) → x ≡ a
  same-value x a q r e = ap (λ (y : A × List ℕ). y.0) (some-injective (x, q) (a, r) e)

  pub same_rest : (x a : A) (q r : List ℕ) → ◌≡◌ {A = Option (A × List ℕ)} (some (x, q)) (some (a, r)) → q ≡ r
  same_rest x a q r e = ap (λ (y : A × List ℕ). y.1) (some-injective (x, q) (a, r) e)

-- a number that was let through is in its range
pub ranged_some : (lo hi x a : ℕ) (q r : List ℕ) → ranged lo hi x q ≡ some (a, r) → ((lo ≤ a) × (a ≤ hi)) × ((x ≡ a) × (q ≡ r))
ranged_some lo hi x a q r e =
    let (l, f) = guard_some (leb lo x) (guard (leb x hi) (some (x, q))) (a, r) e in
    let (h, g) = guard_some (leb x hi) (some (x, q)) (a, r) f in
    let k : x ≡ a = same-value x a q r g in
    ((rw k at (leb-true lo x l), rw k at (leb-true x hi h)), (k, same_rest x a q r g))

pub and_then_some : {A B : Type 0} (o : Option (A × List ℕ)) (k : A → List ℕ → Option (B × List ℕ)) (b : B) (r : List ℕ)
    → and_then o k ≡ some (b, r) → (a : A) × (q : List ℕ) × (o ≡ some (a, q)) × (k a q ≡ some (b, r))
and_then_some none k b r e = no_some (b, r) e
and_then_some (some x) k b r e = (x.0, x.1, refl, e)

pub or_else_some : {A : Type 0} (p q : Option A) (a : A) → or_else p q ≡ some a → (p ≡ some a) ⊎ (q ≡ some a)
or_else_some none q a e = inr e
or_else_some (some x) q a e = inl e

pub cond_some : {A : Type 0} (c : Bool) (p q : Option A) (a : A) → cond c p q ≡ some a
    → ((c ≡ true) × (p ≡ some a)) ⊎ ((c ≡ false) × (q ≡ some a))
cond_some true p q a e = inl (refl, e)
cond_some false p q a e = inr (refl, e)

pub whole_some : {A : Type 0} (o : Option (A × List ℕ)) (a : A) → whole o ≡ some a → o ≡ some (a, [])
whole_some none a e = no_some a e
whole_some {A} (some x) a e = go x.0 x.1 e
  where
    go : (v : A) (q : List ℕ) → at_end v q ≡ some a → ◌≡◌ {A = Option (A × List ℕ)} (some (v, q)) (some (a, []))
    go v [] e = ap {B = Option (A × List ℕ)} (λ (y : A). some (y, [])) (some-injective v a e)
    go v (y ∷ ys) e = no_some a e

-- ---- lists of bytes

pub bytes_drop : (n : ℕ) (b : List ℕ) → Bytes b → Bytes (drop n b)
bytes_drop n b h i = subst (λ (x : ℕ). x < 256) (sym (get_or-drop n b i 0)) (h (n + i))

pub bytes_rest : (p r b : List ℕ) → b ≡ p ++ r → Bytes b → Bytes r
bytes_rest p r b e h = subst Bytes (ap (drop (length p)) e ∙ drop_at p r (length p) refl) (bytes_drop (length p) b h)

-- ---- zeros

pub zeros-replicate : (n : ℕ) → zeros (replicate n 0) ≡ true
zeros-replicate zero = refl
zeros-replicate (suc n) = zeros-replicate n

pub zeros-only : (b : List ℕ) → zeros b ≡ true → b ≡ replicate (length b) 0
zeros-only [] e = refl
zeros-only (x ∷ xs) e =
    let (p, q) = and_both (eqb x 0) (zeros xs) e in
    let l : x ≡ 0 = eqb-true x 0 p in
    let m : xs ≡ replicate (length xs) 0 = zeros-only xs q in
    λ i. l i ∷ m i
