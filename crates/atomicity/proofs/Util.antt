-- Small tools: tests, case splits, membership, and what lasts along a run.
-- Assumes nothing.
use mathlib.Core.Path.{◌≡◌, refl, sym, ap, ◌∙◌, subst}
use mathlib.Core.Bool.{Bool, true, false, cond, not, ◌&&◌, ◌||◌, true≢false}
use mathlib.Core.List.{List, [], ◌∷◌, ◌++◌, map, flat_map}
use mathlib.Core.Option.{none, some, Option}
use mathlib.Core.Logic.{◌⊎◌, inl, inr}
use Prim.Native.Nat.{ℕ, ◌≤◌}
use native.Mathlib.Omega.{arith}
use lib.Dec.{eqb, leb}
use borrow.Author.Tests.{eqb-true, eq-eqb, le-leb}
use Rattle.cluster.specs.Ranges.{within}
use Rattle.cluster.proofs.Tests.{untrue}
use Rattle.atomicity.specs.Lists.{Ever, Always, All, In, AllPairs}
use Rattle.protocol.specs.Values.{is_some}
use Rattle.protocol.specs.Rules.{any, keep, upd}
use Rattle.format.proofs.Answers.{at-cond}

pub cond_both : {A : Type 0} (P : A → Type 0) (b : Bool) (x y : A) → P x → P y → P (cond b x y)
cond_both P true x y f g = f
cond_both P false x y f g = g

pub bool_case : {A : Type 0} (b : Bool) → (b ≡ true → A) → (b ≡ false → A) → A
bool_case true f g = f refl
bool_case false f g = g refl

pub clash : {A : Type 0} {b : Bool} → b ≡ true → b ≡ false → A
clash p q = absurd (true≢false (sym p ∙ q))

pub unfalse : (b : Bool) → (b ≡ false → ⊥) → b ≡ true
unfalse true h = refl
unfalse false h = absurd (h refl)

pub not_f : (b : Bool) → b ≡ false → not b ≡ true
not_f true e = sym e
not_f false e = refl

pub and_left : (a b : Bool) → (a && b) ≡ true → a ≡ true
and_left true b e = refl
and_left false b e = e

pub and_right : (a b : Bool) → (a && b) ≡ true → b ≡ true
and_right true b e = e
and_right false b e = clash e refl

pub and_intro : (a b : Bool) → a ≡ true → b ≡ true → (a && b) ≡ true
and_intro true b p q = q
and_intro false b p q = p

pub within_in : (lo hi x : ℕ) → lo ≤ x → x ≤ hi → within lo hi x ≡ true
within_in lo hi x a b = and_intro (leb lo x) (leb x hi) (le-leb lo x a) (le-leb x hi b)

pub or_cases : (a b : Bool) → (a || b) ≡ true → (a ≡ true) ⊎ (b ≡ true)
or_cases true b e = inl refl
or_cases false b e = inr e

pub or_left : (a b : Bool) → a ≡ true → (a || b) ≡ true
or_left true b e = refl
or_left false b e = clash e refl

pub or_right : (a b : Bool) → b ≡ true → (a || b) ≡ true
or_right true b e = refl
or_right false b e = e

-- what a liar need not pass
pub or-given : (h a : Bool) → (not h || a) ≡ true → h ≡ true → a ≡ true
or-given true a e k = e
or-given false a e k = clash k refl

pub no_some : {A : Type 0} {a : A} → none ≡ some a → ⊥
no_some e = absurd (let z : ◌≡◌ {A = ℕ} 0 1 = cc in omega arith)

pub upd_case : {A : Type 0} (P : A → Type 0) (f : ℕ → A) (i : ℕ) (v : A) (j : ℕ) → (j ≡ i → P v) → (eqb j i ≡ false → P (f j)) → P (upd f i v j)
unfolding upd
upd_case P f i v j h k = go (eqb j i) refl
  where
    go : (b : Bool) → eqb j i ≡ b → P (cond b v (f j))
    go true e = h (eqb-true j i e)
    go false e = k e

pub upd_here : {A : Type 0} (f : ℕ → A) (i : ℕ) (v : A) → upd f i v i ≡ v
unfolding upd
upd_here f i v = ap (λ (b : Bool). cond b v (f i)) (eq-eqb i i refl)

pub upd_else : {A : Type 0} (f : ℕ → A) (i : ℕ) (v : A) (j : ℕ) → eqb j i ≡ false → upd f i v j ≡ f j
unfolding upd
upd_else f i v j e = ap (λ (b : Bool). cond b v (f j)) e

module _ {A : Type 0} where
  pub left_in : (a : A) (us vs : List A) → In a us → In a (us ++ vs)
  unfolding In
  left_in a [] vs i = absurd i
  left_in a (u ∷ us) vs (inl p) = inl p
  left_in a (u ∷ us) vs (inr i) = inr (left_in a us vs i)

  pub right_in : (a : A) (us vs : List A) → In a vs → In a (us ++ vs)
  unfolding In
  right_in a [] vs i = i
  right_in a (u ∷ us) vs i = inr (right_in a us vs i)

  pub split_in : (a : A) (us vs : List A) → In a (us ++ vs) → In a us ⊎ In a vs
  unfolding In
  split_in a [] vs k = inr k
  split_in a (u ∷ us) vs (inl e) = inl (inl e)
  split_in a (u ∷ us) vs (inr k) = go (split_in a us vs k)
    where
      go : In a us ⊎ In a vs → In a (u ∷ us) ⊎ In a vs
      go (inl z) = inl (inr z)
      go (inr z) = inr z

  pub all_in : (P : A → Type 0) (xs : List A) → All P xs → (x : A) → In x xs → P x
  unfolding All In
  all_in P [] h x i = absurd i
  all_in P (y ∷ ys) h x (inl e) = subst P (sym e) h.0
  all_in P (y ∷ ys) h x (inr i) = all_in P ys h.1 x i

  pub all_map : (P Q : A → Type 0) → ((x : A) → P x → Q x) → (xs : List A) → All P xs → All Q xs
  unfolding All
  all_map P Q f [] h = tt
  all_map P Q f (x ∷ xs) h = (f x h.0, all_map P Q f xs h.1)

  pub any_in : (p : A → Bool) (xs : List A) → any p xs ≡ true → (x : A) × In x xs × (p x ≡ true)
  unfolding any In
  any_in p [] e = clash e refl
  any_in p (x ∷ xs) e = go (or_cases (p x) (any p xs) e) (λ k. any_in p xs k)
    where
      go : (p x ≡ true) ⊎ (any p xs ≡ true) → (any p xs ≡ true → (y : A) × In y xs × (p y ≡ true)) → (y : A) × In y (x ∷ xs) × (p y ≡ true)
      go (inl q) f = (x, inl refl, q)
      go (inr q) f = let r = f q in (r.0, inr r.1, r.2)

  pub in-any : (p : A → Bool) (xs : List A) (x : A) → In x xs → p x ≡ true → any p xs ≡ true
  unfolding any In
  in-any p [] x i q = absurd i
  in-any p (y ∷ ys) x (inl e) q = or_left (p y) (any p ys) (subst (λ (z : A). p z ≡ true) e q)
  in-any p (y ∷ ys) x (inr i) q = or_right (p y) (any p ys) (in-any p ys x i q)

  pub none_in : (p : A → Bool) (xs : List A) → any p xs ≡ false → (x : A) → In x xs → p x ≡ false
  none_in p xs e x i = untrue (p x) (λ q. clash (in-any p xs x i q) e)

  pub in-keep : (p : A → Bool) (xs : List A) (x : A) → In x xs → p x ≡ true → In x (keep p xs)
  unfolding keep In
  in-keep p [] x i q = absurd i
  in-keep p (y ∷ ys) x (inl e) q = subst (λ (b : Bool). In x (cond b (y ∷ keep p ys) (keep p ys))) (sym (subst (λ (z : A). p z ≡ true) e q)) (inl e)
  in-keep p (y ∷ ys) x (inr i) q = go (p y) (in-keep p ys x i q)
    where
      go : (b : Bool) → In x (keep p ys) → In x (cond b (y ∷ keep p ys) (keep p ys))
      go true k = inr k
      go false k = k

  pub keep_in : (p : A → Bool) (xs : List A) (x : A) → In x (keep p xs) → In x xs × (p x ≡ true)
  unfolding keep In
  keep_in p [] x i = absurd i
  keep_in p (y ∷ ys) x i = go (p y) refl i (λ k. keep_in p ys x k)
    where
      go : (b : Bool) → p y ≡ b → In x (cond b (y ∷ keep p ys) (keep p ys)) → (In x (keep p ys) → In x ys × (p x ≡ true)) → In x (y ∷ ys)
          × (p x ≡ true)
      go true q (inl e) f = (inl e, subst (λ (z : A). p z ≡ true) (sym e) q)
      go true q (inr k) f = (inr (f k).0, (f k).1)
      go false q k f = (inr (f k).0, (f k).1)

  pub in_map : {B : Type 0} (f : A → B) (xs : List A) (x : A) → In x xs → In (f x) (map f xs)
  unfolding In
  in_map f [] x i = absurd i
  in_map f (y ∷ ys) x (inl e) = inl (ap f e)
  in_map f (y ∷ ys) x (inr i) = inr (in_map f ys x i)

  pub map_in : {B : Type 0} (f : A → B) (xs : List A) (b : B) → In b (map f xs) → (x : A) × In x xs × (b ≡ f x)
  unfolding In
  map_in f [] b i = absurd i
  map_in f (y ∷ ys) b (inl e) = (y, inl refl, e)
  map_in f (y ∷ ys) b (inr i) = let r = map_in f ys b i in (r.0, inr r.1, r.2)

  pub all_of : (P : A → Type 0) (xs : List A) → ((x : A) → In x xs → P x) → All P xs
  unfolding All In
  all_of P [] f = tt
  all_of P (x ∷ xs) f = (f x (inl refl), all_of P xs (λ y i. f y (inr i)))

  -- what always holds holds wherever something happened
  pub ever_with : (P Q : A → List A → Type 0) (xs : List A) → Always P xs → Ever Q xs → Ever (λ y ys. P y ys × Always P ys × Q y ys) xs
  unfolding Ever Always
  ever_with P Q [] h e = absurd e
  ever_with P Q (x ∷ xs) h (inl q) = inl (h.0, h.1, q)
  ever_with P Q (x ∷ xs) h (inr e) = inr (ever_with P Q xs h.1 e)

  pub ever-map : (P Q : A → List A → Type 0) → ((y : A) (ys : List A) → P y ys → Q y ys) → (xs : List A) → Ever P xs → Ever Q xs
  unfolding Ever
  ever-map P Q f [] e = absurd e
  ever-map P Q f (x ∷ xs) (inl p) = inl (f x xs p)
  ever-map P Q f (x ∷ xs) (inr e) = inr (ever-map P Q f xs e)

  pub ever-out : {Q : Type 0} (P : A → List A → Type 0) (xs : List A) → ((y : A) (ys : List A) → P y ys → Q) → Ever P xs → Q
  unfolding Ever
  ever-out P [] f e = absurd e
  ever-out P (x ∷ xs) f (inl p) = f x xs p
  ever-out P (x ∷ xs) f (inr e) = ever-out P xs f e

  -- what lasts, once it held
  pub rise : (P : List A → Type 0) → ((x : A) (xs : List A) → P xs → P (x ∷ xs)) → (xs : List A) → Ever (λ y ys. P (y ∷ ys)) xs → P xs
  unfolding Ever
  rise P f [] e = absurd e
  rise P f (x ∷ xs) (inl h) = h
  rise P f (x ∷ xs) (inr e) = f x xs (rise P f xs e)

module _ {A B : Type 0} where
  pub flat_in : (f : A → List B) (cs : List A) (c : A) (b : B) → In c cs → In b (f c) → In b (flat_map f cs)
  unfolding flat_map In
  flat_in f [] c b i j = absurd i
  flat_in f (x ∷ cs) c b (inl e) j = left_in b (f x) (flat_map f cs) (subst (λ (y : A). In b (f y)) e j)
  flat_in f (x ∷ cs) c b (inr i) j = right_in b (f x) (flat_map f cs) (flat_in f cs c b i j)

  pub in_flat : (f : A → List B) (cs : List A) (b : B) → In b (flat_map f cs) → (c : A) × In c cs × In b (f c)
  unfolding flat_map In
  in_flat f [] b i = absurd i
  in_flat f (x ∷ cs) b i = go (split_in b (f x) (flat_map f cs) i) (λ k. in_flat f cs b k)
    where
      go : In b (f x) ⊎ In b (flat_map f cs) → (In b (flat_map f cs) → (c : A) × In c cs × In b (f c)) → (c : A) × In c (x ∷ cs) × In b (f c)
      go (inl k) r = (x, inl refl, k)
      go (inr k) r = let q = r k in (q.0, inr q.1, q.2)

pub is_some_lem : {A : Type 0} (o : Option A) → is_some o ≡ true → (a : A) × (o ≡ some a)
is_some_lem none e = clash e refl
is_some_lem (some a) e = (a, refl)

pub keep_pairs : {A : Type 0} (R : A → A → Type 0) (p : A → Bool) (l : List A) → AllPairs R l → AllPairs R (keep p l)
unfolding keep AllPairs
keep_pairs R p [] h = tt
keep_pairs {A} R p (x ∷ l) h = at-cond (p x) (x ∷ keep p l) (keep p l) (AllPairs R)
    (λ e. (all_of (R x) (keep p l) (λ y i. all_in (R x) l h.0 y (keep_in p l y i).0), keep_pairs R p l h.1)) (λ e. keep_pairs R p l h.1)
