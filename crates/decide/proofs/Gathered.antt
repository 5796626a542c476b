-- The list of candidates is that of the slots that enter it, in order: by induction on the servers. An equal one before is a slot's or a listed
-- one's, which is the same for a candidate that is not blank. Nothing is assumed.
use mathlib.Core.Path.{◌≡◌, refl, sym, ap, ◌∙◌, subst}
use mathlib.Core.Bool.{Bool, true, false, cond, not, ◌||◌}
use mathlib.Core.List.{List, [], ◌∷◌, ◌++◌}
use Prim.Native.Nat.{ℕ, zero, suc, ◌+◌, ◌<◌}
use native.Mathlib.Omega.{arith}
use lib.Dec.{T, eqb}
use lib.ListN.{length, length-append}
use borrow.Author.Tests.{eqb-true, eqb-false, not-false}
use Rattle.protocol.specs.Values.{Candidate, same_candidate, is_blank_def}
use Rattle.protocol.specs.Rules.{ByServer, count_to, any, gather}
use Rattle.protocol.proofs.Equal.{candidate-same, candidate-refl}
use Rattle.decide.specs.Listing.{enters}

pub any_append : {A : Type 0} (p : A → Bool) (xs ys : List A) → any p (xs ++ ys) ≡ (any p xs || any p ys)
unfolding any
any_append p [] ys = refl
any_append p (x ∷ xs) ys = go (p x) (any_append p xs ys)
  where
    go : (b : Bool) → any p (xs ++ ys) ≡ (any p xs || any p ys) → (b || any p (xs ++ ys)) ≡ ((b || any p xs) || any p ys)
    go true e = refl
    go false e = e

module _ (g : ByServer Candidate) where
  -- one server more
  pub gather_more : (n : ℕ) → gather g (suc n) ≡ cond (enters g (suc n)) (gather g n ++ (g (suc n) ∷ [])) (gather g n)
  unfolding gather enters
  gather_more n = go (is_blank_def (g (suc n)).stamp || any (same_candidate (g (suc n))) (gather g n))
    where
      go : (b : Bool) → cond b (gather g n) (gather g n ++ (g (suc n) ∷ [])) ≡ cond (not b) (gather g n ++ (g (suc n) ∷ [])) (gather g n)
      go true = refl
      go false = refl

  pub gather-count : (n : ℕ) → length (gather g n) ≡ count_to n (enters g)
  unfolding count_to gather
  gather-count zero = refl
  gather-count (suc n) = ap length (gather_more n) ∙ go (enters g (suc n)) (gather-count n)
    where
      go : (b : Bool) → length (gather g n) ≡ count_to n (enters g)
          → length (cond b (gather g n ++ (g (suc n) ∷ [])) (gather g n)) ≡ cond b 1 0 + count_to n (enters g)
      go true e = omega (arith, length-append (gather g n) (g (suc n) ∷ []))
      go false e = omega arith

  -- no slot before holds an equal one
  pub any_none : (x : Candidate) (n : ℕ) → ((j : ℕ) → j < n → same_candidate x (g (suc j)) ≡ false) → any (same_candidate x) (gather g n) ≡ false
  unfolding gather any
  any_none x zero h = refl
  any_none x (suc n) h = ap (any (same_candidate x)) (gather_more n) ∙ go (enters g (suc n)) (any_none x n (λ j l. h j (omega arith)))
    where
      go : (b : Bool) → any (same_candidate x) (gather g n) ≡ false
          → any (same_candidate x) (cond b (gather g n ++ (g (suc n) ∷ [])) (gather g n)) ≡ false
      go true e = any_append (same_candidate x) (gather g n) (g (suc n) ∷ []) ∙ rw (e, h n (omega arith))
      go false e = e

  -- one server more: an equal one stays, and one that is not blank is there afterwards
  any-kept : (p : Candidate → Bool) (n : ℕ) → any p (gather g n) ≡ true → any p (gather g (suc n)) ≡ true
  any-kept p n r = ap (any p) (gather_more n) ∙ go (enters g (suc n))
    where
      go : (y : Bool) → any p (cond y (gather g n ++ (g (suc n) ∷ [])) (gather g n)) ≡ true
      go true = any_append p (gather g n) (g (suc n) ∷ []) ∙ rw r
      go false = r

  any_last : (n : ℕ) → is_blank_def (g (suc n)).stamp ≡ false → any (same_candidate (g (suc n))) (gather g (suc n)) ≡ true
  unfolding gather any
  any_last n b = go (any (same_candidate (g (suc n))) (gather g n)) refl
    where
      go : (y : Bool) → any (same_candidate (g (suc n))) (gather g n) ≡ y
          → any (same_candidate (g (suc n))) (cond (is_blank_def (g (suc n)).stamp || y) (gather g n) (gather g n ++ (g (suc n) ∷ []))) ≡ true
      go true r = rw (b, r)
      go false r = rw b (any_append (same_candidate (g (suc n))) (gather g n) (g (suc n) ∷ []) ∙ rw (r, candidate-refl (g (suc n))))

  -- a slot before holds an equal one, which is not blank
  pub any_some : (x : Candidate) (n j : ℕ) → is_blank_def x.stamp ≡ false → j < n → same_candidate x (g (suc j)) ≡ true → any (same_candidate x)
      (gather g n) ≡ true
  any_some x zero j b l e = absurd (omega arith)
  any_some x (suc n) j b l e = go (eqb j n) refl (any_some x n j b)
    where
      go : (y : Bool) → eqb j n ≡ y → (j < n → same_candidate x (g (suc j)) ≡ true → any (same_candidate x) (gather g n) ≡ true)
          → any (same_candidate x) (gather g (suc n)) ≡ true
      go true q f =
          let i : j ≡ n = eqb-true j n q in
          let k : x ≡ g (suc n) = candidate-same x (g (suc n)) (subst (λ (i : ℕ). same_candidate x (g (suc i)) ≡ true) i e) in
          subst (λ (z : Candidate). any (same_candidate z) (gather g (suc n)) ≡ true) (sym k)
          (any_last n (subst (λ (z : Candidate). is_blank_def z.stamp ≡ false) k b))
      go false q f = let d = eqb-false j n q in any-kept (same_candidate x) n (f (omega arith) e)

  -- whether one enters, by the slots before it
  pub enters-blank : (n : ℕ) → is_blank_def (g (suc n)).stamp ≡ true → enters g (suc n) ≡ false
  unfolding enters
  enters-blank n e = rw e

  pub enters_twin : (n j : ℕ) → is_blank_def (g (suc n)).stamp ≡ false → j < n → same_candidate (g (suc n)) (g (suc j)) ≡ true → enters g (suc n) ≡ false
  unfolding enters
  enters_twin n j b l e = rw (b, any_some (g (suc n)) n j b l e)

  pub enters_new : (n : ℕ) → is_blank_def (g (suc n)).stamp ≡ false → ((j : ℕ) → j < n → same_candidate (g (suc n)) (g (suc j)) ≡ false) → enters g (suc n)
      ≡ true
  unfolding enters
  enters_new n b h = rw (b, any_none (g (suc n)) n h)

  pub entered : (n : ℕ) → enters g (suc n) ≡ true → is_blank_def (g (suc n)).stamp ≡ false
  entered n e = go (is_blank_def (g (suc n)).stamp) refl
    where
      go : (b : Bool) → is_blank_def (g (suc n)).stamp ≡ b → is_blank_def (g (suc n)).stamp ≡ false
      go true q = absurd (subst T (sym e ∙ enters-blank n q) tt)
      go false q = q

  -- one that is kept out, and not for being blank, has a twin in the list
  pub kept_out : (n : ℕ) → enters g (suc n) ≡ false → is_blank_def (g (suc n)).stamp ≡ false → any (same_candidate (g (suc n))) (gather g n) ≡ true
  unfolding enters
  kept_out n e q = not-false (any (same_candidate (g (suc n))) (gather g n)) (subst (λ (b : Bool). not
      (b || any (same_candidate (g (suc n))) (gather g n)) ≡ false) q e)
