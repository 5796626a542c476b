-- Lists by server number: the servers that a test picks, and the list that collect leaves, with every candidate that is not blank in it.
-- Assumes nothing.
use mathlib.Core.Path.{◌≡◌, refl, sym, ◌∙◌, subst}
use mathlib.Core.Bool.{Bool, true, false, cond, ◌||◌}
use mathlib.Core.List.{List, [], ◌∷◌, ◌++◌, append-nil}
use mathlib.Core.Logic.{◌⊎◌, inl, inr}
use Prim.Native.Nat.{ℕ, zero, suc, ◌+◌, ◌≤◌}
use native.Mathlib.Omega.{arith}
use lib.Dec.{leb, eqb}
use lib.ListN.{length, length-append}
use borrow.Author.Tests.{leb-true, leb-false, ne_eqb}
use Rattle.cluster.specs.Config.{up_to}
use Rattle.protocol.specs.Values.{Candidate, same_candidate, is_blank_def}
use Rattle.protocol.specs.Rules.{ByServer, any, count_to, gather}
use Rattle.protocol.proofs.Equal.{candidate-same}
use Rattle.format.proofs.Answers.{at-cond}
use Rattle.atomicity.specs.Lists.{All, In, AllPairs}
use Rattle.atomicity.proofs.Util.{bool_case, cond_both, clash, or_cases, any_in, left_in, right_in, split_in, all_map}

-- ---- lists by server number

-- the servers of 1 to n that p marks
unfoldable pub members : (ℕ → Bool) → ℕ → List ℕ
members p zero = []
members p (suc n) = members p n ++ cond (p (suc n)) (suc n ∷ []) []

pub members-length : (p : ℕ → Bool) (n : ℕ) → length (members p n) ≡ count_to n p
unfolding members count_to
members-length p zero = refl
members-length p (suc n) = length-append (members p n) (cond (p (suc n)) (suc n ∷ []) []) ∙ go (p (suc n)) (members-length p n)
  where
    go : (b : Bool) → length (members p n) ≡ count_to n p → length (members p n) + length (cond b (suc n ∷ []) []) ≡ cond b 1 0 + count_to n p
    go true e = omega (arith, e)
    go false e = omega (arith, e)

module _ {A : Type 0} where
  pub all_append : (P : A → Type 0) (xs ys : List A) → All P xs → All P ys → All P (xs ++ ys)
  unfolding All
  all_append P [] ys h k = k
  all_append P (x ∷ xs) ys h k = (h.0, all_append P xs ys h.1 k)

  pub pairs_snoc : (R : A → A → Type 0) (xs : List A) (y : A) → AllPairs R xs → All (λ x. R x y) xs → AllPairs R (xs ++ (y ∷ []))
  unfolding All AllPairs
  pairs_snoc R [] y h k = (tt, tt)
  pairs_snoc R (x ∷ xs) y h k = (all_append (R x) xs (y ∷ []) h.0 (k.0, tt), pairs_snoc R xs y h.1 k.1)

pub members_range : (p : ℕ → Bool) (n : ℕ) → All (λ i. (1 ≤ i) × (i ≤ n)) (members p n)
unfolding members All
members_range p zero = tt
members_range p (suc n) = all_append (λ i. (1 ≤ i) × (i ≤ suc n)) (members p n) _
    (all_map (λ i. (1 ≤ i) × (i ≤ n)) _ (λ i h. (h.0, omega (arith, h.1))) (members p n) (members_range p n))
    (cond_both (All (λ i. (1 ≤ i) × (i ≤ suc n))) (p (suc n)) (suc n ∷ []) [] ((omega arith, omega arith), tt) tt)

pub members_apart : (p : ℕ → Bool) (n : ℕ) → AllPairs (λ a b. eqb a b ≡ false) (members p n)
unfolding members AllPairs
members_apart p zero = tt
members_apart p (suc n) = go (p (suc n)) (members_apart p n)
  where
    go : (b : Bool) → AllPairs (λ a b. eqb a b ≡ false) (members p n) → AllPairs (λ a b. eqb a b ≡ false) (members p n ++ cond b (suc n ∷ []) [])
    go false h = subst (AllPairs (λ a b. eqb a b ≡ false)) (sym (append-nil (members p n))) h
    go true h = pairs_snoc (λ a b. eqb a b ≡ false) (members p n) (suc n) h
        (all_map (λ i. (1 ≤ i) × (i ≤ n)) (λ i. eqb i (suc n) ≡ false) (λ i k. ne_eqb i (suc n) (λ e. omega (arith, e, k.1))) (members p n)
        (members_range p n))

pub up_to_in : (n i : ℕ) → 1 ≤ i → i ≤ n → In i (up_to n)
unfolding up_to In
up_to_in zero i l h = absurd (omega arith)
up_to_in (suc n) i l h = bool_case (leb i n) (λ e. left_in i (up_to n) (suc n ∷ []) (up_to_in n i l (leb-true i n e)))
    (λ e. right_in i (up_to n) (suc n ∷ []) (inl (let r : i ≡ suc n = omega (arith, leb-false i n e) in r)))

-- ---- the list that collect leaves

pub in-gather : (g : ByServer Candidate) (n i : ℕ) → 1 ≤ i → i ≤ n → is_blank_def (g i).stamp ≡ false → In (g i) (gather g n)
unfolding gather In
in-gather g zero i lo hi e = absurd (omega arith)
in-gather g (suc n) i lo hi e =
    bool_case (leb i n) (λ l. old (leb-true i n l) (in-gather g n i lo (leb-true i n l) e))
    (λ l. new (let r : i ≡ suc n = omega (arith, leb-false i n l) in r))
  where
    old : i ≤ n → In (g i) (gather g n) →
        In (g i) (cond (is_blank_def (g (suc n)).stamp || any (same_candidate (g (suc n))) (gather g n)) (gather g n) (gather g n ++ (g (suc n) ∷ [])))
    old l k = cond_both (In (g i)) (is_blank_def (g (suc n)).stamp || any (same_candidate (g (suc n))) (gather g n)) _ _ k (left_in (g i) (gather g n) _ k)

    new : i ≡ suc n → In (g i) (cond (is_blank_def (g (suc n)).stamp || any (same_candidate (g (suc n))) (gather g n)) (gather g n)
        (gather g n ++ (g (suc n) ∷ [])))
    new q = subst (λ (z : ℕ). In (g z)
        (cond (is_blank_def (g (suc n)).stamp || any (same_candidate (g (suc n))) (gather g n)) (gather g n) (gather g n ++ (g (suc n) ∷ [])))) (sym q)
        (at-cond (is_blank_def (g (suc n)).stamp || any (same_candidate (g (suc n))) (gather g n)) _ _ (In (g (suc n)))
        (λ t. there (or_cases (is_blank_def (g (suc n)).stamp) _ t)) (λ t. right_in (g (suc n)) (gather g n) _ (inl refl)))
      where
        there : (is_blank_def (g (suc n)).stamp ≡ true) ⊎ (any (same_candidate (g (suc n))) (gather g n) ≡ true) → In (g (suc n)) (gather g n)
        there (inl b) = clash b (subst (λ (z : ℕ). is_blank_def (g z).stamp ≡ false) q e)
        there (inr a) = let r = any_in (same_candidate (g (suc n))) (gather g n) a in
            subst (λ (z : Candidate). In z (gather g n)) (sym (candidate-same (g (suc n)) r.0 r.2)) r.1

pub gather-blank : (g : ByServer Candidate) (n : ℕ) (d : Candidate) → In d (gather g n) → is_blank_def d.stamp ≡ false
unfolding gather In
gather-blank g zero d i = absurd i
gather-blank g (suc n) d i = go (is_blank_def (g (suc n)).stamp) refl (any (same_candidate (g (suc n))) (gather g n)) i (λ k. gather-blank g n d k)
  where
    go : (u : Bool) → is_blank_def (g (suc n)).stamp ≡ u → (v : Bool) → In d (cond (u || v) (gather g n) (gather g n ++ (g (suc n) ∷ []))) →
        (In d (gather g n) → is_blank_def d.stamp ≡ false) → is_blank_def d.stamp ≡ false
    go true e v k f = f k
    go false e true k f = f k
    go false e false k f = last (split_in d (gather g n) (g (suc n) ∷ []) k)
      where
        last : In d (gather g n) ⊎ ((d ≡ g (suc n)) ⊎ ⊥) → is_blank_def d.stamp ≡ false
        last (inl j) = f j
        last (inr (inl q)) = subst (λ (z : Candidate). is_blank_def z.stamp ≡ false) (sym q) e
        last (inr (inr z)) = absurd z
