-- Lists of different elements: no longer than any list that has them all, and no longer than a count of servers that marks them.
-- Assumes nothing.
use mathlib.Core.Path.{◌≡◌, refl, sym, ap, ◌∙◌, subst}
use mathlib.Core.Bool.{Bool, true, false}
use mathlib.Core.List.{List, [], ◌∷◌, map}
use mathlib.Core.Logic.{◌⊎◌, inl, inr}
use Prim.Native.Nat.{ℕ, suc, ◌≤◌}
use native.Mathlib.Omega.{arith}
use lib.Dec.{eqb}
use lib.ListN.{length}
use borrow.Author.Tests.{eqb-true, eqb-false, ne_eqb}
use Rattle.protocol.specs.Rules.{count_to, upd}
use Rattle.protocol.proofs.Marks.{count_mark}
use Rattle.atomicity.specs.Lists.{All, In, AllPairs}
use Rattle.atomicity.proofs.Util.{bool_case, all_in, all_of, map_in, upd_here, upd_else}
use Rattle.atomicity.proofs.Counting.{count_mono}

module _ {A : Type 0} where
  without : (b : A) (l : List A) → In b l → (r : List A) × (length l ≡ suc (length r)) × ((y : A) → In y l → (y ≡ b → ⊥) → In y r)
  unfolding In
  without b [] i = absurd i
  without b (x ∷ xs) (inl e) = (xs, refl, λ y i n. go y i n)
    where
      go : (y : A) → (y ≡ x) ⊎ In y xs → (y ≡ b → ⊥) → In y xs
      go y (inl q) n = absurd (n (q ∙ sym e))
      go y (inr k) n = k
  without b (x ∷ xs) (inr i) = let r = without b xs i in (x ∷ r.0, ap suc r.1, λ y k n. go r.0 y k (λ j. r.2 y j n))
    where
      go : (zs : List A) (y : A) → (y ≡ x) ⊎ In y xs → (In y xs → In y zs) → (y ≡ x) ⊎ In y zs
      go zs y (inl q) f = inl q
      go zs y (inr k) f = inr (f k)

  pub pigeon : (bs l : List A) → AllPairs (λ a b. a ≡ b → ⊥) bs → ((b : A) → In b bs → In b l) → length bs ≤ length l
  unfolding AllPairs In
  pigeon [] l d f = omega arith
  pigeon (b ∷ bs) l d f = let r = without b l (f b (inl refl)) in
      omega (arith, r.1, pigeon bs r.0 d.1 (λ y i. r.2 y (f y (inr i)) (λ e. all_in (λ z. b ≡ z → ⊥) bs d.0 y i (sym e))))

pub map_apart : {A B : Type 0} (g : A → B) (R : A → A → Type 0) (l : List A) → ((a b : A) → In a l → In b l → R a b → g a ≡ g b → ⊥) → AllPairs R l →
    AllPairs (λ a b. a ≡ b → ⊥) (map g l)
unfolding AllPairs In
map_apart g R [] f h = tt
map_apart {A} g R (x ∷ l) f h = (
  all_of (λ z. g x ≡ z → ⊥) (map g l)
      (λ z i. let r = map_in g l z i in λ e. f x r.0 (inl refl) (inr r.1) (all_in (R x) l h.0 r.0 r.1) (e ∙ r.2)),
  map_apart g R l (λ a b i j. f a b (inr i) (inr j)) h.1,
)

-- different servers of 1 to n that p marks are no more than p counts
pub marked-count : (n : ℕ) (bs : List ℕ) (p : ℕ → Bool) → AllPairs (λ a b. eqb a b ≡ false) bs →
    ((b : ℕ) → In b bs → (1 ≤ b) × (b ≤ n) × (p b ≡ true)) → length bs ≤ count_to n p
unfolding AllPairs In
marked-count n [] p d f = omega arith
marked-count n (b ∷ bs) p d f =
    let h = f b (inl refl) in
    let q = upd p b false in
    omega (
      arith,
      marked-count n bs q d.1 (λ c i. let k = f c (inr i) in
          (k.0, k.1, upd_else p b false c (ne_eqb c b (λ e. eqb-false b c (all_in (λ z. eqb b z ≡ false) bs d.0 c i) (sym e))) ∙ k.2)),
      count_mark n b q h.0 h.1 (upd_here p b false),
      count_mono (upd q b true) p n (λ x lo hi e. bool_case (eqb x b) (λ t. subst (λ (i : ℕ). p i ≡ true) (sym (eqb-true x b t)) h.2)
          (λ t. sym (upd_else p b false x t) ∙ sym (upd_else q b true x t) ∙ e)),
    )

pub counted_one : (n : ℕ) (p : ℕ → Bool) (b : ℕ) → 1 ≤ b → b ≤ n → p b ≡ true → 1 ≤ count_to n p
unfolding In AllPairs All
counted_one n p b lo hi e = marked-count n (b ∷ []) p (tt, tt) (λ c i. go c i)
  where
    go : (c : ℕ) → (c ≡ b) ⊎ ⊥ → (1 ≤ c) × (c ≤ n) × (p c ≡ true)
    go c (inl q) = (omega (arith, q), omega (arith, q), subst (λ (i : ℕ). p i ≡ true) (sym q) e)
    go c (inr z) = absurd z
