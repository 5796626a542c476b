-- Tests of many bytes at once: joined by `or`, bytes are 0 when each of them is, and the `xor` of two bytes is 0 when they are the same.
-- So a loop that joins all bytes, or all differences, ends with the answer of the definition that goes byte by byte.
-- Assumes nothing.
use mathlib.Core.Path.{◌≡◌, refl, sym, ap, ◌∙◌}
use mathlib.Core.Bool.{Bool, true, false, ◌&&◌, and-true, and-false, and_assoc}
use mathlib.Core.List.{List, [], ◌∷◌, ◌++◌}
use Prim.Native.Nat.{ℕ, zero, suc, ◌+◌, ◌<◌}
use native.Mathlib.Omega.{arith}
use native.Mathlib.Numerals.{add-one}
use lib.Bits.{bit_or, bit_xor, or_zero_l, or_add_and, and_le_l, and_le_r, xor_self, xor_add_and}
use lib.Dec.{eqb}
use lib.ListN.{length, get_or, take, drop, take-append-drop}
use lib.Seq.{drop-cons}
use borrow.Author.Tests.{eq-eqb, ne_eqb, eqb-true, eqb-false}
use Rattle.format.specs.Format.{zeros}
use Rattle.protocol.specs.Values.{same_list}

or-eqb : (a b : ℕ) → eqb (bit_or a b) 0 ≡ eqb a 0 && eqb b 0
or-eqb zero b = ap (λ (x : ℕ). eqb x 0) (or_zero_l b)
or-eqb (suc a) b =
    ne_eqb (bit_or (suc a) b) 0 (λ e. omega (arith, or_add_and (suc a) b, and_le_r (suc a) b))
    ∙ sym (ap (λ (z : Bool). z && eqb b 0) (ne_eqb (suc a) 0 (λ e. omega arith)))

xor-eqb : (a b : ℕ) → eqb (bit_xor a b) 0 ≡ eqb a b
xor-eqb a b = by (eqb a b) refl
  where
    by : (t : Bool) → eqb a b ≡ t → eqb (bit_xor a b) 0 ≡ t
    by true e = eq-eqb (bit_xor a b) 0 (ap (bit_xor a) (sym (eqb-true a b e)) ∙ xor_self a)
    by false e = ne_eqb (bit_xor a b) 0 (λ z. eqb-false a b e (omega (arith, xor_add_and a b, and_le_l a b, and_le_r a b)))

module _ (s : List ℕ) (i : ℕ) where
  pub zeros_more : (all : ℕ) → i < length s → eqb all 0 && zeros (drop i s) ≡ eqb (bit_or all (get_or s i 0)) 0 && zeros (drop (i + 1) s)
  zeros_more all h =
      rw (add-one, drop-cons s i 0 h, or-eqb all (get_or s i 0)) (sym (and_assoc (eqb all 0) (eqb (get_or s i 0) 0) (zeros (drop (suc i) s))))

-- ---- chunk by chunk

zeros-append : (a b : List ℕ) → zeros (a ++ b) ≡ zeros a && zeros b
zeros-append [] b = refl
zeros-append (x ∷ xs) b = ap (λ (z : Bool). eqb x 0 && z) (zeros-append xs b) ∙ sym (and_assoc (eqb x 0) (zeros xs) (zeros b))

module _ (s : List ℕ) (n : ℕ) where
  zeros-split : zeros s ≡ zeros (take n s) && zeros (drop n s)
  zeros-split = ap zeros (sym (take-append-drop n s)) ∙ zeros-append (take n s) (drop n s)

  pub chunk-zero : zeros (take n s) ≡ true → zeros s ≡ zeros (drop n s)
  chunk-zero e = zeros-split ∙ rw e refl

  pub chunk-other : zeros (take n s) ≡ false → zeros s ≡ false
  chunk-other e = zeros-split ∙ rw e refl

pub lengths_differ : (a b : List ℕ) → (length a ≡ length b → ⊥) → same_list a b ≡ false
lengths_differ [] [] h = absurd (h refl)
lengths_differ [] (y ∷ ys) h = refl
lengths_differ (x ∷ xs) [] h = refl
lengths_differ (x ∷ xs) (y ∷ ys) h = ap (λ (z : Bool). eqb x y && z) (lengths_differ xs ys (λ e. h (ap suc e))) ∙ and-false (eqb x y)

pub same_more : (x y : ℕ) (xs ys : List ℕ) (all : ℕ)
    → eqb all 0 && same_list (x ∷ xs) (y ∷ ys) ≡ eqb (bit_or all (bit_xor x y)) 0 && same_list xs ys
same_more x y xs ys all = rw (or-eqb all (bit_xor x y), xor-eqb x y) (sym (and_assoc (eqb all 0) (eqb x y) (same_list xs ys)))

pub same_end : (xs ys : List ℕ) → length xs ≡ 0 → length ys ≡ 0 → (p : Bool) → p && same_list xs ys ≡ p
same_end [] [] h k p = and-true p
same_end [] (y ∷ ys) h k p = absurd (omega arith)
same_end (x ∷ xs) ys h k p = absurd (omega arith)
