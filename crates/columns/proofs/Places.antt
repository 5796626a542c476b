-- The first place at which a character passes a test, or the length: what `position` and `unwrap_or` give, and the definitions by recursion.
-- By induction on the characters. Assumes nothing.
use Rattle.std.proofs.Common.{◌≡◌, ℕ, suc, ◌+◌, ◌≤◌, Bool, true, false, cond, not, eqb, ltb, ◌==◌, List, [], ◌∷◌, length, drop, Option, Some, None, refl, ap, ◌∙◌, arith}
use Rattle.std.specs.List.{position_or_len}
use Rattle.std.specs.Option.{unwrap_or}
use borrow.Author.Tests.{ltb-false}
use Rattle.columns.specs.Lines.{newline, line_length}
use Rattle.columns.specs.Columns.{column, number}

pub place-fits : (p : ℕ → Bool) (xs : List ℕ) → position_or_len p xs ≤ length xs
place-fits p [] = omega arith
place-fits p (x ∷ xs) = go (p x) (place-fits p xs)
  where
    go : (b : Bool) → position_or_len p xs ≤ length xs → cond (not b) (1 + position_or_len p xs) 0 ≤ suc (length xs)
    go true h = omega arith
    go false h = omega arith

pub place_or_len : (p : ℕ → Bool) (xs : List ℕ) (r : Option ℕ) (n : ℕ)
    → r ≡ cond (ltb (position_or_len p xs) (length xs)) (Some (position_or_len p xs)) None → n ≡ unwrap_or r (length xs) → n ≡ position_or_len p xs
place_or_len p xs r n e u = u ∙ ap (λ (o : Option ℕ). unwrap_or o (length xs)) e ∙ go (ltb (position_or_len p xs) (length xs)) refl
  where
    go : (b : Bool) → ltb (position_or_len p xs) (length xs) ≡ b
        → unwrap_or (cond b (Some (position_or_len p xs)) None) (length xs) ≡ position_or_len p xs
    go true h = refl
    go false h = let l = ltb-false (position_or_len p xs) (length xs) h in omega (arith, place-fits p xs)

-- spaces, then a number
pub column-past : (s : List ℕ) → column s ≡ number (drop (position_or_len (λ b. not (b == 32)) s) s)
unfolding column number
column-past [] = refl
column-past (x ∷ xs) = go (eqb x 32) (column-past xs)
  where
    n : ℕ
    n = position_or_len (λ b. not (b == 32)) xs

    go : (b : Bool) → column xs ≡ number (drop n xs) → cond b (column xs) (number (x ∷ xs)) ≡ number (drop (cond (not (not b)) (1 + n) 0) (x ∷ xs))
    go true h = let e : 1 + n ≡ suc n = omega arith in rw e h
    go false h = refl

-- the characters of a line
pub line_length_lem : (s : List ℕ) → line_length s ≡ position_or_len (λ b. b == newline) s
unfolding line_length
line_length_lem [] = refl
line_length_lem (x ∷ xs) = go (eqb x newline) (line_length_lem xs)
  where
    n : ℕ
    n = position_or_len (λ b. b == newline) xs

    go : (b : Bool) → line_length xs ≡ n → cond b 0 (suc (line_length xs)) ≡ cond (not b) (1 + n) 0
    go true h = refl
    go false h = omega (arith, h)
