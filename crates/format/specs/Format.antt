-- Formats: how a value is printed, how it is parsed off the front of a list of bytes, and which values it holds.
-- A layout is one term of these combinators. Their laws stand in proofs/Formats: what is printed is parsed back, and what is parsed was printed.
-- `Lawful` is for these laws; no contract names it.
use Rattle.std.specs.Prelude.{◌≡◌, Bool, true, false, cond, ◌&&◌, ◌⊎◌, List, [], ◌∷◌, ◌++◌, ℕ, zero, suc, ◌+◌, ◌*◌, ◌/◌, ◌%◌, ◌≤◌, ◌<◌, length, take, drop, get_or, leb, eqb}
use Rattle.std.proofs.Math.Option.{Option, none, some}

-- every element is a byte
abbrev pub Bytes : List ℕ → Type 0
Bytes b = (i : ℕ) → get_or b i 0 < 256

pub record Fmt (A : Type 0) : Type 1 where
  pub Ok : A → Type 0
  pub print : A → List ℕ
  -- the value and the bytes after it
  pub parse : List ℕ → Option (A × List ℕ)

pub record Lawful {A : Type 0} (F : Fmt A) : Type 0 where
  pub made : (a : A) (r : List ℕ) → F.Ok a → F.parse (F.print a ++ r) ≡ some (a, r)
  pub fits : (b : List ℕ) (a : A) (r : List ℕ) → F.parse b ≡ some (a, r) → F.Ok a
  pub read : (b : List ℕ) (a : A) (r : List ℕ) → Bytes b → F.parse b ≡ some (a, r) → b ≡ F.print a ++ r

-- ---- parsers

abbrev pub guard : {A : Type 0} → Bool → Option A → Option A
guard true o = o
guard false o = none

abbrev pub and_then : {A B : Type 0} → Option (A × List ℕ) → (A → List ℕ → Option (B × List ℕ)) → Option (B × List ℕ)
and_then none k = none
and_then (some x) k = k x.0 x.1

abbrev pub or_else : {A : Type 0} → Option A → Option A → Option A
or_else none o = o
or_else (some a) o = some a

-- a number from lo to hi, and the bytes after it
abbrev pub ranged : ℕ → ℕ → ℕ → List ℕ → Option (ℕ × List ℕ)
ranged lo hi x r = guard (leb lo x) (guard (leb x hi) (some (x, r)))

-- ---- one byte from lo to hi

abbrev pub parse_byte : ℕ → ℕ → List ℕ → Option (ℕ × List ℕ)
parse_byte lo hi [] = none
parse_byte lo hi (x ∷ r) = ranged lo hi x r

unfoldable pub byte : ℕ → ℕ → Fmt ℕ
byte lo hi = record { Ok = λ x. (lo ≤ x) × (x ≤ hi); print = λ x. x ∷ []; parse = parse_byte lo hi }

-- ---- a big-endian number of 2 bytes, and one of 4, from lo to hi
-- The first byte printed is not reduced, so that the bytes tell every number.

abbrev pub value2 : ℕ → ℕ → ℕ
value2 a b = 256 * a + b

abbrev pub print2 : ℕ → List ℕ
print2 n = n / 256 ∷ n % 256 ∷ []

abbrev pub parse2 : ℕ → ℕ → List ℕ → Option (ℕ × List ℕ)
parse2 lo hi [] = none
parse2 lo hi (a ∷ []) = none
parse2 lo hi (a ∷ b ∷ r) = ranged lo hi (value2 a b) r

unfoldable pub number2 : ℕ → ℕ → Fmt ℕ
number2 lo hi = record { Ok = λ x. (lo ≤ x) × (x ≤ hi); print = print2; parse = parse2 lo hi }

abbrev pub value4 : ℕ → ℕ → ℕ → ℕ → ℕ
value4 a b c d = 16777216 * a + 65536 * b + 256 * c + d

abbrev pub print4 : ℕ → List ℕ
print4 n = n / 16777216 ∷ n / 65536 % 256 ∷ n / 256 % 256 ∷ n % 256 ∷ []

abbrev pub parse4 : ℕ → ℕ → List ℕ → Option (ℕ × List ℕ)
parse4 lo hi [] = none
parse4 lo hi (a ∷ []) = none
parse4 lo hi (a ∷ b ∷ []) = none
parse4 lo hi (a ∷ b ∷ c ∷ []) = none
parse4 lo hi (a ∷ b ∷ c ∷ d ∷ r) = ranged lo hi (value4 a b c d) r

unfoldable pub number4 : ℕ → ℕ → Fmt ℕ
number4 lo hi = record { Ok = λ x. (lo ≤ x) × (x ≤ hi); print = print4; parse = parse4 lo hi }

-- ---- n bytes; no bytes

unfoldable pub run : ℕ → Fmt (List ℕ)
run n =
    record {
      Ok = λ x. length x ≡ n;
      print = λ x. x;
      parse = λ b. guard (leb n (length b)) (some (take n b, drop n b));
    }

unfoldable pub empty : Fmt (Unit {0})
empty = record { Ok = λ x. Unit {0}; print = λ x. []; parse = λ b. some (tt, b) }

-- ---- one after the other; the second may depend on the first's value

unfoldable pub seq : {A B : Type 0} → Fmt A → (A → Fmt B) → Fmt (A × B)
seq F G =
    record {
      Ok = λ x. (F.Ok x.0) × ((G x.0).Ok x.1);
      print = λ x. F.print x.0 ++ (G x.0).print x.1;
      parse = λ b. and_then (F.parse b) (λ a q. and_then ((G a).parse q) (λ c r. some ((a, c), r)));
    }

-- ---- the same bytes, read as another type

unfoldable pub via : {A B : Type 0} → (A → B) → (B → A) → Fmt A → Fmt B
via to from F =
    record {
      Ok = λ x. F.Ok (from x);
      print = λ x. F.print (from x);
      parse = λ b. and_then (F.parse b) (λ a r. some (to a, r));
    }

-- ---- values that pass a test

unfoldable pub such : {A : Type 0} → (A → Bool) → Fmt A → Fmt A
such test F =
    record {
      Ok = λ x. (test x ≡ true) × (F.Ok x);
      print = F.print;
      parse = λ b. and_then (F.parse b) (λ a r. guard (test a) (some (a, r)));
    }

-- ---- n zeros for the blank value, where F takes no such bytes

abbrev pub zeros : List ℕ → Bool
zeros [] = true
zeros (x ∷ xs) = eqb x 0 && zeros xs

abbrev pub parse_blank : {A : Type 0} → ℕ → A → List ℕ → Option (A × List ℕ)
parse_blank n blank b = guard (leb n (length b)) (guard (zeros (take n b)) (some (blank, drop n b)))

unfoldable pub or_blank : {A : Type 0} → ℕ → A → Fmt A → Fmt A
or_blank n blank F =
    record {
      Ok = λ x. (x ≡ blank) ⊎ F.Ok x;
      print = F.print;
      parse = λ b. or_else (F.parse b) (parse_blank n blank b);
    }

-- ---- n of a kind

abbrev pub All : {A : Type 0} → (A → Type 0) → List A → Type 0
All P [] = Unit {0}
All P (a ∷ xs) = P a × All P xs

abbrev pub parse_many : {A : Type 0} → Fmt A → ℕ → List ℕ → Option (List A × List ℕ)
parse_many F zero b = some ([], b)
parse_many F (suc n) b = and_then (F.parse b) (λ a q. and_then (parse_many F n q) (λ xs r. some (a ∷ xs, r)))

abbrev pub print_many : {A : Type 0} → Fmt A → List A → List ℕ
print_many F [] = []
print_many F (a ∷ xs) = F.print a ++ print_many F xs

unfoldable pub many : {A : Type 0} → ℕ → Fmt A → Fmt (List A)
many n F = record { Ok = λ xs. (length xs ≡ n) × All F.Ok xs; print = print_many F; parse = parse_many F n }

-- ---- a byte 0, or a byte 1 and a value, where the byte is at most hi

abbrev pub print_optional : {A : Type 0} → Fmt A → Option A → List ℕ
print_optional F none = 0 ∷ []
print_optional F (some a) = 1 ∷ F.print a

abbrev pub OkOptional : {A : Type 0} → ℕ → Fmt A → Option A → Type 0
OkOptional hi F none = Unit {0}
OkOptional hi F (some a) = (1 ≤ hi) × F.Ok a

abbrev pub parse_present : {A : Type 0} → Fmt A → ℕ → List ℕ → Option (Option A × List ℕ)
parse_present F f q = cond (eqb f 0) (some (none, q)) (and_then (F.parse q) (λ a r. some (some a, r)))

unfoldable pub optional : {A : Type 0} → ℕ → Fmt A → Fmt (Option A)
optional hi F =
    record {
      Ok = OkOptional hi F;
      print = print_optional F;
      parse = λ b. and_then (parse_byte 0 hi b) (parse_present F);
    }

-- ---- the whole of the bytes, and nothing after them

abbrev pub at_end : {A : Type 0} → A → List ℕ → Option A
at_end a [] = some a
at_end a (y ∷ ys) = none

abbrev pub whole : {A : Type 0} → Option (A × List ℕ) → Option A
whole none = none
whole (some x) = at_end x.0 x.1
