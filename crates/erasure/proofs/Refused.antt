-- Refusals, test by test: what a range and a count amount to, and that the first test that applies gives the number.
-- Each law goes through the cases of its tests. Nothing is assumed.
use mathlib.Core.Path.{◌≡◌, refl, sym, ap, ap₂, ◌∙◌}
use mathlib.Core.Logic.{◌≢◌}
use mathlib.Core.Bool.{Bool, true, false, not, cond, ◌&&◌}
use mathlib.Core.List.{List, [], ◌∷◌, ◌++◌}
use Prim.Native.Nat.{ℕ, zero, suc, ◌+◌, ◌*◌, ◌/◌, ◌%◌, ◌<◌, ◌≤◌, suc-le-suc}
use native.Mathlib.Nat.{zero-lt-suc, le_of_suc-le-suc, not-suc-le-zero, suc-ne-zero, mul-mod_left, mul-div_cancel, mul-zero, div-add-mod', add-zero}
use native.Mathlib.Decide.{ℕ_discrete}
use lib.Dec.{eqb, ltb}
use lib.ListN.{length, get_or}
use borrow.Author.Tests.{eq-eqb, ne_eqb, ltb-false, eqb-true, not-false}
use Rattle.std.proofs.Common.{◌||◌}
use Rattle.std.specs.List.{list_any}
use Rattle.cluster.specs.Config.{shelf}
use Rattle.cluster.specs.Ranges.{within, top_length, top_faults, content_room}
use Rattle.cluster.specs.Refusals.{Check, first_of, refusal_number}
use Rattle.cluster.specs.declared.Refusal.{Refusal}
use Rattle.cluster.specs.declared.Refusal.TheVariants.{MemorySize, Memory, Faults, Server, Client, Length, Layout, Addressee, Sender, Reply, Hand, Numbers, Room, Fragments, Line, Stores, WrongSize}
use Rattle.cluster.proofs.Tests.{and_both, within_bounds}
use Rattle.erasure.specs.Fragments.{fragment_size_def}
use Rattle.erasure.specs.Steps.{each, fragment_refusal_def, argument_checks}

-- a refusal has a number, which is not 0
pub refused-number : (why : Refusal) → refusal_number why ≢ 0
refused-number MemorySize = suc-ne-zero 0
refused-number Memory = suc-ne-zero 1
refused-number Faults = suc-ne-zero 2
refused-number Server = suc-ne-zero 3
refused-number Client = suc-ne-zero 4
refused-number Length = suc-ne-zero 5
refused-number Layout = suc-ne-zero 6
refused-number Addressee = suc-ne-zero 7
refused-number Sender = suc-ne-zero 8
refused-number Reply = suc-ne-zero 11
refused-number Hand = suc-ne-zero 12
refused-number Numbers = suc-ne-zero 13
refused-number Room = suc-ne-zero 14
refused-number Fragments = suc-ne-zero 15
refused-number Line = suc-ne-zero 16
refused-number Stores = suc-ne-zero 17
refused-number WrongSize = suc-ne-zero 254

-- ---- ranges and counts

pub each_fails : (f : ℕ → Bool) (xs : List ℕ) (i : ℕ) → i < length xs → f (get_or xs i 0) ≡ false → each f xs ≡ false
unfolding each
each_fails f [] i h e = absurd (not-suc-le-zero h)
each_fails f (x ∷ xs) zero h e = ap (λ t. t && each f xs) e
each_fails f (x ∷ xs) (suc i) h e = ap (λ t. f x && t) (each_fails f xs i (le_of_suc-le-suc h) e) ∙ and-false (f x)
  where
    and-false : (t : Bool) → (t && false) ≡ false
    and-false true = refl
    and-false false = refl

pub each_holds : (f : ℕ → Bool) (xs : List ℕ) → ((i : ℕ) → i < length xs → f (get_or xs i 0) ≡ true) → each f xs ≡ true
unfolding each
each_holds f [] h = refl
each_holds f (x ∷ xs) h = ap₂ (λ s t. s && t) (h 0 (zero-lt-suc (length xs))) (each_holds f xs (λ i b. h (suc i) (suc-le-suc b)))

pub each_at : (f : ℕ → Bool) (xs : List ℕ) → each f xs ≡ true → (i : ℕ) → i < length xs → f (get_or xs i 0) ≡ true
unfolding each
each_at f [] e i h = absurd (not-suc-le-zero h)
each_at f (x ∷ xs) e zero h = (and_both (f x) (each f xs) e).0
each_at f (x ∷ xs) e (suc i) h = each_at f xs (and_both (f x) (each f xs) e).1 i (le_of_suc-le-suc h)

-- some fail, or each passes
pub any_each : (f : ℕ → Bool) (xs : List ℕ) → list_any (λ x. not (f x)) xs ≡ not (each f xs)
unfolding each
any_each f [] = refl
any_each f (x ∷ xs) = go (f x) (any_each f xs)
  where
    go : (b : Bool) → list_any (λ y. not (f y)) xs ≡ not (each f xs) → (not b || list_any (λ y. not (f y)) xs) ≡ not (b && each f xs)
    go true rest = rest
    go false rest = refl

-- fragments of no bytes, however many, have none together
pub none-counted : (given f k : ℕ) → f ≡ 0 → not (eqb given 0) ≡ not (eqb given (k * f))
none-counted given f k e = ap (λ (x : ℕ). not (eqb given x)) (sym (mul-zero k) ∙ ap (λ (x : ℕ). k * x) (sym e))

-- a length is a whole number of fragments, as many as servers
pub counted : (given f k : ℕ) → given % f ≡ 0 → given / f ≡ k → eqb given (k * f) ≡ true
counted given f k r q = eq-eqb given (k * f) (sym (div-add-mod' given f) ∙ ap₂ (λ (x y : ℕ). x * f + y) q r ∙ add-zero (k * f))

pub not-whole : (given f k : ℕ) → given % f ≢ 0 → eqb given (k * f) ≡ false
not-whole given f k ne = ne_eqb given (k * f) (λ e. ne (ap (λ (x : ℕ). x % f) e ∙ mul-mod_left k f))

pub not-many : (given f k : ℕ) → 0 < f → given / f ≢ k → eqb given (k * f) ≡ false
not-many given f k h ne = ne_eqb given (k * f) (λ e. ne (ap (λ (x : ℕ). x / f) e ∙ mul-div_cancel k h))

pub quotient : (given f k : ℕ) → 0 < f → given % f ≡ 0 → not (eqb (given / f) k) ≡ not (eqb given (k * f))
quotient given f k h r = go (ℕ_discrete (given / f) k)
  where
    go : Dec (given / f ≡ k) → not (eqb (given / f) k) ≡ not (eqb given (k * f))
    go (yes e) = ap not (eq-eqb (given / f) k e ∙ sym (counted given f k r e))
    go (no ne) = ap not (ne_eqb (given / f) k ne ∙ sym (not-many given f k h ne))

-- ---- making a fragment

pub fragment_tests : (t server n : ℕ) (a b c : Bool) → not (within 1 top_faults t) ≡ a → not (within 1 (shelf t).servers server) ≡ b
    → ltb top_length n ≡ c → fragment_refusal_def t server n ≡ cond a 3 (cond b 4 (cond c 6 0))
unfolding fragment_refusal_def
fragment_tests t server n a b c p q r = λ i. cond (p i) 3 (cond (q i) 4 (cond (r i) 6 0))

pub record Makes (t server n : ℕ) : Type 0 where
  pub faults : (1 ≤ t) × (t ≤ top_faults)
  pub number : (1 ≤ server) × (server ≤ (shelf t).servers)
  pub bytes : n ≤ top_length

pub makes : (t server n : ℕ) → fragment_refusal_def t server n ≡ 0 → Makes t server n
makes t server n e = go (not (within 1 top_faults t)) (not (within 1 (shelf t).servers server)) (ltb top_length n) refl refl refl
  where
    go : (a b c : Bool) → not (within 1 top_faults t) ≡ a → not (within 1 (shelf t).servers server) ≡ b → ltb top_length n ≡ c
        → Makes t server n
    go true b c p q r = absurd (suc-ne-zero 2 (sym (fragment_tests t server n true b c p q r) ∙ e))
    go false true c p q r = absurd (suc-ne-zero 3 (sym (fragment_tests t server n false true c p q r) ∙ e))
    go false false true p q r = absurd (suc-ne-zero 5 (sym (fragment_tests t server n false false true p q r) ∙ e))
    go false false false p q r = record {
      faults = within_bounds 1 top_faults t (not-false (within 1 top_faults t) p);
      number = within_bounds 1 (shelf t).servers server (not-false (within 1 (shelf t).servers server) q);
      bytes = ltb-false top_length n r;
    }

-- ---- restoring

module _ (t n : ℕ) (servers : List ℕ) (given room : ℕ) where
  pub argument_tests : (a b c d e : Bool) → not (within 1 top_faults t) ≡ a → not (each (within 1 (shelf t).servers) servers) ≡ b
      → ltb top_length n ≡ c → ltb room content_room ≡ d → not (eqb given (length servers * fragment_size_def (shelf t).threshold n))
      ≡ e
      → first_of (argument_checks t n servers given room) ≡ cond a 3 (cond b 4 (cond c 6 (cond d 15 (cond e 16 0))))
  unfolding argument_checks
  argument_tests a b c d e p q r s u = λ i. cond (p i) 3 (cond (q i) 4 (cond (r i) 6 (cond (s i) 15 (cond (u i) 16 0))))

  pub record Restores : Type 0 where
    pub faults : (1 ≤ t) × (t ≤ top_faults)
    pub numbers : (i : ℕ) → i < length servers → (1 ≤ get_or servers i 0) × (get_or servers i 0 ≤ (shelf t).servers)
    pub bytes : n ≤ top_length
    pub fits : content_room ≤ room
    pub whole : given ≡ length servers * fragment_size_def (shelf t).threshold n

  pub restores : first_of (argument_checks t n servers given room) ≡ 0 → Restores
  restores e = go (not (within 1 top_faults t)) (not (each (within 1 (shelf t).servers) servers)) (ltb top_length n)
      (ltb room content_room)
      (not (eqb given (length servers * fragment_size_def (shelf t).threshold n))) refl refl refl refl refl
    where
      go : (a b c d f : Bool) → not (within 1 top_faults t) ≡ a → not (each (within 1 (shelf t).servers) servers) ≡ b
          → ltb top_length n ≡ c → ltb room content_room ≡ d
          → not (eqb given (length servers * fragment_size_def (shelf t).threshold n))
          ≡ f → Restores
      go true b c d f p q r s u = absurd (suc-ne-zero 2 (sym (argument_tests true b c d f p q r s u) ∙ e))
      go false true c d f p q r s u = absurd (suc-ne-zero 3 (sym (argument_tests false true c d f p q r s u) ∙ e))
      go false false true d f p q r s u = absurd (suc-ne-zero 5 (sym (argument_tests false false true d f p q r s u) ∙ e))
      go false false false true f p q r s u = absurd (suc-ne-zero 14 (sym (argument_tests false false false true f p q r s u) ∙ e))
      go false false false false true p q r s u = absurd (suc-ne-zero 15 (sym (argument_tests false false false false true p q r s u) ∙ e))
      go false false false false false p q r s u = record {
        faults = within_bounds 1 top_faults t (not-false (within 1 top_faults t) p);
        numbers = λ i h. within_bounds 1 (shelf t).servers (get_or servers i 0)
            (each_at (within 1 (shelf t).servers) servers (not-false (each (within 1 (shelf t).servers) servers) q) i h);
        bytes = ltb-false top_length n r;
        fits = ltb-false room content_room s;
        whole = eqb-true given (length servers * fragment_size_def (shelf t).threshold n) (not-false
            (eqb given (length servers * fragment_size_def (shelf t).threshold n)) u);
      }

-- ---- one list of tests behind another

pub first_of_first : (xs ys : List Check) → first_of xs ≢ 0 → first_of (xs ++ ys) ≡ first_of xs
first_of_first [] ys ne = absurd (ne refl)
first_of_first (x ∷ xs) ys ne = go x.when (first_of_first xs ys) ne
  where
    go : (b : Bool) → (first_of xs ≢ 0 → first_of (xs ++ ys) ≡ first_of xs) → cond b x.number (first_of xs) ≢ 0 → cond b x.number
        (first_of (xs ++ ys)) ≡ cond b x.number (first_of xs)
    go true rest h = refl
    go false rest h = rest h

-- none of the numbers is 0
abbrev pub Counts : List Check → Type 0
Counts [] = Unit {0}
Counts (x ∷ xs) = (x.number ≢ 0) × Counts xs

pub first_of_second : (xs ys : List Check) → Counts xs → first_of xs ≡ 0 → first_of (xs ++ ys) ≡ first_of ys
first_of_second [] ys c e = refl
first_of_second (x ∷ xs) ys c e = go x.when (first_of_second xs ys c.1) e
  where
    go : (b : Bool) → (first_of xs ≡ 0 → first_of (xs ++ ys) ≡ first_of ys) → cond b x.number (first_of xs) ≡ 0 → cond b x.number
        (first_of (xs ++ ys)) ≡ first_of ys
    go true rest h = absurd (c.0 h)
    go false rest h = rest h
