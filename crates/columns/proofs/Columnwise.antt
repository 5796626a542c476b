-- Columns are read one after another: the numbers of a line are those of its columns, each at its place.
-- By induction on the columns. Assumes nothing.
use Rattle.std.proofs.Common.{◌≡◌, ℕ, zero, suc, ◌+◌, ◌-◌, ◌*◌, ◌/◌, ◌%◌, ◌≤◌, ◌<◌, true, false, List, [], ◌∷◌, length, get_or, take, drop, refl, sym, ap, ◌∙◌, arith, length-drop}
use Rattle.std.proofs.Math.Option.{Option, none, some}
use Rattle.std.proofs.Math.Seq.{drop-drop, ext_get_or, get_or-set_same, get_or-set_other}
use Rattle.std.specs.declared.option.Option as read
use Rattle.std.specs.Prelude.{Some, None}
use Rattle.std.specs.Option.{is_some, unwrap_or}
use lib.ListN.{set}
use borrow.Author.Count.{below_more}
use native.Mathlib.Nat.{div-add-mod', mod-lt}
use borrow.Author.Tests.{eq-eqb, ne_eqb, lt-ltb, le-ltb}
use Rattle.columns.specs.Lines.{line_length, line_end_def, line_at}
use Rattle.columns.specs.Columns.{column_size, on_some, column, numbers_in, read_columns_def, read_text}
use Rattle.columns.specs.Reads.{told, is_read, or_zero, read_into, Fills}

-- column j
abbrev pub column_in : List ℕ → ℕ → Option ℕ
column_in b j = column (take column_size (drop (column_size * j) b))

column-later : (b : List ℕ) (j : ℕ) → column_in (drop column_size b) j ≡ column_in b (suc j)
column-later b j =
    let e : column_size + column_size * j ≡ column_size * suc j = omega arith in
    ap (λ (z : List ℕ). column (take column_size z)) (drop-drop (column_size * j) column_size b ∙ ap (λ (m : ℕ). drop m b) e)

-- all columns hold numbers
pub numbers-all : (n : ℕ) (b vs : List ℕ) → length vs ≡ n → ((k : ℕ) → k < n → column_in b k ≡ some (get_or vs k 0)) → numbers_in n b ≡ some vs
unfolding numbers_in
numbers-all zero b [] e h = refl
numbers-all zero b (v ∷ vs) e h = absurd (omega arith)
numbers-all (suc n) b [] e h = absurd (omega arith)
numbers-all (suc n) b (v ∷ vs) e h =
    let first : column (take column_size b) ≡ some v = h 0 (omega arith) in
    let rest : numbers_in n (drop column_size b) ≡ some vs =
    numbers-all n (drop column_size b) vs (omega arith) (λ k l. column-later b k ∙ h (suc k) (omega arith)) in
    rw (first, rest)

-- one does not
pub numbers-none : (n j : ℕ) (b : List ℕ) → j < n → column_in b j ≡ none → numbers_in n b ≡ none
unfolding numbers_in
numbers-none zero j b l e = absurd (omega arith)
numbers-none (suc n) zero b l e = let first : column (take column_size b) ≡ none = e in rw first
numbers-none (suc n) (suc j) b l e =
    let rest : numbers_in n (drop column_size b) ≡ none = numbers-none n j (drop column_size b) (omega arith) (column-later b j ∙ e) in
    rw rest (go (column (take column_size b)))
  where
    go : (o : Option ℕ) → on_some {B = List ℕ} o (λ v. none) ≡ none
    go none = refl
    go (some v) = refl

-- the same as tests
pub numbers-every : (n : ℕ) (b : List ℕ) → ((k : ℕ) → k < n → is_read (column_in b k) ≡ true) → is_read (numbers_in n b) ≡ true
unfolding numbers_in
numbers-every zero b h = refl
numbers-every (suc n) b h =
    go (column (take column_size b)) (numbers_in n (drop column_size b)) (h 0 (omega arith))
    (numbers-every n (drop column_size b) (λ k l. ap is_read (column-later b k) ∙ h (suc k) (omega arith)))
  where
    go : (o : Option ℕ) (m : Option (List ℕ)) → is_read o ≡ true → is_read m ≡ true
        → is_read (on_some o (λ v. on_some m (λ vs. some (v ∷ vs)))) ≡ true
    go none m p q = p
    go (some v) none p q = q
    go (some v) (some vs) p q = refl

-- ---- the numbers of columns that were read

pub record First (n : ℕ) (b vs : List ℕ) : Type 0 where
  pub value : ℕ
  pub rest : List ℕ
  pub head : column (take column_size b) ≡ some value
  pub tail : numbers_in n (drop column_size b) ≡ some rest
  pub whole : vs ≡ value ∷ rest

unfoldable pub first_of : (n : ℕ) (b vs : List ℕ) → numbers_in (suc n) b ≡ some vs → First n b vs
unfolding numbers_in
first_of n b vs e = go (column (take column_size b)) (numbers_in n (drop column_size b)) refl refl e
  where
    go : (o : Option ℕ) (m : Option (List ℕ)) → column (take column_size b) ≡ o → numbers_in n (drop column_size b) ≡ m
        → on_some o (λ v. on_some m (λ vs. some (v ∷ vs))) ≡ some vs → First n b vs
    go none m p q e = let z : ◌≡◌ {A = ℕ} 0 1 = cc in absurd (omega arith)
    go (some v) none p q e = let z : ◌≡◌ {A = ℕ} 0 1 = cc in absurd (omega arith)
    go (some v) (some ws) p q e = record { value = v; rest = ws; head = p; tail = q; whole = cc }

pub numbers-length : (n : ℕ) (b vs : List ℕ) → numbers_in n b ≡ some vs → length vs ≡ n
unfolding numbers_in
numbers-length zero b vs e = let z : [] ≡ vs = cc in ap length (sym z)
numbers-length (suc n) b vs e =
    let f = first_of n b vs e in
    ap length f.whole ∙ ap suc (numbers-length n (drop column_size b) f.rest f.tail)

pub numbers-each : (n : ℕ) (b vs : List ℕ) → numbers_in n b ≡ some vs → (k : ℕ) → k < n → column_in b k ≡ some (get_or vs k 0)
numbers-each zero b vs e k h = absurd (omega arith)
numbers-each (suc n) b vs e zero h = let f = first_of n b vs e in f.head ∙ ap (λ (z : List ℕ). some (get_or z 0 0)) (sym f.whole)
numbers-each (suc n) b vs e (suc k) h =
    let f = first_of n b vs e in
    sym (column-later b k) ∙ numbers-each n (drop column_size b) f.rest f.tail k (omega arith)
    ∙ ap (λ (z : List ℕ). some (get_or z (suc k) 0)) (sym f.whole)

pub zero_told : (o : read.Option ℕ) → unwrap_or o 0 ≡ or_zero (told o)
zero_told None = refl
zero_told (Some v) = refl

-- one value more
pub filled_more : (text new : List ℕ) (j v : ℕ) → ((k : ℕ) → k < j → get_or new k 0 ≡ or_zero (column_in text k)) → j < length new
    → v ≡ or_zero (column_in text j) → (k : ℕ) → k < j + 1 → get_or (set new j v) k 0 ≡ or_zero (column_in text k)
filled_more text new j v f h e =
    below_more (λ (k : ℕ). get_or (set new j v) k 0 ≡ or_zero (column_in text k)) j
    (λ k b. get_or-set_other new j k v 0 (λ q. omega arith) ∙ f k b)
    (get_or-set_same new j v 0 h ∙ e)

-- values that are each their column's number, where all columns hold one
pub fills : (text old new : List ℕ) → length new ≡ length old → ((k : ℕ) → k < length old → get_or new k 0 ≡ or_zero (column_in text k))
    → Fills text old new
fills text old new size each =
    record {
      filled =
          λ vs e. let n = numbers-length (length old) text vs e in
          ext_get_or 0 new vs (size ∙ sym n)
          (λ i b. each i (omega arith) ∙ ap or_zero (numbers-each (length old) text vs e i (omega arith)));
    }

-- ---- the whole line

module _ (n : ℕ) (b : List ℕ) where
  pub other_length : (length b ≡ column_size * n → ⊥) → none ≡ read_columns_def n b
  unfolding read_columns_def
  other_length h = rw (ne_eqb (length b) (column_size * n) h)

  pub same_length : length b ≡ column_size * n → read_columns_def n b ≡ numbers_in n b
  unfolding read_columns_def
  same_length h = rw (eq-eqb (length b) (column_size * n) h)

pub untold : (o : read.Option ℕ) → is_some o ≡ false → told o ≡ none
untold None e = refl
untold (Some v) e = let z : ◌≡◌ {A = ℕ} 0 1 = cc in absurd (omega arith)

pub is_told : (o : read.Option ℕ) → is_some o ≡ true → is_read (told o) ≡ true
is_told None e = let z : ◌≡◌ {A = ℕ} 0 1 = cc in absurd (omega arith)
is_told (Some v) e = refl

-- whether all columns hold numbers tells whether the line is read, and its numbers
pub not_read : (o : Option (List ℕ)) (old : List ℕ) → is_read o ≡ false → record { read = false; values = old } ≡ read_into o old
not_read none old e = refl
not_read (some vs) old e = let z : ◌≡◌ {A = ℕ} 0 1 = cc in absurd (omega arith)

pub all_read : (o : Option (List ℕ)) (old new : List ℕ) → is_read o ≡ true → ((vs : List ℕ) → o ≡ some vs → new ≡ vs)
    → record { read = true; values = new } ≡ read_into o old
all_read none old new e f = let z : ◌≡◌ {A = ℕ} 0 1 = cc in absurd (omega arith)
all_read (some vs) old new e f = rw (f vs refl)

-- by division: the bytes of n columns
pub ragged : (x n : ℕ) → (x % 8 ≡ 0 → ⊥) → x ≡ column_size * n → ⊥
ragged x n h e = h (let d = div-add-mod' x 8 in let l = mod-lt x {m = 8} (omega arith) in omega arith)

pub too_many : (x n : ℕ) → (x / 8 ≡ n → ⊥) → x ≡ column_size * n → ⊥
too_many x n h e = h (let d = div-add-mod' x 8 in let l = mod-lt x {m = 8} (omega arith) in omega arith)

pub so-many : (x n : ℕ) → x % 8 ≡ 0 → x / 8 ≡ n → x ≡ column_size * n
so-many x n r q = let d = div-add-mod' x 8 in omega arith

-- ---- the line at a place

module _ (n : ℕ) (s : List ℕ) (at end : ℕ) (e : end ≡ line_end_def s at) where
  pub line_unended : length s ≤ end → read_text n (line_at s at) ≡ none
  unfolding read_text line_at line_end_def
  line_unended h = rw (le-ltb (line_length (drop at s)) (length (drop at s)) (omega (arith, length-drop at s)))

  pub line-ended : end < length s → read_text n (line_at s at) ≡ read_columns_def n (take (end - at) (drop at s))
  unfolding read_text line_at line_end_def
  line-ended h =
      let k : end - at ≡ line_length (drop at s) = omega arith in
      rw (lt-ltb (line_length (drop at s)) (length (drop at s)) (omega (arith, length-drop at s)), k)
