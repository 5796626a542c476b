-- The whole listing by its first line, and the drill by its refusals.
-- By cases on the first line, and by what division says of a product. Assumes nothing.
use mathlib.Core.Path.{◌≡◌, refl, ap, sym, ◌∙◌}
use mathlib.Core.Bool.{Bool, true, false, cond}
use mathlib.Core.List.{List, [], ◌∷◌}
use mathlib.Core.Option.{none, some}
use Prim.Native.Nat.{ℕ, ◌+◌, ◌-◌, ◌*◌, ◌/◌, ◌≤◌, ◌<◌}
use native.Mathlib.Omega.{arith}
use native.Mathlib.Nat.{div-lt_iff_lt-mul, div-add-mod'}
use lib.Dec.{ltb}
use lib.ListN.{length, drop, replicate}
use borrow.Author.Tests.{eq-eqb, ne_eqb, lt-ltb, le-ltb, ltb-true, ltb-false}
use Rattle.cluster.specs.Ranges.{within, top_faults}
use Rattle.format.specs.Reading.{over, put}
use Rattle.format.proofs.Puts.{put-over}
use Rattle.drill.specs.declared.sheet.Line.{Line}
use Rattle.columns.specs.Lines.{lines, line_at, next_at}
use Rattle.columns.proofs.Split.{lines_at, one_line_less}
use Rattle.columns.proofs.Printed.{row-length}
use Rattle.drill.specs.Sheet.{first_line_def}
use Rattle.drill.specs.Listing.{row_size, last_row, listed, listing, work_size, rows_for_def, drill_refusal, drill_of, ListsAs}
use Rattle.drill.specs.Moves.{RowsAs}
use Rattle.drill.proofs.Visiting.{inside}

-- ---- by the first line

pub lists_none : (s d : List ℕ) → length s ≡ 0 → ListsAs s d d 0
unfolding listing listed lines over
lists_none [] d h = record { bytes = refl; count = refl }
lists_none (x ∷ s) d h = absurd (omega arith)

one-row : (s d : List ℕ) (n r : ℕ) {f : List ℕ} → listing s ≡ last_row n r → f ≡ put d 0 (last_row n r) → ListsAs s d f row_size
unfolding last_row
one-row s d n r {f} q p =
    record {
      bytes = p ∙ put-over d (last_row n r) ∙ ap (λ (z : List ℕ). over z d) (sym q);
      count = sym (row-length (n ∷ 0 ∷ 0 ∷ 0 ∷ r ∷ 0 ∷ 0 ∷ 0 ∷ [])) ∙ ap length (sym q);
    }

module _ (s d : List ℕ) (h : 0 < length s) where
  first : lines s ≡ line_at s 0 ∷ lines (drop (next_at s 0) s)
  first = lines_at s 0 h

  pub lists-117 : {f : List ℕ} → first_line_def (line_at s 0) ≡ none → f ≡ put d 0 (last_row 1 117) → ListsAs s d f row_size
  unfolding listing listed
  lists-117 {f} o p = one-row s d 1 117 (rw (first, o)) p

  module _ (l : Line) (o : first_line_def (line_at s 0) ≡ some l) where
    pub lists-103 : {f : List ℕ} → within 1 top_faults l.client ≡ false → f ≡ put d 0 (last_row 1 103) → ListsAs s d f row_size
    unfolding listing listed
    lists-103 {f} w p = one-row s d 1 103 (rw (first, o, w)) p

    pub lists-rows : {f : List ℕ} {n : ℕ} → (1 ≤ l.client) × (l.client ≤ top_faults) → RowsAs l.client (lines (drop (next_at s 0) s)) d f n →
        ListsAs s d f n
    unfolding listing listed
    lists-rows {f} {n} w r =
        let k = inside 1 top_faults l.client w in
        record { bytes = rw (first, o, k) r.bytes; count = rw (first, o, k) r.count }

-- ---- room for the rows

least-row : (n : ℕ) → (1 ≤ rows_for_def n) × (n ≤ rows_for_def n + 1)
unfolding rows_for_def
least-row n = go (ltb n 2) refl
  where
    go : (b : Bool) → ltb n 2 ≡ b → (1 ≤ cond b 1 (n - 1)) × (n ≤ cond b 1 (n - 1) + 1)
    go true q = let h = ltb-true n 2 q in (omega arith, omega arith)
    go false q = let h = ltb-false n 2 q in (omega arith, omega arith)

module _ (s d : List ℕ) (h : row_size * rows_for_def (length (lines s)) ≤ length d) where
  pub first-room : 0 + row_size ≤ length d
  first-room = let k = (least-row (length (lines s))).0 in omega arith

  pub rows-room : 0 < length s → row_size * length (lines (drop (next_at s 0) s)) ≤ length d
  rows-room k = let m = (least-row (length (lines s))).1 in omega (arith, one_line_less s 0 k)

-- ---- the refusals

module _ (s d w : List ℕ) where
  pub drill-1 : (length w ≡ work_size → ⊥) → record { result = record { number = 1; count = 0 }; output = d; work = w } ≡ drill_of s d w
  unfolding drill_of drill_refusal
  drill-1 h = rw (ne_eqb (length w) work_size h)

  module _ (size : length w ≡ work_size) where
    pub drill-15 : length d < row_size * rows_for_def (length (lines s)) → record { result = record { number = 15; count = 0 }; output = d; work = w } ≡
        drill_of s d w
    unfolding drill_of drill_refusal
    drill-15 h = rw (eq-eqb (length w) work_size size, lt-ltb (length d) (row_size * rows_for_def (length (lines s))) h)

    pub drill-0 : {f v : List ℕ} {n : ℕ} → row_size * rows_for_def (length (lines s)) ≤ length d → ListsAs s d f n → v ≡ replicate (length w) 0
        → record { result = record { number = 0; count = n }; output = f; work = v } ≡ drill_of s d w
    unfolding drill_of drill_refusal
    drill-0 {f} {v} {n} h l e = rw (
      eq-eqb (length w) work_size size,
      le-ltb (length d) (row_size * rows_for_def (length (lines s))) h,
      l.bytes,
      l.count,
      e,
    )

-- ---- by division

pub room_short : (x m : ℕ) → x / 65 < m → x < row_size * m
room_short x m h = let k = (div-lt_iff_lt-mul {k = 65} {x = x} {y = m} (omega arith)).0 h in omega arith

pub room_fits : (x m : ℕ) → m ≤ x / 65 → row_size * m ≤ x
room_fits x m h = let k = div-add-mod' x 65 in omega arith
