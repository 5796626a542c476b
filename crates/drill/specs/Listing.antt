-- The listing of a drill sheet, and the drill as one operation over a sheet, an output and a lent work area (document 01, "Drill sheets").
-- `ListsAs` is what a private function promises; no public contract names it.
use Rattle.std.specs.Prelude.{◌≡◌, cond, not, List, [], ◌∷◌, ◌++◌, ℕ, suc, ◌+◌, ◌-◌, ◌*◌, ltb, eqb, length, replicate}
use Rattle.std.proofs.Math.Option.{Option, none, some}
use Rattle.cluster.specs.Ranges.{within, top_faults}
use Rattle.cluster.specs.Refusals.{refuse, first_of, on_refusal}
use Rattle.cluster.specs.declared.Outcome.{Outcome}
use Rattle.columns.specs.Lines.{Text, lines}
use Rattle.columns.specs.Columns.{row}
use Rattle.format.specs.Reading.{over}
use Rattle.protocol.specs.Answers.{refusals}
use Rattle.runs.specs.Runs.{Shelf}
use Rattle.drill.specs.declared.sheet.Line.{Line}
use Rattle.drill.specs.declared.shown.Shown.{Shown}
use Rattle.drill.specs.Sheet.{bad_line, first_line_def, step_line_def}
use Rattle.drill.specs.Steps.{State, drill_shelf, start, step_of, shown, round_shown}

-- ---- rows. No number in them has more than eight digits: a sheet's numbers and lines end below 100,000,000

-- bytes of a row of eight columns
abbrev pub row_size : ℕ
row_size = 65

-- line, verb, client, round now, result, stamp number, length, first byte
unfoldable pub step_row : ℕ → Line → ℕ → Shown → List ℕ
step_row n l round s = row (n ∷ l.verb ∷ l.client ∷ round ∷ s.result ∷ s.stamp ∷ s.length ∷ s.first ∷ [])

-- a line that ends the run has 0 in all but line and result
unfoldable pub last_row : ℕ → ℕ → List ℕ
last_row n result = row (n ∷ 0 ∷ 0 ∷ 0 ∷ result ∷ 0 ∷ 0 ∷ 0 ∷ [])

-- ---- the listing

abbrev pub on_line : Option Line → List ℕ → (Line → List ℕ) → List ℕ
on_line none broken go = broken
on_line (some l) broken go = go l

-- the rows of the lines from line n on, in a state
unfoldable pub rows : Shelf → ℕ → State → List Text → List ℕ
rows s n d [] = []
rows s n d (x ∷ xs) =
    on_line (step_line_def n x) (last_row n (refusals + bad_line))
    (λ l. let e = step_of s d.machines d.begun l in
    step_row n l (round_shown e.state.machines l.client) (shown e.result) ++ rows s (suc n) e.state xs)

-- a first line that is right but for its t gives 103, any other that is not right 117
unfoldable pub listed : List Text → List ℕ
listed [] = []
listed (x ∷ xs) =
    on_line (first_line_def x) (last_row 1 (refusals + bad_line))
    (λ l. cond (within 1 top_faults l.client) (rows (drill_shelf l.client) 2 (start (drill_shelf l.client)) xs) (last_row 1 (refusals + 3)))

unfoldable pub listing : List ℕ → List ℕ
listing sheet = listed (lines sheet)

-- the listing over the start of the output, and its bytes
pub record ListsAs (sheet output after : List ℕ) (size : ℕ) : Type 0 where
  pub bytes : after ≡ over (listing sheet) output
  pub count : size ≡ length (listing sheet)

-- ---- the operation: 1, 15

abbrev pub work_size : ℕ
work_size = 2097152

-- rows for which there must be room: one for each line after the first, at least one
unfoldable pub rows_for_def : ℕ → ℕ
rows_for_def n = cond (ltb n 2) 1 (n - 1)

pub record Drilled : Type 0 where
  pub result : Outcome
  pub output : List ℕ
  pub work : List ℕ

unfoldable pub drill_refusal : List ℕ → List ℕ → List ℕ → ℕ
drill_refusal sheet output work =
    first_of
    (refuse 1 (not (eqb (length work) work_size))
    ∷ refuse 15 (ltb (length output) (row_size * rows_for_def (length (lines sheet))))
    ∷ [])

-- refused: nothing changes; accepted: the listing over the start of the output, and a work area of 00h
unfoldable pub drill_of : List ℕ → List ℕ → List ℕ → Drilled
drill_of sheet output work =
    let n = drill_refusal sheet output work in
    on_refusal n
    (record {
      result = record { number = n; count = length (listing sheet) };
      output = over (listing sheet) output;
      work = replicate (length work)
          0;
    })
    (record { result = record { number = n; count = 0 }; output = output; work = work })
