-- What private functions promise each other; no public contract names these.
-- Steps done in the work area: whatever the parties hold, the area holds what they hold after the step, and what is shown is the step's.
use Rattle.std.specs.Prelude.{◌≡◌, List, ℕ, ◌≤◌, length, Result}
use Rattle.cluster.specs.Config.{shelf}
use Rattle.cluster.specs.Ranges.{top_client}
use Rattle.cluster.specs.Refusals.{number_told}
use Rattle.cluster.specs.declared.Refusal.{Refusal}
use Rattle.columns.specs.Lines.{Text}
use Rattle.format.specs.Reading.{over, put}
use Rattle.runs.specs.Runs.{Machines, Done}
use Rattle.drill.specs.declared.sheet.Line.{Line}
use Rattle.drill.specs.declared.shown.Shown.{Shown}
use Rattle.drill.specs.Steps.{Stepped, drill_shelf, start, visit_refusal_def, step_of, shown, round_shown}
use Rattle.drill.specs.Listing.{step_row, rows}
use Rattle.drill.specs.Area.{Stands}

pub record DoneIn (t : ℕ) (f : Machines → Done) (w after : List ℕ) (r : Shown) : Type 0 where
  pub stands : (m : Machines) → Stands t w m → Stands t after (f m).machines
  pub shows : (m : Machines) → Stands t w m → r ≡ shown (f m).result

pub record StepsIn (t : ℕ) (f : Machines → Stepped) (w after : List ℕ) (r : Shown) (begun : ℕ) : Type 0 where
  pub stands : (m : Machines) → Stands t w m → Stands t after (f m).state.machines
  pub shows : (m : Machines) → Stands t w m → r ≡ shown (f m).result
  pub counts : (m : Machines) → Stands t w m → begun ≡ (f m).state.begun

-- what refuses a visit before anything acts; where nothing does, the parties are in their ranges
pub record RefusesAs (t : ℕ) (w : List ℕ) (client server : ℕ) (why : Result (Unit {0}) Refusal) : Type 0 where
  pub told : (m : Machines) → Stands t w m → number_told why ≡ visit_refusal_def (drill_shelf t) m client server
  pub readers : number_told why ≡ 0 → (1 ≤ client) × (client ≤ top_client)
  pub servers : number_told why ≡ 0 → (1 ≤ server) × (server ≤ (shelf t).servers)

-- the round that a row shows
pub record RoundIn (w : List ℕ) (client round : ℕ) : Type 0 where
  pub told : (t : ℕ) (m : Machines) → Stands t w m → round ≡ round_shown m client

-- one line done and its row put at a place: whatever the parties hold, the area and the row are the definition's
pub record RowIn (t k n : ℕ) (l : Line) (w after output : List ℕ) (at : ℕ) (printed : List ℕ) (begun : ℕ) : Type 0 where
  pub stands : (m : Machines) → Stands t w m → Stands t after (step_of (drill_shelf t) m k l).state.machines
  pub row : (m : Machines) → Stands t w m
      → printed ≡ put output at (step_row n l (round_shown (step_of (drill_shelf t) m k l).state.machines l.client)
      (shown (step_of (drill_shelf t) m k l).result))
  pub counts : (m : Machines) → Stands t w m → begun ≡ (step_of (drill_shelf t) m k l).state.begun

-- the rows of the lines after the first, over the start of the output
pub record RowsAs (t : ℕ) (ls : List Text) (output after : List ℕ) (size : ℕ) : Type 0 where
  pub bytes : after ≡ over (rows (drill_shelf t) 2 (start (drill_shelf t)) ls) output
  pub count : size ≡ length (rows (drill_shelf t) 2 (start (drill_shelf t)) ls)
