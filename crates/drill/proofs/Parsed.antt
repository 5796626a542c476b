-- What the code reads is what the sheet holds: the numbers of a line, if they have the form asked for.
-- By cases. Assumes nothing.
use mathlib.Core.Path.{◌≡◌, refl}
use mathlib.Core.Bool.{Bool, true, false}
use mathlib.Core.List.{List}
use mathlib.Core.Option.{none, some}
use Prim.Native.Nat.{ℕ, ◌≤◌, ◌<◌}
use native.Mathlib.Omega.{arith}
use borrow.Author.Tests.{ne_eqb, lt-ltb, le-ltb}
use Rattle.cluster.specs.Ranges.{top_number}
use Rattle.std.specs.Bool.{then_some}
use Rattle.std.specs.Prelude as std
use Rattle.std.specs.Prelude.{None, Some, MatchOption, IsSome}
use Rattle.format.specs.Format.{guard}
use Rattle.columns.specs.Lines.{Text}
use Rattle.columns.specs.Columns.{read_text}
use Rattle.columns.specs.Reads.{told}
use Rattle.drill.specs.declared.sheet.Line.{Line}
use Rattle.drill.specs.declared.verbs.Verb.{Verb}
use Rattle.drill.specs.Reads.{verb_number}
use Rattle.drill.specs.Sheet.{field_count, fields_of, read_line_def, is_first_def, is_step_def, first_line_def, step_line_def}

-- ---- the numbers of a line

module _ (x : Text) where
  pub no_numbers : read_text field_count x ≡ none → read_line_def x ≡ none
  unfolding read_line_def
  no_numbers e = rw e

  pub numbers : (vs : List ℕ) → read_text field_count x ≡ some vs → read_line_def x ≡ some (fields_of vs)
  unfolding read_line_def
  numbers vs e = rw e

-- ---- lines of their form

guarded : (b : Bool) (l : Line) → told (then_some b l) ≡ guard b (some l)
guarded true l = refl
guarded false l = refl

module _ (x : Text) where
  pub no_text : read_line_def x ≡ none → first_line_def x ≡ none
  unfolding first_line_def
  no_text e = rw e

  pub first_text : (l : Line) {b : Bool} → read_line_def x ≡ some l → b ≡ is_first_def l → told (then_some b l) ≡ first_line_def x
  unfolding first_line_def
  first_text l e h = rw (e, h) (guarded (is_first_def l) l)

  module _ (n : ℕ) where
    pub last-number : top_number ≤ n → step_line_def n x ≡ none
    unfolding step_line_def
    last-number h = rw (le-ltb n top_number h)

    pub no_step_text : n < top_number → read_line_def x ≡ none → step_line_def n x ≡ none
    unfolding step_line_def
    no_step_text h e = rw (lt-ltb n top_number h, e)

    pub step_text : n < top_number → (l : Line) {b : Bool} → read_line_def x ≡ some l → b ≡ is_step_def l → told (then_some b l) ≡ step_line_def n x
    unfolding step_line_def
    step_text k l e h = rw (lt-ltb n top_number k, e, h) (guarded (is_step_def l) l)

-- ---- a step's verb

pub no-step : (l : Line) → 5 < l.verb → is_step_def l ≡ false
unfolding is_step_def
no-step l h = rw (
  ne_eqb l.verb 1 (omega arith),
  ne_eqb l.verb 2 (omega arith),
  ne_eqb l.verb 5 (omega arith),
  ne_eqb l.verb 3 (omega arith),
  ne_eqb l.verb 4 (omega arith),
)

pub no_shelf : (l : Line) → l.verb ≡ 0 → is_step_def l ≡ false
unfolding is_step_def
no_shelf l e = rw e

pub has_verb : (o : std.Option Verb) (l : Line) → MatchOption o (5 < l.verb) (λ v. l.verb ≡ verb_number v) → is_step_def l ≡ true → IsSome o
has_verb None l h t = let e = no-step l h in let z : ◌≡◌ {A = ℕ} 0 1 = cc in absurd (omega arith)
has_verb (Some v) l h t = refl
