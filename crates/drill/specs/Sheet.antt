-- A drill sheet (document 01, "Drill sheets"): the numbers of its lines, and which lines are steps.
use Rattle.std.specs.Prelude.{Bool, false, cond, ◌&&◌, List, ℕ, leb, ltb, eqb, get_or}
use Rattle.std.proofs.Math.Option.{Option, some}
use Rattle.cluster.specs.Ranges.{top_number}
use Rattle.format.specs.Format.{guard}
use Rattle.columns.specs.Lines.{Text}
use Rattle.columns.specs.Columns.{on_some, read_text}
use Rattle.drill.specs.declared.sheet.Line.{Line}

-- ---- the numbers of a line

-- verb, client, server, length, fill. Document 01 says box for server
abbrev pub field_count : ℕ
field_count = 5

unfoldable pub fields_of : List ℕ → Line
fields_of vs = record { verb = get_or vs 0 0; client = get_or vs 1 0; server = get_or vs 2 0; length = get_or vs 3 0; fill = get_or vs 4 0 }

unfoldable pub read_line_def : Text → Option Line
read_line_def x = on_some (read_text field_count x) (λ vs. some (fields_of vs))

-- ---- which lines have the form of their verb: unused fields are 0

abbrev pub no_content_def : Line → Bool
no_content_def l = eqb l.length 0 && eqb l.fill 0

-- a write names no server, and its fill is a byte; a read or a giving up names a client only; a blanking names a server only
abbrev pub is_write_def : Line → Bool
is_write_def l = eqb l.server 0 && leb l.fill 255

abbrev pub is_alone_def : Line → Bool
is_alone_def l = eqb l.server 0 && no_content_def l

abbrev pub is_blanking_def : Line → Bool
is_blanking_def l = eqb l.client 0 && no_content_def l

-- the first line: its client field holds t
abbrev pub is_first_def : Line → Bool
is_first_def l = eqb l.verb 0 && is_alone_def l

-- 1 write, 2 read, 3 visit, 4 the server's latest becomes blank, 5 give up
unfoldable pub is_step_def : Line → Bool
is_step_def l =
    cond (eqb l.verb 1) (is_write_def l)
    (cond (eqb l.verb 2) (is_alone_def l)
    (cond (eqb l.verb 5) (is_alone_def l)
    (cond (eqb l.verb 3) (no_content_def l)
    (cond (eqb l.verb 4) (is_blanking_def l) false))))

-- the refusal of a line that has another form, is not ended, or is line 99,999,999
abbrev pub bad_line : ℕ
bad_line = 17

unfoldable pub first_line_def : Text → Option Line
first_line_def x = on_some (read_line_def x) (λ l. guard (is_first_def l) (some l))

-- line n of the sheet, after the first; the line of number 99,999,999 is none, whatever it holds
unfoldable pub step_line_def : ℕ → Text → Option Line
step_line_def n x = guard (ltb n top_number) (on_some (read_line_def x) (λ l. guard (is_step_def l) (some l)))
