-- Its five numbers, if it has them. Assumes nothing.
use Rattle.std.proofs.Common.{sym}
use Rattle.drill.specs.Sheet.{fields_of}
use Rattle.drill.proofs.Parsed.{no_numbers, numbers}
use Rattle.drill.proofs.sheet.line_at.Goals as goal

pub returns-in_err-verb : goal.returns-in_err-verb
returns-in_err-verb c = rw c.from_residual.ensures (sym (no_numbers _ (sym c.in_err-verb.ensures)))

pub returns : goal.returns
unfolding fields_of
returns c = sym (numbers _ c.in_ok-verb.field-0 (sym c.in_ok-verb.ensures))
