-- By the length; then all columns hold numbers, or one does not.
use Rattle.std.proofs.Common.{◌≡◌, ◌*◌, length, sym, ap, ◌∙◌}
use Rattle.columns.specs.Columns.{column_size, numbers_in}
use Rattle.columns.specs.Reads.{read_into}
use Rattle.columns.proofs.Columnwise.{other_length, same_length, ragged, too_many, so-many, not_read, all_read}
use Rattle.columns.proofs.reading.read_columns.Goals as goal
use Rattle.columns.proofs.reading.read_columns.Goals.{then-line-ne0-via-then-line-ne0, then-line-ne0-via-else-line-ne0+then-line-values, then-line-ne0-via-else-line-ne0+else-line-values+then-not-all_numbers}

pub returns-then-line-ne0 : goal.returns-then-line-ne0
returns-then-line-ne0 c =
    let s = c.args.line.now in
    let old = c.args.values.now in
    let n = length old in
    elim c.then-line-ne0.branch [
      | then-line-ne0-via-then-line-ne0 w ↦ ap (λ o. read_into o old) (other_length n s (ragged (length s) n w.if-line-ne0.true))
      | then-line-ne0-via-else-line-ne0+then-line-values w ↦ ap (λ o. read_into o old) (other_length n s (too_many (length s) n w.if-line-values.true))
      | then-line-ne0-via-else-line-ne0+else-line-values+then-not-all_numbers w ↦
          let l : length s ≡ column_size * n = so-many (length s) n w.if-line-ne0.false w.if-line-values.false in
          not_read (numbers_in n s) old (sym w.all_numbers.ensures ∙ w.if-not-all_numbers.true) ∙ ap (λ o. read_into o old) (sym (same_length n s l))
    ]

pub returns : goal.returns
returns c =
    let s = c.args.line.now in
    let old = c.args.values.now in
    let n = length old in
    let l : length s ≡ column_size * n = so-many (length s) n c.if-line-ne0.false c.if-line-values.false in
    all_read (numbers_in n s) old c.fill.new.values (sym c.all_numbers.ensures ∙ c.if-not-all_numbers.false) c.fill.ensures.filled
    ∙ ap (λ o. read_into o old) (sym (same_length n s l))
