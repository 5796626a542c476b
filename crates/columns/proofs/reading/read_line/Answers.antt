-- Unended, or the columns of its characters.
use Rattle.std.proofs.Common.{length, sym, ap, ◌∙◌, arith}
use Rattle.columns.specs.Reads.{read_into}
use Rattle.columns.proofs.Split.{end_after}
use Rattle.columns.proofs.Columnwise.{line_unended, line-ended}
use Rattle.columns.proofs.reading.read_line.Goals as goal

pub returns-then-text-end : goal.returns-then-text-end
returns-then-text-end c =
    let old = c.args.values.now in
    ap (λ o. read_into o old) (sym (line_unended (length old) c.args.text.now c.args.at c.line_end-end.result c.line_end-end.ensures c.if-text-end.true))

pub slice_bounds-read_columns-count : goal.slice_bounds-read_columns-count
slice_bounds-read_columns-count c = omega (arith, c.line_end-end.ensures, end_after c.args.text.now c.args.at)

pub slice_bounds-read_columns-start : goal.slice_bounds-read_columns-start
slice_bounds-read_columns-start c = omega (arith, c.line_end-end.ensures, end_after c.args.text.now c.args.at)

pub returns : goal.returns
returns c =
    let old = c.args.values.now in
    c.read_columns.ensures
    ∙ ap (λ o. read_into o old) (sym (line-ended (length old) c.args.text.now c.args.at c.line_end-end.result c.line_end-end.ensures c.if-text-end.false))
