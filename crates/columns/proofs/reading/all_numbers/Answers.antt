-- Column after column.
use Rattle.std.proofs.Common.{◌≡◌, ◌+◌, ◌-◌, ◌*◌, true, sym, ap, ◌∙◌, arith}
use Rattle.std.proofs.Math.Option.{none}
use borrow.Author.Count.{below_more}
use Rattle.columns.specs.Reads.{is_read}
use Rattle.columns.proofs.Columnwise.{column_in, numbers-none, numbers-every, untold, is_told}
use Rattle.columns.proofs.reading.all_numbers.Goals as goal

pub returns-then-is_none : goal.returns-then-is_none
returns-then-is_none c =
    let s = c.args.line.now in
    let j = c.loop-j.j in
    let k : 8 * j + 8 - 8 * j ≡ 8 = omega arith in
    let e : column_in s j ≡ none = rw k at (sym c.column_value.ensures) ∙ untold c.column_value.result c.if-is_none.ensures in
    ap is_read (sym (numbers-none c.args.n j s (omega arith) e))

pub loop-j-preserved : goal.loop-j-preserved
loop-j-preserved c =
    let s = c.args.line.now in
    let j = c.loop-j.j in
    let k : 8 * j + 8 - 8 * j ≡ 8 = omega arith in
    let e : is_read (column_in s j) ≡ true = ap is_read (rw k at (sym c.column_value.ensures)) ∙ is_told c.column_value.result c.if-is_none.ensures in
    below_more (λ k. is_read (column_in s k) ≡ true) j c.loop-j.invariant e

pub returns : goal.returns
returns c = sym (numbers-every c.args.n c.args.line.now (λ k h. c.loop-j.invariant k (omega arith)))
