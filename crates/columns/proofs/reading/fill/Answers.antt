-- Value after value, each of its column.
use Rattle.std.proofs.Common.{◌≡◌, ◌+◌, ◌-◌, ◌*◌, ap, ◌∙◌, arith}
use Rattle.columns.specs.Reads.{or_zero}
use Rattle.columns.proofs.Columnwise.{column_in, zero_told, filled_more, fills}
use Rattle.columns.proofs.reading.fill.Goals as goal

pub loop-j-init : goal.loop-j-init
loop-j-init c = λ k h. absurd (omega arith)

pub loop-j-preserved : goal.loop-j-preserved
loop-j-preserved c =
    let l = c.loop-j in
    let j = l.j in
    let k : 8 * j + 8 - 8 * j ≡ 8 = omega arith in
    let e : c.unwrap_or.result ≡ or_zero (column_in c.args.line.now j) =
    c.unwrap_or.ensures ∙ zero_told c.column_value.result ∙ ap or_zero (rw k at c.column_value.ensures) in
    filled_more c.args.line.now l.values j c.unwrap_or.result l.invariant (omega (arith, l.auto.values)) e

pub returns : goal.returns
returns c =
    let l = c.loop-j in
    fills c.args.line.now c.args.values.now l.values l.auto.values (λ k h. l.invariant k (omega arith))
