use Rattle.std.proofs.Common.{sym, arith}
use Rattle.protocol.specs.View.{marked}
use Rattle.protocol.proofs.Marks.{count-le}
use Rattle.embed.proofs.RoundTold.{count_none, count_more, count-same}
use Rattle.embed.proofs.rounds.count.Goals as goal
use Rattle.embed.proofs.rounds.count.Goals.{then-mark-ne0, else-mark-ne0}

pub loop-mark-init : goal.loop-mark-init
loop-mark-init c = sym (count_none _)

pub overflow_add-sum : goal.overflow_add-sum
overflow_add-sum c =
    let i = c.loop-mark.mark-index in
    omega (arith, c.loop-mark.invariant, count-le i (marked c.args.marks))

pub loop-mark-preserved : goal.loop-mark-preserved
loop-mark-preserved c =
    let i = c.loop-mark.mark-index in
    let ms = c.args.marks in
    elim c.if-mark-ne0.branch [
      | then-mark-ne0 w ↦ omega (arith, c.loop-mark.invariant, count_more ms i w.if-mark-ne0.true)
      | else-mark-ne0 w ↦ omega (arith, c.loop-mark.invariant, count-same ms i w.if-mark-ne0.false)
    ]
