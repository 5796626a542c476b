use Rattle.std.proofs.Common.{sym, arith}
use Rattle.protocol.specs.View.{marked}
use Rattle.embed.proofs.RoundTold.{bits_none, bits_more, bits-same, bits_below, bit-room}
use Rattle.embed.proofs.rounds.bits.Goals as goal
use Rattle.embed.proofs.rounds.bits.Goals.{then-mark-ne0, else-mark-ne0}

pub loop-i-init : goal.loop-i-init
loop-i-init c = sym (bits_none _)

pub overflow_add-sum : goal.overflow_add-sum
overflow_add-sum c =
    let i = c.loop-i.i in
    omega (arith, c.loop-i.invariant, bit-room i (omega arith), bits_below i (marked c.args.marks))

pub loop-i-preserved : goal.loop-i-preserved
loop-i-preserved c =
    let i = c.loop-i.i in
    let ms = c.args.marks in
    elim c.if-mark-ne0.branch [
      | then-mark-ne0 w ↦ omega (arith, c.loop-i.invariant, bit-room i (omega arith), bits_more ms i w.if-mark-ne0.true)
      | else-mark-ne0 w ↦ omega (arith, c.loop-i.invariant, bits-same ms i w.if-mark-ne0.false)
    ]
