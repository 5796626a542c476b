-- By the answer, and the content's length and first byte. Assumes nothing.
use Rattle.std.proofs.Common.{length, ap, arith}
use Rattle.client.proofs.Printed.{part_short}
use Rattle.drill.proofs.Answers.{row-taken}
use Rattle.drill.proofs.shown.taken.Goals as goal

pub overflow_cast-result : goal.overflow_cast-result
overflow_cast-result c =
    let h = part_short c.args.out.now c.from.result in
    let l = ap length c.part-content.ensures in
    record { fits = omega (arith, h, l, c.requires) }

pub returns : goal.returns
returns c =
    rw (c.from-2.ensures, c.from-3.ensures) (row-taken c.args.told c.args.out.now c.from-a.result _ _ c.from-a.ensures
    (rw c.from.ensures at c.part-content.ensures) c.byte_at.ensures)
