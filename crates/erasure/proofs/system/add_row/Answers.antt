use Rattle.std.proofs.Common.{get_or, ap, ◌∙◌, arith, rules}
use mir.Val.{Fits}
use mir.Syntax.{w8}
use Rattle.std.specs.Int.Bits.{bit_xor}
use Rattle.gf256.proofs.Linear.{times-comm}
use Rattle.erasure.proofs.Fill.{filled_more}
use Rattle.erasure.proofs.system.add_row.Goals as goal

pub loop-c-preserved : goal.loop-c-preserved
loop-c-preserved c =
    let at = c.loop-c in
    let x : Fits w8 (get_or c.args.row at.c 0) = search rules in
    filled_more at.invariant (omega arith) _
    (ap (bit_xor (get_or c.args.sum at.c 0)) (c.mul.ensures ∙ times-comm (get_or c.args.row at.c 0) c.args.w x.fits (omega arith)))
