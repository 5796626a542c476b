-- The inverse of 0 is 0; any other has 255 less the logarithm as its own.
use Rattle.std.proofs.Common.{sym, ap, ◌∙◌, arith}
use Rattle.gf256.proofs.Tables.{inverse_of-log, inverse-zero}
use Rattle.gf256.specs.Gf.{inverse}
use Rattle.gf256.proofs.inverse.Goals as goal

pub returns-then-a-eq0 : goal.returns-then-a-eq0
returns-then-a-eq0 c = sym (ap inverse c.if-a-eq0.true ∙ inverse-zero)

pub returns-else-a-eq0 : goal.returns-else-a-eq0
returns-else-a-eq0 c =
    c.power_of.ensures
    ∙ inverse_of-log c.args.a c.log_of.result (omega arith) (omega arith) c.log_of.ensures.0 c.log_of.ensures.1
