use Rattle.std.proofs.Common.{arith}
use mathlib.Core.Logic.{⊎_elim}
use Rattle.protocol.specs.Packet.{code_f}
use Rattle.format.proofs.Leaves.{stops-kept}
use Rattle.wire.proofs.Heads.{byte_range}
use Rattle.wire.proofs.Optional.{code_took, code_stops}
use Rattle.wire.proofs.fields.code_field.Goals as goal

pub returns-in_err-v : goal.returns-in_err-v
unfolding code_f
returns-in_err-v c = rw c.from_residual.ensures (stops-kept _ _ (rw (c.from.ensures, c.number.ensures) at c.in_err-v.ensures))

pub returns-in_err-of : goal.returns-in_err-of
returns-in_err-of c =
    let took = rw (c.from.ensures, c.number.ensures) at c.in_ok-v.ensures in
    rw c.from_residual-in_err-of.ensures
    (⊎_elim (λ e. code_stops took (λ z. omega arith) e.1) (λ e. absurd (omega (arith, (byte_range 0 11 took).1))) c.in_err-of.ensures.number)

pub returns : goal.returns
returns c = code_took (rw (c.from.ensures, c.number.ensures) at c.in_ok-v.ensures) c.in_ok-of.field-0 c.in_ok-of.ensures.number
