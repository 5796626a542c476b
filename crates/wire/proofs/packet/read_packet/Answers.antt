use Rattle.std.proofs.Common.{arith}
use mathlib.Core.Logic.{⊎_elim}
use Rattle.protocol.proofs.Whole.{refused, head_stops}
use Rattle.wire.proofs.Whole.{took-packet, kind_range, packet_trailing, packet_broken}
use Rattle.wire.proofs.packet.read_packet.Goals as goal

pub returns-in_err-head : goal.returns-in_err-head
returns-in_err-head c = rw c.from_residual.ensures (refused (head_stops c.in_err-head.ensures))

-- a head's kind is from 1 to 12
pub returns-in_err-kind : goal.returns-in_err-kind
returns-in_err-kind c =
    let (least, most) = kind_range c.in_ok-head.ensures in
    absurd (⊎_elim (λ e. omega arith) (λ e. omega arith) c.in_err-kind.ensures.number)

pub body_field-requires : goal.body_field-requires
body_field-requires c = c.in_ok-head.ensures.leaves.within

pub returns-in_err-label : goal.returns-in_err-label
returns-in_err-label c =
    rw c.from_residual-in_err-label.ensures (packet_broken c.in_ok-head.ensures (rw c.in_ok-kind.ensures.number at c.in_err-label.ensures))

pub returns-then-end-packet : goal.returns-then-end-packet
returns-then-end-packet c = packet_trailing c.in_ok-head.ensures (rw c.in_ok-kind.ensures.number at c.in_ok-label.ensures).leaves (omega arith)

pub returns : goal.returns
returns c =
    (took-packet c.in_ok-head.ensures (rw c.in_ok-kind.ensures.number at c.in_ok-label.ensures) (omega arith), c.in_ok-kind.ensures.number)
