-- The contract of each kind's answer; replies were refused. Assumes nothing.
use Rattle.std.proofs.Common.{◌∙◌, subst}
use lib.Dec.{T}
use Rattle.protocol.specs.declared.kinds.Kind.TheVariants as kind
use Rattle.wire.proofs.Laws.{told-count}
use Rattle.server.proofs.Taking.{kind-is, barred-reply}
use Rattle.server.proofs.take.answer.Goals as goal

-- the packet is a filter: its number is the list's count
pub filter-requires : goal.filter-requires
filter-requires c =
    let h = c.args.passed.head in
    let k = kind-is h c.args.packet.now c.requires.kind kind.Filter c.in-Filter.is in
    (c.requires.server, c.requires.number ∙ told-count h c.args.packet.now k)

pub unreachable-requires : goal.unreachable-requires
unreachable-requires c =
    absurd (subst T (barred-reply c.args.passed.head c.args.packet.now c.requires.kind c.in-ClockReply.is ∙ c.requires.sent) tt)
