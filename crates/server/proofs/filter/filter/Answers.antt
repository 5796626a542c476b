-- Nothing chosen, or the candidate in a slot: each way is one law. Assumes nothing.
use Rattle.std.proofs.Common.{◌∙◌, sym, ap, List, ℕ, get_or, arith}
use lib.Seq.{get_or-drop}
use Rattle.protocol.specs.Packet.{head_size}
use Rattle.server.proofs.Filtering.{filter-nothing, filter-chosen}
use Rattle.server.proofs.filter.filter.Goals as goal

-- the count is a byte of the packet
pub overflow_cast-count : goal.overflow_cast-count
overflow_cast-count c =
    let h = c.type_inv.packet head_size in
    omega (arith, c.requires.1, get_or-drop head_size c.args.packet.now 0 0)

pub returns-in_default : goal.returns-in_default
returns-in_default c o own dec k room =
    filter-nothing o.bytes c.args.key c.args.packet.now (λ i. (c.type_inv.packet i).fits) c.args.out.now
    c.args.passed.head o own dec k room c.rest.ensures c.rest-list.ensures
    (c.requires.1 ∙ ap (λ (d : List ℕ). get_or d 0 0) (sym c.rest.ensures)) c.choose.result c.choose.ensures c.in_default.is c.blank.ensures
    c.reply_held.ensures

pub returns : goal.returns
returns c o own dec k room =
    filter-chosen o.bytes c.args.key c.args.packet.now (λ i. (c.type_inv.packet i).fits) c.args.out.now
    c.args.passed.head o own dec k room c.rest.ensures c.rest-list.ensures
    (c.requires.1 ∙ ap (λ (d : List ℕ). get_or d 0 0) (sym c.rest.ensures)) c.choose.result c.choose.ensures c.in-Some.is c.slot-chosen.ensures
    c.stamp_at.ensures c.reply_held-r.ensures c.raise.ensures
