-- The walk over the ranks below a bound, from the highest down, whatever key was prepared. Assumes nothing.
use Rattle.std.proofs.Common.{arith}
use Rattle.server.proofs.Trying.{try-under, try_none, try-found, none_from, next_less}
use Rattle.server.proofs.filter.choose_under.Goals as goal

pub returns-then-valid_prepared : goal.returns-then-valid_prepared
returns-then-valid_prepared c key made none =
    try-found c.args.memory.now key c.args.opened c.args.list.now c.args.count (omega arith)
    (try-under c.args.memory.now key c.args.opened c.args.list.now c.args.count (c.loop-rank.invariant key made none) c.next_rank.ensures
    c.in-Some.is) c.slot_with-i.ensures c.slot.ensures (c.valid_prepared.ensures key made) c.if-valid_prepared.true

pub loop-rank-smaller : goal.loop-rank-smaller
loop-rank-smaller c = next_less c.args.opened.t c.args.list.now c.args.count c.next_rank.ensures c.in-Some.is

pub loop-rank-preserved : goal.loop-rank-preserved
loop-rank-preserved c key made none =
    none_from c.args.memory.now key c.args.opened c.args.list.now c.args.count (omega arith)
    (try-under c.args.memory.now key c.args.opened c.args.list.now c.args.count (c.loop-rank.invariant key made none) c.next_rank.ensures
    c.in-Some.is) c.slot_with-i.ensures c.slot.ensures (c.valid_prepared.ensures key made) c.if-valid_prepared.false

pub returns : goal.returns
returns c key made none =
    try_none c.args.memory.now key c.args.opened c.args.list.now c.args.count (c.loop-rank.invariant key made none) c.next_rank.ensures
    (omega arith) c.in_default.is
