-- The walk over the stored writes ends at the first with the stamp's bytes, at a write that is longer than what is left, or past the last. Assumes
-- nothing.
use Rattle.std.proofs.Common.{arith}
use Rattle.cluster.specs.Config.{shelf}
use Rattle.wire.specs.Places.{share_size_def}
use Rattle.wire.proofs.Lengths.{fragment-few}
use Rattle.server.proofs.Walk.{walk_none, walk_end, walk_short, walk-found, walk_more, no-fragment, size-told}
use Rattle.server.proofs.memory.search.Goals as goal

pub overflow_add-frame : goal.overflow_add-frame
unfolding share_size_def shelf
overflow_add-frame c = omega (arith, c.share_size-frame.ensures, no-fragment c.args.t)

pub loop-init : goal.loop-init
loop-init c = walk_none _ _ _ _ c.writes_place-at.ensures

pub returns-then-same : goal.returns-then-same
returns-then-same c =
    walk-found c.loop.invariant (λ i. (c.type_inv.memory i).fits) (omega arith) c.rest-write.ensures c.part.ensures c.same.ensures c.if-same.true

pub overflow_add-size : goal.overflow_add-size
unfolding share_size_def shelf
overflow_add-size c =
    omega (
      arith,
      c.share_size-frame.ensures,
      c.fragment_size.ensures,
      fragment-few c.args.t c.number2-length.result,
      no-fragment c.args.t,
    )

pub returns-then-write-size : goal.returns-then-write-size
returns-then-write-size c =
    walk_short c.loop.invariant (λ i. (c.type_inv.memory i).fits) (omega arith) c.rest-write.ensures
    (size-told c.args.t c.args.memory.now c.loop.at c.rest-write.ensures c.rest.ensures c.number2-length.ensures c.share_size-frame.ensures
    c.fragment_size.ensures) c.if-write-size.true

pub loop-preserved : goal.loop-preserved
loop-preserved c =
    walk_more c.loop.invariant (λ i. (c.type_inv.memory i).fits) (omega arith) c.rest-write.ensures c.part.ensures c.same.ensures c.if-same.false
    (size-told c.args.t c.args.memory.now c.loop.at c.rest-write.ensures c.rest.ensures c.number2-length.ensures c.share_size-frame.ensures
    c.fragment_size.ensures)

pub returns : goal.returns
returns c = walk_end c.loop.invariant (omega arith)
