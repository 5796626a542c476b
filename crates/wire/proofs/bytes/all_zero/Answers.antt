use Rattle.std.proofs.Common.{ap, sym, ◌∙◌}
use Rattle.format.specs.Format.{zeros}
use Rattle.wire.proofs.Joined.{chunk-zero, chunk-other}
use Rattle.wire.proofs.bytes.all_zero.Goals as goal

pub returns-then-not-joined_zero : goal.returns-then-not-joined_zero
returns-then-not-joined_zero c =
    let (chunk, more, size) = c.in-Some.ensures.cases in
    sym (c.loop-chunk.invariant ∙ chunk-other c.loop-chunk.left.now 256 (sym (c.joined_zero.ensures ∙ ap zeros chunk) ∙ c.if-not-joined_zero.true))

pub loop-chunk-preserved : goal.loop-chunk-preserved
loop-chunk-preserved c =
    let (chunk, more, size) = c.in-Some.ensures.cases in
    c.loop-chunk.invariant
    ∙ chunk-zero c.loop-chunk.left.now 256 (sym (c.joined_zero.ensures ∙ ap zeros chunk) ∙ c.if-not-joined_zero.false)
    ∙ ap zeros (sym more)
