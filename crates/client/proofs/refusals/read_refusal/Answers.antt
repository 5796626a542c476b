-- The first test that applies gives the refusal. Nothing is assumed.
use Rattle.std.proofs.Common.{◌∙◌, sym, refl, arith}
use borrow.Author.Tests.{lt-leb, le-leb}
use Rattle.cluster.specs.Config.{shelf}
use Rattle.cluster.specs.Ranges.{top_number}
use Rattle.protocol.specs.Client.{read_refusal_def}
use Rattle.client.proofs.refusals.read_refusal.Goals as goal

pub returns-then-outside : goal.returns-then-outside
unfolding read_refusal_def shelf
returns-then-outside c = rw (sym c.outside.ensures ∙ c.if-outside.true) refl

pub returns-then-outside-2 : goal.returns-then-outside-2
unfolding read_refusal_def shelf
returns-then-outside-2 c = rw (sym c.outside.ensures ∙ c.if-outside.false, sym c.outside-2.ensures ∙ c.if-outside-2.true) refl

pub returns-then-is_pending : goal.returns-then-is_pending
unfolding read_refusal_def shelf
returns-then-is_pending c = rw (sym c.outside.ensures ∙ c.if-outside.false, sym c.outside-2.ensures ∙ c.if-outside-2.false, sym c.is_pending.ensures ∙ c.if-is_pending.true) refl

pub returns-then-call-ge-TOP_NUMBER : goal.returns-then-call-ge-TOP_NUMBER
unfolding read_refusal_def shelf
returns-then-call-ge-TOP_NUMBER c = rw (sym c.outside.ensures ∙ c.if-outside.false, sym c.outside-2.ensures ∙ c.if-outside-2.false, sym c.is_pending.ensures ∙ c.if-is_pending.false, le-leb top_number c.args.call.number (omega arith)) refl

pub returns : goal.returns
unfolding read_refusal_def shelf
returns c = rw (sym c.outside.ensures ∙ c.if-outside.false, sym c.outside-2.ensures ∙ c.if-outside-2.false, sym c.is_pending.ensures ∙ c.if-is_pending.false, lt-leb top_number c.args.call.number (omega arith)) refl
