-- The first test that applies gives the refusal. Nothing is assumed.
use Rattle.std.proofs.Common.{◌∙◌, sym, refl, arith}
use borrow.Author.Tests.{lt-ltb, le-ltb, lt-leb, le-leb}
use Rattle.cluster.specs.Config.{shelf}
use Rattle.cluster.specs.Ranges.{top_number}
use Rattle.protocol.specs.Client.{write_refusal_def}
use Rattle.client.proofs.refusals.write_refusal.Goals as goal

pub returns-then-outside : goal.returns-then-outside
unfolding write_refusal_def shelf
returns-then-outside c = rw (sym c.outside.ensures ∙ c.if-outside.true) refl

pub returns-then-outside-2 : goal.returns-then-outside-2
unfolding write_refusal_def shelf
returns-then-outside-2 c = rw (sym c.outside.ensures ∙ c.if-outside.false, sym c.outside-2.ensures ∙ c.if-outside-2.true) refl

pub returns-then-n-gt-TOP_LENGTH : goal.returns-then-n-gt-TOP_LENGTH
unfolding write_refusal_def shelf
returns-then-n-gt-TOP_LENGTH c = rw (sym c.outside.ensures ∙ c.if-outside.false, sym c.outside-2.ensures ∙ c.if-outside-2.false, lt-ltb _ _ c.if-n-gt-TOP_LENGTH.true) refl

pub returns-then-is_pending : goal.returns-then-is_pending
unfolding write_refusal_def shelf
returns-then-is_pending c = rw (sym c.outside.ensures ∙ c.if-outside.false, sym c.outside-2.ensures ∙ c.if-outside-2.false, le-ltb _ _ c.if-n-gt-TOP_LENGTH.false, sym c.is_pending.ensures ∙ c.if-is_pending.true) refl

pub returns-then-call-ge-TOP_NUMBER : goal.returns-then-call-ge-TOP_NUMBER
unfolding write_refusal_def shelf
returns-then-call-ge-TOP_NUMBER c = rw (sym c.outside.ensures ∙ c.if-outside.false, sym c.outside-2.ensures ∙ c.if-outside-2.false, le-ltb _ _ c.if-n-gt-TOP_LENGTH.false, sym c.is_pending.ensures ∙ c.if-is_pending.false, le-leb top_number c.args.call.number (omega arith)) refl

pub returns : goal.returns
unfolding write_refusal_def shelf
returns c = rw (sym c.outside.ensures ∙ c.if-outside.false, sym c.outside-2.ensures ∙ c.if-outside-2.false, le-ltb _ _ c.if-n-gt-TOP_LENGTH.false, sym c.is_pending.ensures ∙ c.if-is_pending.false, lt-leb top_number c.args.call.number (omega arith)) refl
