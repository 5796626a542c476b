-- The first test that applies gives the refusal. Nothing is assumed.
use Rattle.std.proofs.Common.{◌∙◌, sym, refl, arith}
use borrow.Author.Tests.{eq-eqb, ne_eqb, lt-ltb, le-ltb}
use Rattle.cluster.specs.Ranges.{content_room}
use Rattle.protocol.specs.View.{kept_size}
use Rattle.decide.specs.Decided.{decide_refusal_def}
use Rattle.decide.proofs.decide_refusal.Goals as goal

pub returns-then-size-ne-KEPT : goal.returns-then-size-ne-KEPT
unfolding decide_refusal_def
returns-then-size-ne-KEPT c = rw (ne_eqb c.args.size kept_size c.if-size-ne-KEPT.true) refl

pub returns-then-outside : goal.returns-then-outside
unfolding decide_refusal_def
returns-then-outside c =
    rw (eq-eqb c.args.size kept_size c.if-size-ne-KEPT.false, sym c.outside.ensures ∙ c.if-outside.true) refl

pub returns-then-room-lt-CONTENT_ROOM : goal.returns-then-room-lt-CONTENT_ROOM
unfolding decide_refusal_def
returns-then-room-lt-CONTENT_ROOM c =
    rw (
      eq-eqb c.args.size kept_size c.if-size-ne-KEPT.false,
      sym c.outside.ensures ∙ c.if-outside.false,
      lt-ltb c.args.room content_room (omega arith),
    ) refl

pub returns : goal.returns
unfolding decide_refusal_def
returns c =
    rw (
      eq-eqb c.args.size kept_size c.if-size-ne-KEPT.false,
      sym c.outside.ensures ∙ c.if-outside.false,
      le-ltb c.args.room content_room (omega arith),
    ) refl
