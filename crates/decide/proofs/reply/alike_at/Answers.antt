-- The slots are borrowed whole. Nothing is assumed.
use Rattle.std.proofs.Common.{◌∙◌, sym, subst, refl}
use Rattle.decide.specs.Steps.{slot_held, Full}
use Rattle.decide.proofs.Replies.{lent_length, slot_lent}
use Rattle.decide.proofs.reply.alike_at.Goals as goal

pub alike-requires : goal.alike-requires
alike-requires c =
    let a = c.args in
    let p = c.requires in (
      p.0.low,
      p.0.high,
      lent_length a.kept.now a.b p.0.size p.1,
      lent_length a.kept.now a.j p.0.size p.2,
      subst Full (sym (slot_lent a.kept.now a.b)) p.3,
      subst Full (sym (slot_lent a.kept.now a.j)) p.4,
    )

pub returns : goal.returns
unfolding slot_held
returns c = c.alike.ensures ∙ rw (slot_lent, slot_lent) refl
