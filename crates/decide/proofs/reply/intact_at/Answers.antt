-- The slot is borrowed whole. Nothing is assumed.
use Rattle.std.proofs.Common.{◌≡◌, ◌∙◌, sym, subst, refl, arith}
use Rattle.decide.specs.Steps.{slot_held, Full}
use Rattle.decide.proofs.Arguments.{few}
use Rattle.decide.proofs.Replies.{lent_length, slot_lent}
use Rattle.decide.proofs.reply.intact_at.Goals as goal

pub overflow_mul-b : goal.overflow_mul-b
overflow_mul-b c = omega (arith, c.requires.0.size, c.requires.1, few c.requires.0)

pub overflow_add-b : goal.overflow_add-b
overflow_add-b c = omega (arith, c.requires.0.size, c.requires.1, few c.requires.0)

pub overflow_add-b-2 : goal.overflow_add-b-2
overflow_add-b-2 c = omega (arith, c.requires.0.size, c.requires.1, few c.requires.0)

pub slice_bounds-intact-end : goal.slice_bounds-intact-end
slice_bounds-intact-end c = omega (arith, c.requires.0.size, c.requires.1, few c.requires.0)

pub intact-requires : goal.intact-requires
intact-requires c =
    let a = c.args in
    let p = c.requires in (
      p.0.low,
      p.0.high,
      lent_length a.kept.now a.j p.0.size (omega (arith, p.1, few p.0)),
      subst Full (sym (slot_lent a.kept.now a.j)) p.2,
      p.1,
    )

pub returns : goal.returns
unfolding slot_held
returns c = c.intact.ensures ∙ rw slot_lent refl
