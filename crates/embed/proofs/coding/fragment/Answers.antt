-- The operation's refusal, or its fragment, for which there is room.
use Rattle.std.proofs.Common.{◌≤◌, length, refl, arith}
use Rattle.std.proofs.lemmas.Grind.{common_steps}
use Rattle.erasure.specs.Steps.{fragment_room}
use Rattle.embed.specs.Packing.{given_def}
use Rattle.embed.proofs.Laws.{at_refusal}
use Rattle.embed.proofs.Coded.{made-count, made_bytes, made-room, own-refusal}
use Rattle.embed.proofs.coding.fragment.Goals as goal

pub returns-in_err-made-clause-value : goal.returns-in_err-made-clause-value
returns-in_err-made-clause-value c =
    let a = c.args in
    let room : fragment_room ≤ length a.out.now = grind (arith, common_steps) in
    grind (arith, common_steps, at_refusal, own-refusal a.t a.server a.content.now _ c.in_err-made.ensures a.out.now room)

pub returns-in_err-made-clause-out_after : goal.returns-in_err-made-clause-out_after
returns-in_err-made-clause-out_after c =
    let a = c.args in
    let room : fragment_room ≤ length a.out.now = grind (arith, common_steps) in
    grind (arith, common_steps, at_refusal, own-refusal a.t a.server a.content.now _ c.in_err-made.ensures a.out.now room)

pub shared_ref_as_front-give : goal.shared_ref_as_front-give
shared_ref_as_front-give c = let a = c.args in omega (arith, made-room a.t a.server a.content.now _ c.in_ok-made.ensures refl)

pub returns-clause-value : goal.returns-clause-value
unfolding given_def
returns-clause-value c =
    let a = c.args in
    let is = c.in_ok-made.ensures in
    let room : fragment_room ≤ length a.out.now = grind (arith, common_steps) in
    grind (
      arith,
      common_steps,
      own-refusal a.t a.server a.content.now _ is a.out.now room,
      made_bytes a.t a.server a.content.now _ is refl,
      made-count a.t a.server a.content.now _ is refl,
      made-room a.t a.server a.content.now _ is refl,
    )

pub returns-clause-out_after : goal.returns-clause-out_after
unfolding given_def
returns-clause-out_after c =
    let a = c.args in
    let is = c.in_ok-made.ensures in
    let room : fragment_room ≤ length a.out.now = grind (arith, common_steps) in
    grind (
      arith,
      common_steps,
      own-refusal a.t a.server a.content.now _ is a.out.now room,
      made_bytes a.t a.server a.content.now _ is refl,
      made-count a.t a.server a.content.now _ is refl,
      made-room a.t a.server a.content.now _ is refl,
    )
