-- What the content has of the run is copied behind nothing, and the rest is 00h.
use Rattle.std.proofs.Common.{◌≡◌, ◌+◌, ◌*◌, ℕ, length, get_or, refl, ap, ◌∙◌, arith, rules}
use Rattle.erasure.specs.Steps.{fragment_room}
use Rattle.erasure.proofs.Lists.{put_written, part_long, part_at}
use Rattle.erasure.proofs.Placed.{copied}
use Rattle.erasure.proofs.runs.plain.Goals as goal

pub returns : goal.returns
returns c =
    let content = c.args.content.now in
    let at = c.args.j * c.args.f in
    let from = c.min-from.result in
    let m = c.min-m.result in
    let part = c.copy_from_slice in
    let room : length c.blank-bytes.result ≡ fragment_room = search rules in
    copied c.args.f c.args.j m fragment_room content c.blank-bytes.result _ c.blank-bytes.ensures c.requires.0 (omega arith) (λ h. omega arith)
    (put_written c.blank-bytes.result part.new.self 0 m m (λ i. get_or content (at + i) 0)
    (part_long content part.new.self from m _ part.ensures.after (omega arith) (omega arith)) refl (omega (arith, room))
    (λ i h. part_at content part.new.self from m _ part.ensures.after (omega arith) i h ∙ ap (λ (x : ℕ). get_or content x 0) (omega arith)))
