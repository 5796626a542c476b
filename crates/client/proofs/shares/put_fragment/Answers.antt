-- The fragment in its array is that of the server, and making it is never refused. Nothing is assumed.
use Rattle.std.proofs.Common.{◌≡◌, ◌∙◌, refl, ap, suc, ◌+◌, ◌*◌, ◌≤◌, length, arith}
use Rattle.std.specs.Prelude.{Ok}
use Rattle.cluster.specs.Config.{shelf}
use Rattle.cluster.specs.Ranges.{most_servers}
use Rattle.erasure.specs.Fragments.{fragment}
use Rattle.erasure.specs.Steps.{fragment_told, fragment_step}
use Rattle.format.specs.Reading.{put}
use Rattle.protocol.specs.View.{replies_place, reply_slot, content_of}
use Rattle.client.proofs.ShareBytes.{fragment-cut, fragment-ok, piece-length, start-made}
use Rattle.client.proofs.Offered.{servers-few, offer-room, content_short}
use Rattle.client.proofs.shares.put_fragment.Goals as goal

pub unwrap-made-requires : goal.unwrap-made-requires
unwrap-made-requires c =
    let a = c.args in
    let p = c.requires in
    let r = content_of a.call a.kept.now in
    let k = content_short a.call a.kept.now in
    fragment-ok a.t a.i r p.0 p.1.0 p.1.1.0 k c.fragment.result (rw c.content-content.ensures.0 at c.fragment.ensures)

pub overflow_mul-at : goal.overflow_mul-at
overflow_mul-at c = omega (arith, c.requires.1.1.0, servers-few c.args.t c.requires.1.0)

pub overflow_add-at : goal.overflow_add-at
overflow_add-at c = omega (arith, c.requires.1.1.0, servers-few c.args.t c.requires.1.0)

pub put_start-requires : goal.put_start-requires
put_start-requires c =
    let a = c.args in
    let p = c.requires in
    let r = content_of a.call a.kept.now in
    let k = content_short a.call a.kept.now in
    let f : fragment_told (Ok c.unwrap-made.result) ≡ fragment_step a.t (a.i + 1) r =
    rw (c.unwrap-made.ensures, c.content-content.ensures.0) at c.fragment.ensures in
    let e : c.part-fragment.result.now ≡ fragment (shelf a.t).points (shelf a.t).threshold r (suc a.i) =
    c.part-fragment.ensures ∙ fragment-cut a.t a.i r p.0 p.1.0 p.1.1.0 k c.unwrap-made.result f in
    let few : suc a.i ≤ most_servers = omega (arith, p.1.1.0, servers-few a.t p.1.0) in
    let m = ap length e ∙ piece-length a.t a.i r p.0 p.1.0 p.1.1.0 k in
    (c.content-content.ensures.1, omega (arith, m, few, p.1.1.1.0, offer-room a.t (length r) p.0 p.1.0 k))

pub returns : goal.returns
returns c =
    let a = c.args in
    let p = c.requires in
    let r = content_of a.call a.kept.now in
    let k = content_short a.call a.kept.now in
    let f : fragment_told (Ok c.unwrap-made.result) ≡ fragment_step a.t (a.i + 1) r =
    rw (c.unwrap-made.ensures, c.content-content.ensures.0) at c.fragment.ensures in
    let e : c.part-fragment.result.now ≡ fragment (shelf a.t).points (shelf a.t).threshold r (suc a.i) =
    c.part-fragment.ensures ∙ fragment-cut a.t a.i r p.0 p.1.0 p.1.1.0 k c.unwrap-made.result f in (
      c.put_start.ensures ∙ ap (put a.kept.now (replies_place + reply_slot * a.i)) (start-made a.t r (suc a.i) c.content-content.ensures.0 e),
      c.write_at.ensures ∙ rw (c.digest-digest.ensures, e) refl,
    )
