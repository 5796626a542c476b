-- The tags of both stand where the layouts say. Nothing is assumed.
use Rattle.std.proofs.Common.{◌≡◌, ◌∙◌, sym, ap, refl, List, ℕ, suc, ◌+◌, ◌-◌, ◌*◌, take, drop, arith}
use borrow.Author.Tests.{le-leb, lt-leb}
use Rattle.cluster.specs.Config.{shelf}
use Rattle.cluster.specs.Ranges.{top_length}
use Rattle.hmac.specs.Hmac.{tag_size}
use Rattle.protocol.specs.Values.{same_list, stamp_size, nonce_size, tags_size_def}
use Rattle.protocol.specs.View.{candidate_slot, candidates_place, replies_place, reply_slot}
use Rattle.format.specs.Reading.{bytes_at}
use Rattle.decide.specs.Decided.{share_of, same_tags_at}
use Rattle.decide.proofs.Places.{part_of, candidate-tags}
use Rattle.decide.proofs.Replies.{reply-tags, size_in_def, lent_length, lent_slot, slot_lent, share-size}
use Rattle.decide.proofs.Arguments.{few}
use Rattle.decide.proofs.reply.tags_alike.Goals as goal

-- the length read
size : (t : ℕ) (kept : List ℕ) (j n : ℕ) → n ≡ size_in_def (lent_slot kept j) → n ≡ (share_of t kept (suc j)).size
size t kept j n e = e ∙ ap size_in_def (slot_lent kept j) ∙ sym (share-size t kept j)

both : (kept : List ℕ) (x y n m : ℕ) → n ≡ m → same_list (take (x + n - x) (drop x kept)) (take (y + n - y) (drop y kept))
    ≡ same_list (bytes_at kept x m) (bytes_at kept y m)
both kept x y n m e = rw (part_of kept x n, part_of kept y n, e) refl

pub size_of-n-requires : goal.size_of-n-requires
size_of-n-requires c = lent_length c.args.kept.now c.args.j c.requires.0.size c.requires.2

pub returns-then-n-gt-TOP_LENGTH : goal.returns-then-n-gt-TOP_LENGTH
unfolding same_tags_at
returns-then-n-gt-TOP_LENGTH c =
    let a = c.args in
    rw (lt-leb (share_of a.t a.kept.now (suc a.j)).size top_length (omega (arith, size a.t a.kept.now a.j c.size_of-n.result c.size_of-n.ensures))) refl

pub returns : goal.returns
unfolding same_tags_at
returns c =
    let a = c.args in
    let p = c.requires in
    let z = size a.t a.kept.now a.j c.size_of-n.result c.size_of-n.ensures in
    let at : ℕ = replies_place + reply_slot * a.j + c.tags_place.result in
    let w : ℕ = tag_size * c.servers-s.result in
    let e : w ≡ tags_size_def (shelf a.t) = omega (arith, c.servers-s.ensures.0) in
    rw (le-leb (share_of a.t a.kept.now (suc a.j)).size top_length (omega (arith, c.if-n-gt-TOP_LENGTH.false, z)))
    (c.same.ensures ∙ both a.kept.now at (candidates_place + candidate_slot * a.i + (stamp_size + nonce_size)) w (tags_size_def (shelf a.t)) e
    ∙ ap (λ (x : List ℕ). same_list x (bytes_at a.kept.now (candidates_place + candidate_slot * a.i + (stamp_size + nonce_size))
    (tags_size_def (shelf a.t)))) (sym (reply-tags a.t a.kept.now a.j c.size_of-n.result at z
    (omega (arith, c.tags_place.ensures.place, c.servers-s.ensures.0))
    (omega (arith, c.tags_place.ensures.room, c.tags_place.ensures.place))))
    ∙ ap (same_list (share_of a.t a.kept.now (suc a.j)).tags) (sym (candidate-tags (shelf a.t) a.kept.now a.i p.1 (few p.0))))
