-- With equal lengths the rest stands at the same places, one after the other. Nothing is assumed.
use Rattle.std.proofs.Common.{◌≡◌, ◌∙◌, sym, ap, ℕ, ◌+◌, ◌-◌, ◌*◌, List, take, drop, arith}
use borrow.Author.Tests.{ne_eqb}
use Rattle.cluster.specs.Config.{shelf}
use Rattle.erasure.specs.Fragments.{fragment_size_def}
use Rattle.hmac.specs.Hmac.{tag_size}
use Rattle.protocol.specs.Values.{same_list, digest_size, digests_size_def, tags_size_def}
use Rattle.format.specs.Reading.{bytes_at}
use Rattle.decide.proofs.Replies.{digests_in_def, alike-not, alike_in}
use Rattle.decide.proofs.reply.alike.Goals as goal

cuts : (a b : List ℕ) (x y n m : ℕ) → x ≡ y → n ≡ m → same_list (take n (drop x a)) (take n (drop x b)) ≡ same_list (bytes_at a y m) (bytes_at b y m)
unfolding bytes_at
cuts a b x y n m e l = rw (e, l)

pub returns-then-size_of-n : goal.returns-then-size_of-n
returns-then-size_of-n c =
    let a = c.args in
    let p = c.requires in
    let r = c.digests_at-at.ensures in
    let z = ap (fragment_size_def (shelf a.t).threshold) c.size_of-n.ensures in
    let at : ℕ = c.digests_at-at.result in
    let n : ℕ = c.tags_place.result + tag_size * c.servers.result - at in
    let e : at ≡ digests_in_def (shelf a.t) a.a.now = omega (arith, r.place, z) in
    let l : n ≡ digests_size_def (shelf a.t) + digest_size + tags_size_def (shelf a.t) =
    omega (arith, r.place, c.tags_place.ensures.place, c.servers.ensures.0) in
    c.same.ensures
    ∙ cuts a.a.now a.b.now at (digests_in_def (shelf a.t) a.a.now) n (digests_size_def (shelf a.t) + digest_size + tags_size_def (shelf a.t)) e l
    ∙ sym (alike_in (shelf a.t) a.a.now a.b.now p.4 p.5 (sym c.size_of.ensures ∙ c.if-size_of-n.true ∙ c.size_of-n.ensures)
    (omega (arith, r.room, e, p.2)) (omega (arith, r.room, e, p.3)))

pub returns-else-size_of-n : goal.returns-else-size_of-n
returns-else-size_of-n c =
    let a = c.args in
    let p = c.requires in
    ne_eqb c.size_of.result c.size_of-n.result c.if-size_of-n.false
    ∙ sym (alike-not (shelf a.t) a.a.now a.b.now p.4 p.5 (λ e. c.if-size_of-n.false (c.size_of.ensures ∙ e ∙ sym c.size_of-n.ensures)))
