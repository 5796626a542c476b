-- The fragment and its digest stand where the length says. Nothing is assumed.
use Rattle.std.proofs.Common.{◌≡◌, ◌∙◌, sym, ap, List, ℕ, ◌+◌, ◌-◌, ◌*◌, take, drop, arith}
use Rattle.cluster.specs.Config.{shelf}
use Rattle.sha256.specs.Sha256.{sha256}
use Rattle.erasure.specs.Fragments.{fragment_size_def}
use Rattle.protocol.specs.Values.{same_list, stamp_size, digest_size}
use Rattle.protocol.specs.View.{share_at}
use Rattle.format.specs.Reading.{bytes_at}
use Rattle.decide.proofs.Places.{part_of}
use Rattle.decide.proofs.Replies.{size_in_def, digests_in_def, fragment-handed, intact_in}
use Rattle.decide.proofs.reply.intact.Goals as goal

pub returns : goal.returns
returns c =
    let a = c.args in
    let p = c.requires in
    let F : ℕ = fragment_size_def (shelf a.t).threshold (size_in_def a.reply.now) in
    let z = ap (fragment_size_def (shelf a.t).threshold) c.size_of.ensures in
    let e : c.digests_at-e.result ≡ digests_in_def (shelf a.t) a.reply.now = omega (arith, c.digests_at-e.ensures.place, z) in
    let handed = c.share_fragment.ensures
    ∙ (ap (λ (d : List ℕ). (share_at (shelf a.t) d).fragment) c.rest.ensures ∙ fragment-handed (shelf a.t) a.reply.now) in
    let at : ℕ = c.digests_at-e.result + digest_size * a.j in
    c.same.ensures
    ∙ ap (λ (x : List ℕ). same_list x (take (at + digest_size - at) (drop at a.reply.now))) (c.digest-d.ensures ∙ ap sha256 handed)
    ∙ ap (same_list (sha256 (bytes_at a.reply.now (stamp_size + 3) F)))
    (part_of a.reply.now at digest_size ∙ ap (λ (k : ℕ). bytes_at a.reply.now (k + digest_size * a.j) digest_size) e)
    ∙ sym (intact_in (shelf a.t) a.reply.now p.3 a.j p.4)
