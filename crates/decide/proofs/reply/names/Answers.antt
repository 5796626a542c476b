-- Each test that fails says no, and the last one decides. Stamps of bytes are compared by their bytes. Nothing is assumed.
use Rattle.std.proofs.Common.{◌≡◌, ◌∙◌, sym, ap, ℕ, ◌+◌, ◌*◌, List, true, get_or, arith}
use borrow.Author.Tests.{eq-eqb, ne_eqb}
use Rattle.cluster.specs.Config.{shelf}
use Rattle.erasure.specs.Fragments.{fragment_size_def}
use Rattle.protocol.specs.Values.{same_list, same_stamp, stamp_size, digest_size, digests_size_def}
use Rattle.protocol.specs.View.{stamp_at_def, candidate_at}
use Rattle.format.specs.Reading.{bytes_at}
use Rattle.decide.specs.Steps.{Full}
use Rattle.decide.proofs.Places.{part_of, same_heads}
use Rattle.decide.proofs.Replies.{digests_in_def, names_none, names-long, names-other, names_last}
use Rattle.decide.proofs.reply.names.Goals as goal
use Rattle.decide.proofs.reply.names.Goals.{then-reply-eq0-via-then-reply-eq0, then-reply-eq0-via-else-reply-eq0+then-n-gt-TOP_LENGTH, then-reply-eq0-via-else-reply-eq0+else-n-gt-TOP_LENGTH+then-not-same}

pub returns-then-reply-eq0 : goal.returns-then-reply-eq0
returns-then-reply-eq0 c =
    let a = c.args in
    let p = c.requires in
    sym (elim c.then-reply-eq0.branch [
      | then-reply-eq0-via-then-reply-eq0 w ↦ names_none (shelf a.t) a.reply.now (candidate_at (shelf a.t) a.candidate.now) a.d.now
          (eq-eqb (get_or a.reply.now stamp_size 0) 0 w.if-reply-eq0.true)
      | then-reply-eq0-via-else-reply-eq0+then-n-gt-TOP_LENGTH w ↦ names-long (shelf a.t) a.reply.now a.candidate.now a.d.now
          (ne_eqb (get_or a.reply.now stamp_size 0) 0 w.if-reply-eq0.false) (omega (arith, c.size_of-n.ensures))
      | then-reply-eq0-via-else-reply-eq0+else-n-gt-TOP_LENGTH+then-not-same w ↦ names-other (shelf a.t) a.reply.now a.candidate.now a.d.now
          (ne_eqb (get_or a.reply.now stamp_size 0) 0 w.if-reply-eq0.false)
          (sym (same_heads a.reply.now a.candidate.now (λ k. (c.type_inv.reply k).fits) (λ k. (c.type_inv.candidate k).fits)
          (omega (arith, p.2)) (omega (arith, p.3))) ∙ sym w.same.ensures ∙ w.if-not-same.true)
    ])

pub returns : goal.returns
returns c =
    let a = c.args in
    let p = c.requires in
    let f : Full a.reply.now =
    record { flag = ne_eqb (get_or a.reply.now stamp_size 0) 0 c.if-reply-eq0.false; top = omega (arith, c.size_of-n.ensures) } in
    let q : same_stamp (stamp_at_def a.reply.now) (stamp_at_def a.candidate.now) ≡ true =
    sym (same_heads a.reply.now a.candidate.now (λ k. (c.type_inv.reply k).fits) (λ k. (c.type_inv.candidate k).fits)
    (omega (arith, p.2)) (omega (arith, p.3))) ∙ sym c.same.ensures ∙ c.if-not-same.false in
    let at : ℕ = c.digests_at.result + digest_size * c.servers.result in
    let e : at ≡ digests_in_def (shelf a.t) a.reply.now + digests_size_def (shelf a.t) =
    omega (arith, c.digests_at.ensures.place, c.servers.ensures.0, ap (fragment_size_def (shelf a.t).threshold) c.size_of-n.ensures) in
    c.same-2.ensures ∙ ap (λ (z : List ℕ). same_list z a.d.now)
    (part_of a.reply.now at digest_size ∙ ap (λ (k : ℕ). bytes_at a.reply.now k digest_size) e)
    ∙ sym (names_last (shelf a.t) a.reply.now a.candidate.now a.d.now f q)
