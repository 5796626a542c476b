-- The reply is kept; and it is one more of the round's, or ends it, and the round is judged. Nothing is assumed.
use Rattle.std.proofs.Common.{◌≡◌, ◌∙◌, ap, subst, ℕ, ◌+◌, ◌-◌, ◌*◌, drop, arith, rules, ◌≤◌, true, false}
use Rattle.cluster.specs.Config.{shelf}
use Rattle.cluster.specs.Ranges.{most_servers}
use Rattle.format.specs.Format.{Bytes}
use Rattle.format.specs.Reading.{put}
use Rattle.protocol.specs.declared.Call.{Call}
use Rattle.protocol.specs.Packet.{head_size}
use Rattle.protocol.specs.View.{replies_place, reply_slot}
use Rattle.client.specs.Rounds.{ends}
use Rattle.client.proofs.ReadyRanges.{ready-faults, ready-server}
use Rattle.client.proofs.Tallies.{ends_by}
use Rattle.client.proofs.FilterReplies.{body-fits, filter-ends, filter_more}
use Rattle.client.proofs.filter.take_filter.Goals as goal

pub put_reply-requires : goal.put_reply-requires
put_reply-requires c =
    let a = c.args in
    let p = c.requires in
    let v : (1 ≤ c.from-server.result) × (c.from-server.result ≤ most_servers) =
    rw c.from-server.ensures (ready-server a.party.t a.party.client a.call a.reply.now a.head p.0) in
    (v.0, (v.1, (p.1.1.0, rw c.rest.ensures (body-fits a.party.t a.party.client a.call a.reply.now a.head p.0 p.1.0 (λ k. (c.type_inv.reply k).fits)))))

pub note_reply-noted-requires : goal.note_reply-noted-requires
note_reply-noted-requires c =
    let a = c.args in
    let v : (1 ≤ c.from-server.result) × (c.from-server.result ≤ most_servers) =
    rw c.from-server.ensures (ready-server a.party.t a.party.client a.call a.reply.now a.head c.requires.0) in
    ((ready-faults a.party.t a.party.client a.call a.reply.now a.head c.requires.0).1, v)

pub is_full-requires : goal.is_full-requires
is_full-requires c = let a = c.args in (ready-faults a.party.t a.party.client a.call a.reply.now a.head c.requires.0).1

pub judge-requires : goal.judge-requires
judge-requires c =
    let a = c.args in
    let p = c.requires in
    let r = ready-faults a.party.t a.party.client a.call a.reply.now a.head p.0 in
    (r.0, (r.1, (omega (arith, p.1.1.0), p.1.1.1)))

pub returns-then-is_full : goal.returns-then-is_full
returns-then-is_full c =
    let a = c.args in
    let p = c.requires in
    let y = rw c.from-server.ensures at c.note_reply-noted.ensures in
    let k = rw c.from-server.ensures at c.put_reply.ensures in
    let e : ends (shelf a.party.t) a.call a.head.server ≡ true =
    ends_by a.party.t a.call a.head.server _ (ap (λ (z : Call). z.tally) y) _ true c.is_full.ensures c.if-is_full.true in
    let at : ℕ = replies_place + reply_slot * (a.head.server - 1) in
    let N : Bytes c.put_reply.new.kept = λ i. search rules in
    let K : Bytes (put a.kept.now at (drop head_size a.reply.now)) = subst Bytes (k ∙ ap (put a.kept.now at) c.rest.ensures) N in
    λ writers keys. c.judge.ensures ∙ rw (y, k, c.rest.ensures)
    (filter-ends a.party.t a.party.client a.call a.reply.now a.head p.0 p.1.0 (λ i. (c.type_inv.reply i).fits) writers keys a.kept.now a.out.now p.1.1.1
    p.1.1.0 K e)

pub returns : goal.returns
returns c =
    let a = c.args in
    let p = c.requires in
    let y = rw c.from-server.ensures at c.note_reply-noted.ensures in
    let k = rw c.from-server.ensures at c.put_reply.ensures in
    let e : ends (shelf a.party.t) a.call a.head.server ≡ false =
    ends_by a.party.t a.call a.head.server _ (ap (λ (z : Call). z.tally) y) _ false c.is_full.ensures c.if-is_full.false in
    λ writers keys. rw (c.more.ensures, y, k, c.rest.ensures)
    (filter_more a.party.t a.party.client a.call a.reply.now a.head p.0 p.1.0 (λ i. (c.type_inv.reply i).fits) writers keys a.kept.now a.out.now p.1.1.1
    e)
