-- A reply of the filter round: its body's bytes go to the server's slot, which has room for them, and the round goes on or is judged.
-- The head is in its ranges and the body in its layout, as in every packet that is let through. Assumes nothing but that the reply and the kept bytes
-- are bytes.
use mathlib.Core.Path.{◌≡◌, refl, sym, ap, ◌∙◌, subst}
use mathlib.Core.Bool.{Bool, true, false, cond}
use mathlib.Core.List.{List, []}
use mathlib.Core.Option.{some}
use Prim.Native.Nat.{ℕ, ◌+◌, ◌-◌, ◌*◌, ◌≤◌}
use native.Mathlib.Omega.{arith}
use lib.ListN.{length, drop, replicate, length-replicate}
use Rattle.cluster.specs.Config.{shelf}
use Rattle.cluster.specs.Ranges.{content_room}
use Rattle.protocol.specs.declared.Call.{Call}
use Rattle.protocol.specs.declared.Head.{Head}
use Rattle.protocol.specs.declared.Taken.TheVariants as taken
use Rattle.protocol.specs.Answers.{taken_answer}
use Rattle.format.specs.Format.{Bytes}
use Rattle.protocol.specs.Values.{Candidate, Held}
use Rattle.protocol.specs.Packet.{Body, BodyOk, head_size, print_body, held_f, filter_reply}
use Rattle.protocol.specs.Primitives.{real}
use Rattle.protocol.specs.Rules.{ByServer, gather, live, choice}
use Rattle.protocol.specs.Client.{held_in_def}
use Rattle.protocol.specs.View.{held_at, kept_size, marked, candidates_in, replies_in, replies_place, reply_slot}
use Rattle.protocol.specs.ClientBytes.{Took, key_of}
use Rattle.format.specs.Reading.{put}
use Rattle.client.specs.Rounds.{took, take_on, take_filter_def, judge_in, noted, ends, with_tally_def, take_by_rounds}
use Rattle.protocol.proofs.Bodies.{decode-ok, body_ok}
use Rattle.protocol.proofs.HandOk.{held-room}
use Rattle.format.proofs.Puts.{put-length}
use Rattle.protocol.proofs.Room.{shelf-fits}
use Rattle.wire.specs.Places.{body_at, packet_at}
use Rattle.client.specs.Steps.{Ready}
use Rattle.client.specs.Filter.{judged_in}
use Rattle.client.proofs.TakeRefusals.{awaited-reply}
use Rattle.client.proofs.ReadyRanges.{ready-faults, ready-server}
use Rattle.client.proofs.TakenReplies.{on-round, body_at_lem, printed}
use Rattle.client.proofs.Judged.{judged_by_lem}

-- the round's step, of a body
on-filter : (t client : ℕ) (writers : List ℕ) (keys : ByServer (List ℕ)) (c : Call) (kept output : List ℕ) (h : Head) (x : Body) (d : List ℕ) → (held_f
    (shelf t)).print (held_in_def x) ≡ d
    → take_on real (shelf t) client writers keys c kept output 5 (some (record { head = h; body = x }))
    ≡ (let c' = with_tally_def c (noted (shelf t) c.tally h.server) in
    let k = put kept (replies_place + reply_slot * (h.server - 1)) d in
    let m = marked c'.tally.marks in
    let g = replies_in (shelf t) c'.tally.marks k in
    let cs = gather (candidates_in (shelf t) k) (shelf t).servers in
    cond (ends (shelf t) c h.server) (judge_in real (shelf t) client writers keys c kept output c' m g k (live real (shelf t) m g cs)
    (choice real (shelf t) m g cs))
    (record { answer = taken_answer taken.More; call = c'; kept = k; output = output }))
unfolding take_on take_filter_def took
on-filter t client writers keys c kept output h x d e = rw e

module _ (t client : ℕ) (c : Call) (reply : List ℕ) (h : Head) (y : Ready t client c reply h) where
  module _ (e : c.tally.round ≡ 5) (bytes : Bytes reply) where
    abbrev body : List ℕ
    body = drop head_size reply

    body_is : (packet_at h reply).body ≡ filter_reply (held_at (shelf t) body)
    unfolding body_at
    body_is = body_at_lem t client [] (λ i. []) c [] [] reply h y 5 e refl

    held-print : (held_f (shelf t)).print (held_at (shelf t) body) ≡ body
    held-print = ap (print_body (shelf t)) (sym body_is) ∙ printed t client [] (λ i. []) c [] [] reply h y bytes

    held-ok : (held_f (shelf t)).Ok (held_at (shelf t) body)
    held-ok =
        let o : BodyOk (shelf h.t) (packet_at h reply).body = of-head in
        subst (BodyOk (shelf t)) body_is (subst (λ (k : ℕ). BodyOk (shelf k) (packet_at h reply).body)
        (awaited-reply t client c h y.awaited).of_shelf o)
      where
        of-head : BodyOk (shelf h.t) (packet_at h reply).body
        of-head = unfold packet_at in body_ok (packet_at h reply) (decode-ok reply (packet_at h reply) y.decoded)

    -- the body fits its slot
    pub body-fits : length body ≤ reply_slot
    body-fits =
        let r = ready-faults t client c reply h y in
        rw held-print at (held-room (shelf t) (shelf-fits t r.0 r.1) (held_at (shelf t) body) held-ok)

    module _ (writers : List ℕ) (keys : List (List ℕ)) (kept output : List ℕ) (room : content_room ≤ length output) where
      abbrev then : Call
      then = with_tally_def c (noted (shelf t) c.tally h.server)

      abbrev after : List ℕ
      after = put kept (replies_place + reply_slot * (h.server - 1)) body

      abbrev m : ByServer Bool
      m = marked then.tally.marks

      abbrev g : ByServer Held
      g = replies_in (shelf t) then.tally.marks after

      abbrev cs : List Candidate
      cs = gather (candidates_in (shelf t) after) (shelf t).servers

      abbrev judged : Took
      judged = judge_in real (shelf t) client writers (key_of keys) c kept output then m g after (live real (shelf t) m g cs)
          (choice real (shelf t) m g cs)

      took-filter : take_by_rounds real t client writers keys c kept reply output
          ≡ cond (ends (shelf t) c h.server) judged (record { answer = taken_answer taken.More; call = then; kept = after; output = output })
      unfolding take_by_rounds
      took-filter =
          on-round t client writers (key_of keys) c kept output reply h y room 5 e (λ z. (let q : ⊥ = omega (arith, z) in q))
          ∙ (ap (λ (x : Body). take_on real (shelf t) client writers (key_of keys) c kept output 5 (some (record { head = h; body = x }))) body_is
          ∙ on-filter t client writers (key_of keys) c kept output h (filter_reply (held_at (shelf t) body)) body held-print)

      pub filter_more : ends (shelf t) c h.server ≡ false
          → record { answer = taken_answer taken.More; call = then; kept = after; output = output }
          ≡ take_by_rounds real t client writers keys c kept reply output
      filter_more f = sym (took-filter ∙ rw f)

      pub filter-ends : length kept ≡ kept_size → Bytes after → ends (shelf t) c h.server ≡ true
          → judged_in t then after output ≡ take_by_rounds real t client writers keys c kept reply output
      unfolding judged_in
      filter-ends l bs f =
          let r = ready-faults t client c reply h y in
          let v = ready-server t client c reply h y in
          let n : length after ≡ kept_size = put-length kept (replies_place + reply_slot * (h.server - 1)) body
          (omega (arith, l, body-fits, v.0, v.1)) ∙
          l in
          let z : length {A = ℕ} (replicate content_room 0) ≡ content_room = length-replicate {A = ℕ} content_room 0 in
          judged_by_lem t then.tally.marks after (record { low = r.0; high = r.1; size = n }) bs client writers (key_of keys) c
          (noted (shelf t) c.tally h.server) kept output
          (replicate content_room 0) (omega (arith, z))
          ∙ sym (took-filter ∙ rw f)
