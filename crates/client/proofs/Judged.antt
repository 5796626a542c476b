-- What a decision leads to is the definition's judgement. By its three cases: the slot told holds the chosen candidate, its leader's reply has the
-- group's tags and the content's length, and the candidate for repair is that slot's name with those tags. Assumes nothing but that the kept bytes
-- are bytes.
use Rattle.std.specs.Prelude.{Result, Ok, Err, IsOk}
use Rattle.cluster.specs.declared.Refusal.{Refusal}
use Rattle.decide.specs.declared.Decision.{Decision}
use mathlib.Core.Path.{◌≡◌, refl, sym, ap, ◌∙◌, subst}
use mathlib.Core.Bool.{Bool, true, not}
use mathlib.Core.List.{List, [], ◌∷◌, ◌++◌}
use mathlib.Core.Option.{Option, none, some}
use Prim.Native.Nat.{ℕ, zero, suc, ◌+◌, ◌-◌, ◌*◌, ◌≤◌, ◌<◌}
use native.Mathlib.Omega.{arith}
use lib.Dec.{T, eqb}
use lib.ListN.{length, drop}
use lib.Seq.{take_at}
use borrow.Author.Tests.{le-leb, le-ltb, eq-eqb}
use Rattle.cluster.specs.Config.{shelf}
use Rattle.cluster.specs.Ranges.{top_faults, content_room, most_servers, top_length}
use Rattle.sha256.specs.Sha256.{sha256}
use Rattle.erasure.specs.Fragments.{fragment_size_def}
use Rattle.protocol.specs.declared.Call.{Call}
use Rattle.protocol.specs.declared.Tally.{Tally}
use Rattle.protocol.specs.declared.Taken.TheVariants as taken
use Rattle.protocol.specs.Answers.{taken_answer}
use Rattle.format.specs.Format.{Bytes}
use Rattle.protocol.specs.Values.{Candidate, Share, Held, stamp_size, nonce_size, digest_size, digests_size_def, tags_size_def}
use Rattle.protocol.specs.Packet.{candidate_f, share_size_def}
use Rattle.protocol.specs.Primitives.{real}
use Rattle.protocol.specs.Rules.{ByServer, gather, live, choice, leader, proven, parts, restored_by, tags_in}
use Rattle.format.specs.Reading.{over, bytes_at}
use Rattle.protocol.specs.View.{share_of_size, kept_size, marked, candidates_in, replies_in, reply_slot_of, candidates_place, candidate_slot}
use Rattle.protocol.specs.View.{replies_place, reply_slot}
use Rattle.protocol.specs.ClientBytes.{fresh}
use Rattle.client.specs.Rounds.{took, delivers, found_in, judge_in, with_tally_def}
use Rattle.protocol.proofs.Primitive.{real-lengths}
use Rattle.protocol.proofs.Room.{shelf-fits}
use Rattle.decide.specs.declared.Decision.TheVariants as decisions
use Rattle.decide.specs.Decided.{Verdict, decision_told, decision_answer, Decided, tags_place_def, slot_of, decided_on, decide_refusal_def, decided}
use Rattle.decide.specs.Steps.{Usable, Full, leader_at, fits_at, leads_at}
use Rattle.decide.proofs.Places.{part-part, candidate_in_lem, reply_in, part_length, bytes-part}
use Rattle.decide.proofs.Replies.{size_in_def, held_share, tags_in_lem, slot-part}
use Rattle.decide.proofs.Groups.{leader-leads, leads-fits, leader_full, fits-named}
use Rattle.decide.proofs.Found.{chosen-slot, found-tags}
use Rattle.client.specs.Filter.{repair_bytes, found_at, judged_by, judged_in, decided_now}
use Rattle.client.proofs.Printed.{name_printed}

-- ---- by the decision's answer

module _ (t : ℕ) (c : Call) (kept output : List ℕ) where
  by_verdict : (v : Verdict) → (decided_now t c kept).answer ≡ v
      → judged_by t c kept output v (decided_now t c kept).output ≡ judged_in t c kept output
  unfolding judged_in
  by_verdict v e = sym (ap (λ (x : Verdict). judged_by t c kept output x (decided_now t c kept).output) e)

  pub judged_wait : (decided_now t c kept).answer ≡ decision_answer decisions.Wait
      → record { answer = taken_answer taken.More; call = c; kept = kept; output = output } ≡ judged_in t c kept output
  unfolding judged_by
  judged_wait e = by_verdict (decision_answer decisions.Wait) e

  pub judged-blank : (decided_now t c kept).answer ≡ decision_answer decisions.Blank
      → record { answer = taken_answer taken.Blank; call = with_tally_def c (fresh 0); kept = kept; output = output } ≡ judged_in t c kept output
  unfolding judged_by
  judged-blank e = by_verdict (decision_answer decisions.Blank) e

  pub judged-found : (i b n : ℕ) (content : List ℕ) → (decided_now t c kept).answer ≡ decision_answer (decisions.Found i b n) → content
      ≡ bytes_at (decided_now t c kept).output 0 n
      → found_at t c kept output i b content ≡ judged_in t c kept output
  unfolding judged_by
  judged-found i b n content e f = ap (found_at t c kept output i b) f ∙ by_verdict (decision_answer (decisions.Found i b n)) e

-- the first bytes of what was written over
cut-over : (x room : List ℕ) → bytes_at (over x room) 0 (length x) ≡ x
unfolding bytes_at over
cut-over x room = take_at x (drop (length x) room) (length x) refl

module _ (t : ℕ) (marks kept : List ℕ) (u : Usable t kept) (bytes : Bytes kept) where
  abbrev held : ByServer Candidate
  held = candidates_in (shelf t) kept

  abbrev m : ByServer Bool
  m = marked marks

  abbrev g : ByServer Held
  g = replies_in (shelf t) marks kept

  abbrev listed : List Candidate
  listed = gather held (shelf t).servers

  abbrev leader_of : Candidate → ℕ
  leader_of x = leader real (shelf t) m g x (shelf t).servers

  abbrev content_of : Candidate → List ℕ
  content_of x = restored_by real (shelf t) m g x (leader_of x) (g (leader_of x)).share

  on-choice : (room : List ℕ) → content_room ≤ length room
      → decided t marks kept room ≡ decided_on (shelf t) m g held room (live real (shelf t) m g listed) (choice real (shelf t) m g listed)
  unfolding decided decide_refusal_def
  on-choice room l =
      rw (eq-eqb (length kept) kept_size u.size, le-leb 1 t u.low, le-leb t top_faults u.high, le-ltb (length room) content_room l)

  -- ---- a slot and its leader

  module _ (i b : ℕ) (slot : i < (shelf t).servers) (led : leader_at t marks kept i (shelf t).servers ≡ suc b) where
    abbrev name : List ℕ
    name = bytes_at kept (candidates_place + candidate_slot * i) (stamp_size + nonce_size)

    leads : (leads_at t marks kept i b ≡ true) × (b < (shelf t).servers)
    leads = leader-leads t marks kept i (shelf t).servers b led

    small : b < most_servers
    small = omega (arith, leads.1, (shelf-fits t u.low u.high).few)

    fit : fits_at t marks kept i b ≡ true
    fit = (leads-fits t marks kept i b leads.0).0

    full : Full (reply_slot_of kept b)
    full = leader_full t marks kept i (sha256 (held (suc i)).nonce) refl b small fit

    shared : (g (suc b)).share ≡ some (share_of_size (shelf t) (size_in_def (reply_slot_of kept b)) (drop (stamp_size + 1) (reply_slot_of kept b)))
    shared =
        ap (λ (x : Held). x.share) (reply_in (shelf t) marks kept b small
        (fits-named t marks kept i (sha256 (held (suc i)).nonce) refl b small fit).0)
        ∙ held_share (shelf t) (reply_slot_of kept b) full.flag

    content-length : length (restored_by real (shelf t) m g (held (suc i)) (suc b) (g (suc b)).share) ≡ size_in_def (reply_slot_of kept b)
    content-length =
        ap (λ (o : Option Share). length (restored_by real (shelf t) m g (held (suc i)) (suc b) o)) shared
        ∙ (unfold restored_by share_of_size in real-lengths.content (shelf t).points (shelf t).threshold (size_in_def (reply_slot_of kept b))
        (parts real (shelf t) m g (held (suc i)) (suc b) (shelf t).servers))

    -- the group's tags stand in the leader's reply
    tags_are : tags_in real (shelf t) (held (suc i)) (g (suc b)).share
        ≡ bytes_at kept (replies_place + reply_slot * (suc b - 1) + tags_place_def t (size_in_def (reply_slot_of kept b))) (tags_size_def (shelf t))
    tags_are =
        let n : ℕ = size_in_def (reply_slot_of kept b) in
        let z : b ≡ suc b - 1 = omega arith in
        let r : tags_place_def t n + tags_size_def (shelf t) ≤ reply_slot = room n full.top in
        ap (tags_in real (shelf t) (held (suc i))) shared ∙ (tags_in_lem (shelf t) (reply_slot_of kept b) n
        ∙ (place n ∙ (slot-part kept b (tags_place_def t n) (tags_size_def (shelf t)) r
        ∙ ap (λ (k : ℕ). bytes_at kept (replies_place + reply_slot * k + tags_place_def t n) (tags_size_def (shelf t))) z)))
      where
        place : (n : ℕ) → bytes_at (reply_slot_of kept b) (stamp_size + 3 + fragment_size_def (shelf t).threshold n + digests_size_def (shelf t) + digest_size)
            (tags_size_def (shelf t))
            ≡ bytes_at (reply_slot_of kept b) (tags_place_def t n) (tags_size_def (shelf t))
        place n = refl

        room : (n : ℕ) → n ≤ top_length → tags_place_def t n + tags_size_def (shelf t) ≤ reply_slot
        room n h = unfold share_size_def in omega (arith, (shelf-fits t u.low u.high).room n h)

    -- a candidate with the slot's stamp and nonce is printed with the slot's first bytes
    named : (tags : List ℕ) → (candidate_f (shelf t)).print (record { stamp = (held (suc i)).stamp; nonce = (held (suc i)).nonce; tags = tags }) ≡ name
        ++ tags
    named tags =
        let few = (shelf-fits t u.low u.high).few in
        let D : List ℕ = bytes_at kept (candidates_place + candidate_slot * i) candidate_slot in
        let l : length D ≡ candidate_slot = part_length kept (candidates_place + candidate_slot * i) candidate_slot (omega (arith, u.size)) in
        let o : candidates_place + candidate_slot * i + 0 ≡ candidates_place + candidate_slot * i = omega arith in
        ap (λ (x : Candidate). (candidate_f (shelf t)).print (record { stamp = x.stamp; nonce = x.nonce; tags = tags }))
        (candidate_in_lem (shelf t) kept i (omega arith))
        ∙ (name_printed (shelf t) D tags (bytes-part kept (candidates_place + candidate_slot * i) candidate_slot bytes) (omega arith)
        ∙ ap (λ (x : List ℕ). x ++ tags) (part-part kept (candidates_place + candidate_slot * i) candidate_slot 0 (stamp_size + nonce_size) (omega arith)
        ∙ ap (λ (k : ℕ). bytes_at kept k (stamp_size + nonce_size)) o))

    repaired : (n : ℕ) → n ≡ size_in_def (reply_slot_of kept b)
        → repair_bytes t kept i (suc b) n ≡ (candidate_f (shelf t)).print
        (record { stamp = (held (suc i)).stamp; nonce = (held (suc i)).nonce; tags = tags_in real (shelf t) (held (suc i)) (g (suc b)).share })
    unfolding repair_bytes
    repaired n e = rw e (sym (named (tags_in real (shelf t) (held (suc i)) (g (suc b)).share) ∙ ap (λ (x : List ℕ). name ++ x) tags_are))

    found_at_lem : (client : ℕ) (writers : List ℕ) (keys : ByServer (List ℕ)) (c : Call) (y : Tally) (before output : List ℕ)
        → found_at t (with_tally_def c y) kept output i (suc b) (restored_by real (shelf t) m g (held (suc i)) (suc b) (g (suc b)).share)
        ≡ found_in real (shelf t) client writers keys c before output m g kept (held (suc i)) (suc b)
    unfolding found_at found_in delivers took
    found_at_lem client writers keys c y before output =
        rw (
          found-tags t marks kept i b u slot led,
          repaired (length (restored_by real (shelf t) m g (held (suc i)) (suc b) (g (suc b)).share))
              content-length,
        )

  -- ---- the cases of a decision

  module _ (client : ℕ) (writers : List ℕ) (keys : ByServer (List ℕ)) (c : Call) (y : Tally) (before output room : List ℕ) where
    -- the chosen one, by its leader
    led_by : (i n : ℕ) → i < (shelf t).servers → leader_at t marks kept i (shelf t).servers ≡ n → not (eqb n 0) ≡ true
        → found_at t (with_tally_def c y) kept output i n (restored_by real (shelf t) m g (held (suc i)) n (g n).share)
        ≡ found_in real (shelf t) client writers keys c before output m g kept (held (suc i)) n
    led_by i zero l e p = absurd (subst T (sym p) tt)
    led_by i (suc b) l e p = found_at_lem i b l e client writers keys c y before output

    chosen : (x : Candidate) → choice real (shelf t) m g listed ≡ some x
        → found_at t (with_tally_def c y) kept output (slot_of held x (shelf t).servers) (leader_of x)
        (bytes_at (over (content_of x) room) 0 (length (content_of x)))
        ≡ found_in real (shelf t) client writers keys c before output m g kept x (leader_of x)
    chosen x e =
        let i : ℕ = slot_of held x (shelf t).servers in
        let k = chosen-slot (shelf t) m g held x e in
        ap (found_at t (with_tally_def c y) kept output i (leader_of x)) (cut-over (content_of x) room)
        ∙ subst (λ (z : Candidate). found_at t (with_tally_def c y) kept output i (leader_of z) (content_of z)
        ≡ found_in real (shelf t) client writers keys c before output m g kept z (leader_of z)) k.1
        (led_by i (leader_of (held (suc i))) k.0 (unfold leader_at in refl)
        (subst (λ (z : Candidate). proven real (shelf t) m g z ≡ true) (sym k.1) k.2))

    judged_on : (ls : List Candidate) (o : Option Candidate) → choice real (shelf t) m g listed ≡ o
        → judged_by t (with_tally_def c y) kept output (decided_on (shelf t) m g held room ls o).answer (decided_on (shelf t) m g held room ls o).output
        ≡ judge_in real (shelf t) client writers keys c before output (with_tally_def c y) m g kept ls o
    unfolding judged_by decided_on judge_in took
    judged_on [] o e = refl
    judged_on (l ∷ ls) none e = refl
    judged_on (l ∷ ls) (some x) e = chosen x e

    pub judged_by_lem : content_room ≤ length room
        → judged_by t (with_tally_def c y) kept output (decided t marks kept room).answer (decided t marks kept room).output
        ≡ judge_in real (shelf t) client writers keys c before output (with_tally_def c y) m g kept (live real (shelf t) m g listed)
        (choice real (shelf t) m g listed)
    judged_by_lem l =
        ap (λ (d : Decided). judged_by t (with_tally_def c y) kept output d.answer d.output) (on-choice room l)
        ∙ judged_on (live real (shelf t) m g listed) (choice real (shelf t) m g listed) refl

  -- ---- a decision is no refusal

  told_on : (room : List ℕ) (r : Result Decision Refusal) (ls : List Candidate) (o : Option Candidate)
      → decision_told r ≡ (decided_on (shelf t) m g held room ls o).answer → IsOk r
  unfolding decided_on
  told_on room (Ok d) ls o e = refl
  told_on room (Err why) [] o e = absurd (omega (arith, ap (λ (v : Verdict). v.result) e))
  told_on room (Err why) (l ∷ ls) none e = absurd (omega (arith, ap (λ (v : Verdict). v.result) e))
  told_on room (Err why) (l ∷ ls) (some x) e = absurd (omega (arith, ap (λ (v : Verdict). v.result) e))

  pub decided-ok : (room : List ℕ) → content_room ≤ length room → (r : Result Decision Refusal)
      → decision_told r ≡ (decided t marks kept room).answer → IsOk r
  decided-ok room l r e =
      told_on room r (live real (shelf t) m g listed) (choice real (shelf t) m g listed) (e ∙ ap (λ (d : Decided). d.answer) (on-choice room l))

  -- ---- where a decision points

  range_on : (room : List ℕ) (i b n : ℕ) (ls : List Candidate) (o : Option Candidate) → choice real (shelf t) m g listed ≡ o
      → (decided_on (shelf t) m g held room ls o).answer ≡ decision_answer (decisions.Found i b n)
      → (i < (shelf t).servers) × ((1 ≤ b) × (b ≤ (shelf t).servers))
  unfolding decided_on
  range_on room i b n [] o e q = absurd (omega (arith, ap (λ (v : Verdict). v.result) q))
  range_on room i b n (l ∷ ls) none e q = absurd (omega (arith, ap (λ (v : Verdict). v.result) q))
  range_on room i b n (l ∷ ls) (some x) e q =
      let k = chosen-slot (shelf t) m g held x e in
      let j : slot_of held x (shelf t).servers ≡ i = ap (λ (v : Verdict). v.slot) q in
      let w : leader_of x ≡ b = ap (λ (v : Verdict). v.server) q in
      let h : held (suc i) ≡ x = subst (λ (y : ℕ). held (suc y) ≡ x) j k.1 in
      let p : not (eqb b 0) ≡ true = subst (λ (y : ℕ). not (eqb y 0) ≡ true) w k.2 in
      let r : leader_at t marks kept i (shelf t).servers ≡ leader_of (held (suc i)) = unfold leader_at in refl in
      let f : leader_at t marks kept i (shelf t).servers ≡ b = r ∙ (ap leader_of h ∙ w) in
      (subst (λ (y : ℕ). y < (shelf t).servers) j k.0, led_range i b f p)
    where
      led_range : (i b : ℕ) → leader_at t marks kept i (shelf t).servers ≡ b → not (eqb b 0) ≡ true → (1 ≤ b) × (b ≤ (shelf t).servers)
      led_range i zero f p = absurd (subst T (sym p) tt)
      led_range i (suc b) f p = (omega arith, omega (arith, (leader-leads t marks kept i (shelf t).servers b f).1))

  pub found_range : (room : List ℕ) → content_room ≤ length room → (i b n : ℕ)
      → (decided t marks kept room).answer ≡ decision_answer (decisions.Found i b n)
      → (i < (shelf t).servers) × ((1 ≤ b) × (b ≤ (shelf t).servers))
  found_range room l i b n q =
      range_on room i b n (live real (shelf t) m g listed) (choice real (shelf t) m g listed) refl
      (ap (λ (d : Decided). d.answer) (sym (on-choice room l)) ∙ q)
