-- A reply in a read's rounds: what the bytes show after collect, filter and repair is what the step on values says.
-- A reply is read back from its slot, and what is kept for repair by place. Nothing is assumed but the primitives' lengths.
use mathlib.Core.Path.{◌≡◌, refl, sym, ap, ◌∙◌, subst}
use mathlib.Core.Bool.{Bool, true, false, cond}
use mathlib.Core.List.{List, [], ◌∷◌}
use mathlib.Core.Option.{Option, none, some}
use Prim.Native.Nat.{ℕ, ◌+◌, ◌-◌, ◌≤◌}
use native.Mathlib.Omega.{arith}
use lib.ListN.{length, set, replicate}
use Rattle.cluster.specs.Config.{Config}
use Rattle.cluster.specs.Ranges.{most_servers, top_length}
use Rattle.protocol.specs.declared.Call.{Call}
use Rattle.protocol.specs.Values.{Candidate, Held, label_of, same_list}
use Rattle.protocol.specs.Packet.{Body, candidate_f}
use Rattle.protocol.specs.Primitives.{Primitives, Lengths}
use Rattle.protocol.specs.Rules.{ByServer, count_to, upd, nobody, gather, live, choice, leader, restored_by, tags_in}
use Rattle.protocol.specs.Client.{Turn, more, gave, idle, collecting, filtering, repairing, awaits, onto, update, judge, found, held_in_def}
use Rattle.protocol.specs.View.{chosen_of, content_of, candidates_in, replies_in, hand_of, view, kept_size, chosen_place}
use Rattle.format.specs.Reading.{bytes_at, put}
use Rattle.protocol.specs.ClientBytes.{put_marks, begins, put_back, after, took_by}
use Rattle.protocol.proofs.Packets.{CandidateLengths, candidate-length}
use Rattle.format.proofs.Puts.{put-length}
use Rattle.format.proofs.Places.{part_same, part-below}
use Rattle.protocol.proofs.Slots.{replies-fresh}
use Rattle.protocol.proofs.ServerLift.{over-start}
use Rattle.protocol.proofs.Sized.{Sized, candidates-sized, replies-sized, choice-sized, tags-sized, content-sized}
use Rattle.protocol.proofs.ClientLift.{Lifted, content_read}
use Rattle.protocol.proofs.Noted.{Reply, in_round, with_mark, collected, filtered, collected-size, collected_is, filtered-size, slots_now, replies_now, fresh_seen, noted_seen}
use Rattle.protocol.proofs.WriteSeen.{Turned, chosen_read}

module _ (P : Primitives) (law : Lengths P) (client : ℕ) (writers : List ℕ) (keys : ByServer (List ℕ)) (output : List ℕ)
    {s : Config} {c : Call} {kept : List ℕ} {b : ℕ} {x : Body} (a : Reply s c kept b x) where
  abbrev C : ℕ → Call
  C r = in_round c r

  abbrev m : ByServer Bool
  m = with_mark c b

  -- the reply in round r; q: with it a quorum has replied
  abbrev turn : ℕ → Bool → Turn
  turn r q = update P s client writers keys (view s (C r) kept) b x m q (hand_of s r (C r) kept)

  -- k: the kept bytes with the reply
  abbrev Take : ℕ → List ℕ → Turn → Type 0
  Take r k u = Turned s u (took_by s (C r) kept k output u)

  -- ---- collect

  pub collect-turn : (q : Bool) → Take 4 (collected s kept b x) (turn 4 q)
  unfolding update view hand_of onto took_by after put_back begins awaits
  collect-turn true =
      record {
        result = refl;
        client =
            fresh_seen a c.last c.high c.length 5 _ (collected-size a) _
            (unfold hand_of in (λ i. filtering (gather (collected_is a i) s.servers) (replies-fresh s (collected s kept b x) i)));
      }
  collect-turn false =
      record { result = refl; client = noted_seen a c.high 4 _ (collected-size a) _ (unfold hand_of in ap collecting (collected_is a)) }

  -- ---- filter

  abbrev k : List ℕ
  k = filtered s kept b x

  abbrev g : ByServer Held
  g = upd (replies_in s c.tally.marks kept) b (held_in_def x)

  abbrev cs : List Candidate
  cs = gather (candidates_in s kept) s.servers

  -- the call after it: a content of w bytes, and round r with the marks m'
  abbrev call : ℕ → ℕ → ByServer Bool → List ℕ → Call
  call w r m' zs =
      record {
        number = c.number;
        last = c.last;
        high = c.high;
        length = w;
        tally = record
            { round = r; count = count_to s.servers m'; marks = zs };
      }

  -- the read is over
  ended : Lifted s (onto (view s (C 5) kept) nobody idle) (call c.length 0 nobody (put_marks 0 c.tally.marks nobody)) k
  unfolding view onto
  ended = fresh_seen a c.last c.high c.length 0 k (filtered-size a) _ (unfold hand_of in refl)

  -- a content and a candidate kept for repair
  repair-kept : (d : Candidate) (content : List ℕ) → CandidateLengths s d → length content ≤ top_length
      → let K = put (put k 0 content) chosen_place ((candidate_f s).print d) in
      let c' = call (length content) 6 nobody (replicate most_servers 0) in
      (length K ≡ kept_size) × (repairing (chosen_of s K) (content_of c' K) ≡ repairing d content)
  unfolding chosen_of
  repair-kept d content z l =
      let B : List ℕ = (candidate_f s).print d in
      let k1 : List ℕ = put k 0 content in
      let K : List ℕ = put k1 chosen_place B in
      let s1 : length k1 ≡ kept_size = put-length k 0 content (omega (arith, filtered-size a)) ∙ filtered-size a in
      let room : chosen_place + length B ≤ length k1 = omega (arith, candidate-length s d z, a.fits.few) in
      let p : bytes_at K 0 (length content) ≡ content =
      part-below k1 chosen_place B room 0 (length content) (omega arith) ∙ part_same k 0 content (omega (arith, filtered-size a)) in
      let c' : Call = call (length content) 6 nobody (replicate most_servers 0) in
      let e : content_of c' K ≡ content = content_read c' K content refl l p in
      (put-length k1 chosen_place B room ∙ s1, λ i. repairing (chosen_read s a.fits k1 s1 d z i) (e i))

  found_turn : (d : Candidate) (n : ℕ) → CandidateLengths s (record { stamp = d.stamp; nonce = d.nonce; tags = tags_in P s d (g n).share })
      → length (restored_by P s m g d n (g n).share) ≤ top_length
      → Take 5 k (found P s client writers keys (view s (C 5) kept) m g d n)
  unfolding found view onto took_by after put_back begins awaits
  found_turn d n z l = go (same_list (tags_in P s d (g n).share) d.tags) (tags_in P s d (g n).share) (restored_by P s m g d n (g n).share) z l
    where
      go : (y : Bool) (tags content : List ℕ) → CandidateLengths s (record { stamp = d.stamp; nonce = d.nonce; tags = tags })
          → length content ≤ top_length
          → Take 5 k
          (cond y (record { client = onto (view s (C 5) kept) nobody idle; result = gave (label_of d.stamp) content })
          (record {
            client = onto (view s (C 5) kept) nobody (repairing (record { stamp = d.stamp; nonce = d.nonce; tags = tags }) content);
            result
                = more;
          }))
      go true tags content z l =
          record { result = ap (gave (label_of d.stamp)) (over-start content output); client = unfold view onto in ended }
      go false tags content z l =
          let (w, e) = repair-kept (record { stamp = d.stamp; nonce = d.nonce; tags = tags }) content z l in
          record { result = refl; client = fresh_seen a c.last c.high (length content) 6 _ w _ (unfold hand_of in e) }

  -- the round goes on with this reply
  filter_more : Lifted s (onto (view s (C 5) kept) m (filtering cs g))
      (call c.length 5 m (put_marks 0 c.tally.marks m)) k
  unfolding view onto
  filter_more = noted_seen a c.high 5 k (filtered-size a) _ (unfold hand_of
      in (λ i. filtering (gather (slots_now a i) s.servers) (replies_now a i)))

  judge-turn : (l : List Candidate) (o : Option Candidate) → ((d : Candidate) → o ≡ some d → CandidateLengths s d)
      → Take 5 k (judge P s client writers keys (view s (C 5) kept) m cs g l o)
  unfolding judge view onto took_by after put_back begins awaits
  judge-turn [] o z = record { result = refl; client = unfold view onto in ended }
  judge-turn (y ∷ l) none z = record { result = refl; client = unfold view onto in filter_more }
  judge-turn (y ∷ l) (some d) z =
      found_turn d (leader P s m g d s.servers) (tags-sized P law s m g none-0 sized d (z d refl))
      (content-sized P law s m g none-0 sized d (z d refl))
    where
      none-0 : (g 0).share ≡ none
      none-0 = ap (λ (t : ByServer Held). (t 0).share) (sym (replies_now a)) ∙ unfold replies_in in refl

      sized : (i : ℕ) → Sized s (g i)
      sized =
          subst (λ (t : ByServer Held). (i : ℕ) → Sized s (t i)) (replies_now a)
          (replies-sized s a.fits (set c.tally.marks (b - 1) 1) k (filtered-size a))

  pub filter-turn : (q : Bool) → Take 5 (filtered s kept b x) (turn 5 q)
  unfolding update view hand_of took_by after put_back begins awaits
  filter-turn true =
      unfold view in judge-turn (live P s m g cs) (choice P s m g cs)
      (choice-sized P law s m g (candidates_in s kept) (candidates-sized s a.fits kept a.sound.size) s.servers)
  filter-turn false = record { result = refl; client = unfold view onto in filter_more }

  -- ---- repair

  pub repair-turn : (q : Bool) → Take 6 kept (turn 6 q)
  unfolding update view hand_of onto took_by after put_back begins awaits content_of
  repair-turn true =
      record {
        result = ap (gave (label_of (chosen_of s kept).stamp)) (over-start (content_of (C 6) kept) output);
        client = fresh_seen a c.last c.high c.length 0 kept a.sound.size _ (unfold hand_of in refl);
      }
  repair-turn false = record { result = refl; client = noted_seen a c.high 6 kept a.sound.size _ (unfold hand_of content_of in refl) }
