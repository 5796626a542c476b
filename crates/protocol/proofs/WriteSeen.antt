-- A reply in a write's rounds: what the bytes show after clock, store and complete is what the step on values says.
-- What clock's end writes is read back by place; the other rounds write only marks. Nothing is assumed but the primitives' lengths.
use mathlib.Core.Path.{◌≡◌, refl, ap, ◌∙◌}
use mathlib.Core.Bool.{Bool, true, false, cond}
use mathlib.Core.List.{List}
use Prim.Native.Nat.{ℕ}
use native.Mathlib.Omega.{arith}
use lib.Dec.{eqb}
use lib.ListN.{length}
use Rattle.cluster.specs.Config.{Config}
use Rattle.cluster.specs.Ranges.{within}
use Rattle.protocol.specs.declared.Call.{Call}
use Rattle.protocol.specs.Values.{Candidate, Share, no_share}
use Rattle.protocol.specs.Packet.{Body, candidate_f}
use Rattle.protocol.specs.Primitives.{Primitives, Lengths}
use Rattle.protocol.specs.Rules.{ByServer, nobody}
use Rattle.protocol.specs.Client.{Turn, more, storing, completing, awaits, onto, update, prepared, code_in, candidate_made, shares_made, share_made}
use Rattle.protocol.specs.View.{chosen_of, shares_in, content_of, nonce_of_def, candidate_at, hand_of, view, kept_size, chosen_place, candidate_slot}
use Rattle.format.specs.Reading.{bytes_at, put}
use Rattle.protocol.specs.ClientBytes.{Took, put_shares, begins, put_back, after, took_by}
use Rattle.protocol.specs.Answers.{result_by}
use Rattle.protocol.proofs.Packets.{CandidateLengths, candidate-length}
use Rattle.protocol.proofs.Room.{Fitting}
use Rattle.format.proofs.Puts.{put-length}
use Rattle.format.proofs.Places.{part_put}
use Rattle.protocol.proofs.Readers.{candidate_read}
use Rattle.protocol.proofs.Kept.{puts-length, puts-below, shares_put}
use Rattle.protocol.proofs.Prepared.{candidate-made, shares-made}
use Rattle.protocol.proofs.Sized.{content-most, nonce-long}
use Rattle.protocol.proofs.ClientLift.{Lifted}
use Rattle.protocol.proofs.Noted.{Reply, in_round, with_mark, fresh_seen, noted_seen, same_seen}

-- what a taken reply leaves, by the turn on values; a content is read from the output buffer
pub record Turned (s : Config) (u : Turn) (d : Took) : Type 0 where
  pub result : result_by d.answer d.output ≡ u.result
  pub client : Lifted s u.client d.call d.kept

-- a candidate at its place
pub chosen_read : (s : Config) → Fitting s → (k : List ℕ) → length k ≡ kept_size → (d : Candidate) → CandidateLengths s d
    → candidate_at s (bytes_at (put k chosen_place ((candidate_f s).print d)) chosen_place candidate_slot) ≡ d
chosen_read s f k size d l =
    let n = candidate-length s d l in
    ap (candidate_at s) (part_put k chosen_place ((candidate_f s).print d) (omega (arith, f.few)) candidate_slot (omega (arith, f.few)))
    ∙ candidate_read s d _ l

module _ (P : Primitives) (law : Lengths P) (client : ℕ) (writers : List ℕ) (keys : ByServer (List ℕ)) (output : List ℕ)
    {s : Config} {c : Call} {kept : List ℕ} {b : ℕ} {x : Body} (a : Reply s c kept b x) where
  abbrev C : ℕ → Call
  C r = in_round c r

  abbrev m : ByServer Bool
  m = with_mark c b

  -- the reply in round r; q: with it a quorum has replied
  abbrev turn : ℕ → Bool → Turn
  turn r q = update P s client writers keys (view s (C r) kept) b x m q (hand_of s r (C r) kept)

  abbrev Take : ℕ → Turn → Type 0
  Take r u = Turned s u (took_by s (C r) kept kept output u)

  -- clock ends: the candidate and every share are made and kept
  clock-ends : (n : ℕ) → let d = candidate_made P s client writers keys (nonce_of_def kept) n in
      let g = shares_made P s client writers keys (content_of (C 1) kept) (nonce_of_def kept) n in
      let K = put_shares s (put kept chosen_place ((candidate_f s).print d)) g s.servers in
      (length K ≡ kept_size) × (storing (chosen_of s K) (shares_in s K) ≡ storing d g)
  unfolding chosen_of
  clock-ends n =
      let f : Fitting s = a.fits in
      let size : length kept ≡ kept_size = a.sound.size in
      let r : List ℕ = content_of (C 1) kept in
      let d : Candidate = candidate_made P s client writers keys (nonce_of_def kept) n in
      let g : ByServer Share = shares_made P s client writers keys r (nonce_of_def kept) n in
      let l : CandidateLengths s d = candidate-made P law s client writers keys r (nonce_of_def kept) n (content-most (C 1) kept) (nonce-long kept size) in
      let k : List ℕ = put kept chosen_place ((candidate_f s).print d) in
      let z : length k ≡ kept_size = put-length kept chosen_place ((candidate_f s).print d) (omega (arith, candidate-length s d l, f.few)) ∙ size in
      let ok = shares-made P law s client writers keys r (nonce_of_def kept) n (content-most (C 1) kept) (nonce-long kept size) in
      let K : List ℕ = put_shares s k g s.servers in
      let e : candidate_at s (bytes_at K chosen_place candidate_slot) ≡ d =
      ap (candidate_at s) (puts-below s f k z g ok s.servers (omega arith) chosen_place candidate_slot (omega arith))
      ∙ chosen_read s f kept size d l in
      let p : shares_in s K ≡ g = shares_put s f k z g ok ∙ cut_twice r (nonce_of_def kept) n in
      (puts-length s f k z g ok s.servers (omega arith), λ i. storing (e i) (p i))
    where
      again : (t : Bool) (x y : Share) → cond t (cond t x y) y ≡ cond t x y
      again true x y = refl
      again false x y = refl

      cut_twice : (r n : List ℕ) (k : ℕ)
          → (λ i. cond (within 1 s.servers i) (shares_made P s client writers keys r n k i) no_share) ≡ shares_made P s client writers keys r n k
      cut_twice r n k = unfold shares_made in (λ j i. again (within 1 s.servers i) (share_made P s client writers keys r n k i) no_share j)

  pub clock-turn : (q : Bool) → Take 1 (turn 1 q)
  unfolding update view hand_of onto prepared took_by after put_back begins awaits content_of
  clock-turn true =
      let (z, g) = clock-ends _ in
      record { result = refl; client = fresh_seen a _ c.high c.length 2 _ (unfold content_of in z) _ (unfold content_of hand_of in g) }
  clock-turn false = record { result = refl; client = noted_seen a _ 1 kept a.sound.size _ (unfold hand_of content_of in refl) }

  pub store-turn : (q : Bool) → Take 2 (turn 2 q)
  unfolding update view hand_of onto took_by after put_back begins awaits
  store-turn q = go (eqb (code_in x) 11) q
    where
      go : (z q : Bool)
          → Take 2
          (cond z (record { client = view s (C 2) kept; result = more })
          (cond q (record { client = onto (view s (C 2) kept) nobody (completing (chosen_of s kept)); result = more })
          (record { client = onto (view s (C 2) kept) m (storing (chosen_of s kept) (shares_in s kept)); result = more })))
      go true q = record { result = refl; client = unfold view hand_of in same_seen a 2 }
      go false true = record {
        result = refl;
        client = fresh_seen a c.last c.high c.length 3 kept a.sound.size _
            (unfold hand_of in refl);
      }
      go false false = record { result = refl; client = noted_seen a c.high 2 kept a.sound.size _ (unfold hand_of in refl) }

  pub complete-turn : (q : Bool) → Take 3 (turn 3 q)
  unfolding update view hand_of onto took_by after put_back begins awaits
  complete-turn true = record {
    result = refl;
    client = fresh_seen a c.last c.high c.length 0 kept a.sound.size _
        (unfold hand_of in refl);
  }
  complete-turn false = record { result = refl; client = noted_seen a c.high 3 kept a.sound.size _ (unfold hand_of in refl) }
