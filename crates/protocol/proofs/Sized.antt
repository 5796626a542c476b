-- What kept bytes of their size stand for has its lengths, whatever bytes they are: content, nonce, candidates, and shares of a length in its range.
-- Each is a part of a slot, and a slot has room for it. Nothing is assumed but the primitives' lengths.
use mathlib.Core.Path.{◌≡◌, refl, sym, ap, ◌∙◌, subst}
use mathlib.Core.Bool.{Bool, true, ◌&&◌, ◌||◌}
use mathlib.Core.List.{List, [], ◌∷◌, ◌++◌}
use mathlib.Core.Option.{Option, none, some, some-injective}
use mathlib.Core.Logic.{◌⊎◌, inl, inr}
use Prim.Native.Nat.{ℕ, zero, suc, ◌+◌, ◌*◌, ◌≤◌, ◌<◌}
use native.Mathlib.Omega.{arith}
use lib.Dec.{leb, ltb, eqb, lit≤}
use lib.ListN.{length, take, drop, get_or, length-drop, length-replicate}
use lib.Seq.{length-take-le}
use borrow.Author.Tests.{leb-true, ltb-true}
use Rattle.cluster.specs.Config.{Config}
use Rattle.cluster.specs.Ranges.{most_servers, top_length}
use Rattle.cluster.proofs.Tests.{and_both}
use Rattle.hmac.specs.Hmac.{tag_size}
use Rattle.erasure.specs.Fragments.{fragment_size_def}
use Rattle.protocol.specs.declared.Call.{Call}
use Rattle.format.specs.Format.{All, value2}
use Rattle.protocol.specs.Values.{Candidate, Share, Held, same_list, nth, same_stamp, blank_candidate, is_blank_def, same_candidate, nonce_size, stamp_size, digest_size, digests_size_def, tags_size_def}
use Rattle.protocol.specs.Packet.{held_f, share_size_def}
use Rattle.protocol.specs.Primitives.{Primitives, Lengths}
use Rattle.protocol.specs.Rules.{ByServer, any, gather, choice, live, highest, proven, leader, leads, fits, share_fits, restored_by, tags_in, parts}
use Rattle.protocol.specs.View.{stamp_at_def, candidate_at, share_of_size, share_at, held_at, content_of, nonce_of_def, marked, candidates_in, replies_in, reply_slot_of, kept_size, nonce_place, candidate_slot, candidates_place, replies_place, reply_slot}
use Rattle.format.specs.Reading.{bytes_at}
use Rattle.format.proofs.Answers.{no_some, at-cond}
use Rattle.protocol.proofs.Packets.{CandidateLengths, ShareLengths}
use Rattle.protocol.proofs.Room.{Fitting}
use Rattle.protocol.proofs.Readers.{held-lengths}
use Rattle.protocol.proofs.HandOk.{keep_all, first_all}
use Rattle.format.proofs.Walks.{all_snoc}

pub part_length : (d : List ℕ) (at n : ℕ) → at + n ≤ length d → length (bytes_at d at n) ≡ n
unfolding bytes_at
part_length d at n h = length-take-le n (drop at d) (omega (arith, length-drop at d))

take-most : (n : ℕ) (d : List ℕ) → length (take n d) ≤ n
take-most zero d = omega arith
take-most (suc n) [] = omega arith
take-most (suc n) (x ∷ d) = omega (arith, take-most n d)

-- ---- content and nonce

pub content-most : (c : Call) (kept : List ℕ) → length (content_of c kept) ≤ top_length
unfolding content_of bytes_at
content-most c kept =
    at-cond (leb c.length top_length) c.length top_length (λ n. length (take n (drop 0 kept)) ≤ top_length)
    (λ e. omega (arith, take-most c.length (drop 0 kept), leb-true c.length top_length e)) (λ e. take-most top_length (drop 0 kept))

pub nonce-long : (kept : List ℕ) → length kept ≡ kept_size → length (nonce_of_def kept) ≡ nonce_size
unfolding nonce_of_def
nonce-long kept e = part_length kept nonce_place nonce_size (omega arith)

-- a held share has its lengths if its length is in its range
abbrev pub Sized : Config → Held → Type 0
Sized s x = (q : Share) → x.share ≡ some q → q.size ≤ top_length → ShareLengths s q

module _ (s : Config) (f : Fitting s) where
  -- ---- candidates

  candidate-sized : (d : List ℕ) → length d ≡ candidate_slot → CandidateLengths s (candidate_at s d)
  unfolding candidate_at stamp_at_def
  candidate-sized d e =
      record {
        tag = part_length d 5 tag_size (omega arith);
        nonce = part_length d stamp_size nonce_size (omega arith);
        tags = part_length d (stamp_size + nonce_size) (tags_size_def s) (omega (arith, f.few));
      }

  pub blank-sized : CandidateLengths s (blank_candidate s)
  blank-sized =
      record {
        tag = length-replicate {A = ℕ} tag_size 0;
        nonce = length-replicate {A = ℕ} nonce_size 0;
        tags = length-replicate {A = ℕ} (tags_size_def s) 0;
      }

  module _ (kept : List ℕ) (size : length kept ≡ kept_size) where
    pub candidates-sized : (i : ℕ) → CandidateLengths s (candidates_in s kept i)
    unfolding candidates_in
    candidates-sized zero = blank-sized
    candidates-sized (suc i) =
        at-cond (ltb i most_servers) _ _ (CandidateLengths s)
        (λ e.
        let l : i < most_servers = ltb-true i most_servers e in
        candidate-sized (bytes_at kept (candidates_place + candidate_slot * i) candidate_slot)
        (part_length kept (candidates_place + candidate_slot * i) candidate_slot (omega arith)))
        (λ e. blank-sized)

  -- ---- shares

  share-sized : (n : ℕ) (d : List ℕ) → stamp_size + 1 + length d ≡ reply_slot → n ≤ top_length → ShareLengths s (share_of_size s n d)
  unfolding share_of_size share_size_def
  share-sized n d e l =
      let r : stamp_size + 1 + (2 + fragment_size_def s.threshold n + digests_size_def s + digest_size + tags_size_def s) ≤ reply_slot = unfold share_size_def
      in f.room n l in
      record {
        fragment = part_length d 2 (fragment_size_def s.threshold n) (omega arith);
        digests = part_length d (2 + fragment_size_def s.threshold n) (digests_size_def s) (omega arith);
        nonce_digest_def = part_length d (2 + fragment_size_def s.threshold n + digests_size_def s) digest_size (omega arith);
        tags = part_length d (2 + fragment_size_def s.threshold n + digests_size_def s + digest_size) (tags_size_def s) (omega arith);
      }

  held-sized : (d : List ℕ) → length d ≡ reply_slot → Sized s (held_at s d)
  unfolding held_at share_at share_of_size
  held-sized d e =
      at-cond (eqb (get_or d stamp_size 0) 0) none (some (share_at s (drop (stamp_size + 1) d)))
      (λ (o : Option Share). (q : Share) → o ≡ some q → q.size ≤ top_length → ShareLengths s q)
      (λ z q y. no_some q y)
      (λ z q y l.
      let y' : share_at s (drop (stamp_size + 1) d) ≡ q = some-injective _ q y in
      let n : ℕ = value2 (get_or (drop (stamp_size + 1) d) 0 0) (get_or (drop (stamp_size + 1) d) 1 0) in
      let l' : n ≤ top_length = subst (λ (z : ℕ). z ≤ top_length) (sym (ap (λ (z : Share). z.size) y')) l in
      subst (ShareLengths s) y' (unfold share_of_size in share-sized n (drop (stamp_size + 1) d) (omega (arith, length-drop (stamp_size + 1) d)) l'))

  pub replies-sized : (ms kept : List ℕ) → length kept ≡ kept_size → (i : ℕ) → Sized s (replies_in s ms kept i)
  unfolding replies_in reply_slot_of
  replies-sized ms kept size zero = λ q e l. no_some q e
  replies-sized ms kept size (suc i) =
      at-cond (ltb i most_servers && marked ms (suc i)) _ _ (λ (x : Held). (q : Share) → x.share ≡ some q → q.size ≤ top_length → ShareLengths s q)
      (λ e.
      let l : i < most_servers = ltb-true i most_servers (and_both (ltb i most_servers) (marked ms (suc i)) e).0 in
      held-sized (bytes_at kept (replies_place + reply_slot * i) reply_slot) (part_length kept (replies_place + reply_slot * i) reply_slot (omega arith)))
      (λ e q y l. no_some q y)

  pub reply-sized : (x : Held) → (held_f s).Ok x → Sized s x
  reply-sized x ok q e l = (held-lengths s x ok).share q e

-- ---- what is chosen

gather_all : (Q : Candidate → Type 0) (g : ByServer Candidate) → ((i : ℕ) → Q (g i)) → (n : ℕ) → All Q (gather g n)
unfolding gather
gather_all Q g h zero = tt
gather_all Q g h (suc n) =
    at-cond (is_blank_def (g (suc n)).stamp || any (same_candidate (g (suc n))) (gather g n)) (gather g n) (gather g n ++ (g (suc n) ∷ [])) (All Q)
    (λ e. gather_all Q g h n) (λ e. all_snoc _ (gather g n) (g (suc n)) (gather_all Q g h n) (h (suc n)))

module _ (P : Primitives) (law : Lengths P) (s : Config) (m : ByServer Bool) (g : ByServer Held) where
  pub choice-sized : (table : ByServer Candidate) → ((i : ℕ) → CandidateLengths s (table i))
      → (n : ℕ) (d : Candidate) → choice P s m g (gather table n) ≡ some d
      → CandidateLengths s d
  unfolding choice highest live
  choice-sized table h n d e =
      first_all (CandidateLengths s) (proven P s m g) _ d
      (keep_all (CandidateLengths s) _ _ (keep_all (CandidateLengths s) _ (gather table n) (gather_all (CandidateLengths s) table h n))) e

  -- the reply of a leader fits
  leader-fits : (d : Candidate) (n : ℕ) → (leader P s m g d n ≡ 0) ⊎ (fits P s m g d (leader P s m g d n) ≡ true)
  unfolding leader leads
  leader-fits d zero = inl refl
  leader-fits d (suc n) =
      at-cond (eqb (leader P s m g d n) 0 && leads P s m g d (suc n)) (suc n) (leader P s m g d n) (λ b. (b ≡ 0) ⊎ (fits P s m g d b ≡ true))
      (λ e. inr (and_both _ _ (and_both (eqb (leader P s m g d n) 0) _ e).1).0) (λ e. leader-fits d n)

  -- so its share is of a length in its range
  leader-size : (g 0).share ≡ none → (d : Candidate) (q : Share) → (g (leader P s m g d s.servers)).share ≡ some q → q.size ≤ top_length
  unfolding fits
  leader-size none-0 d q e = go (leader-fits d s.servers)
    where
      range : (h : Share) (b : Bool) → (leb h.size top_length && b) ≡ true → h.size ≤ top_length
      range h b t = leb-true h.size top_length (and_both (leb h.size top_length) b t).0

      of : (o : Option Share) (i : ℕ) → o ≡ some q → share_fits P s d i o ≡ true → q.size ≤ top_length
      of none i e t = no_some q e
      of (some h) i e t =
          subst (λ (z : Share). z.size ≤ top_length) (some-injective h q e)
          (range h (same_list h.nonce_digest_def (P.digest d.nonce) && same_list (P.digest h.fragment) (nth digest_size h.digests i)) t)

      go : (leader P s m g d s.servers ≡ 0) ⊎ (fits P s m g d (leader P s m g d s.servers) ≡ true) → q.size ≤ top_length
      go (inl z) = no_some q (sym none-0 ∙ ap (λ (i : ℕ). (g i).share) (sym z) ∙ e)
      go (inr t) =
          let i : ℕ = leader P s m g d s.servers in
          of (g i).share i e (and_both (same_stamp (g i).stamp d.stamp) _ (and_both (m i) _ t).1).1

  -- the chosen candidate with the tags of the leader's share, and the content restored from its group
  module _ (none-0 : (g 0).share ≡ none) (sized : (i : ℕ) → Sized s (g i)) (d : Candidate) (h : CandidateLengths s d) where
    abbrev at : ℕ
    at = leader P s m g d s.servers

    pub tags-sized : CandidateLengths s (record { stamp = d.stamp; nonce = d.nonce; tags = tags_in P s d (g at).share })
    tags-sized = record { tag = h.tag; nonce = h.nonce; tags = go (g at).share (λ q e. sized at q e (leader-size none-0 d q e)) }
      where
        go : (o : Option Share) → ((q : Share) → o ≡ some q → ShareLengths s q) → length (tags_in P s d o) ≡ tags_size_def s
        go none k = h.tags
        go (some q) k = (k q refl).tags

    pub content-sized : length (restored_by P s m g d at (g at).share) ≤ top_length
    content-sized = go (g at).share (leader-size none-0 d)
      where
        go : (o : Option Share) → ((q : Share) → o ≡ some q → q.size ≤ top_length) → length (restored_by P s m g d at o) ≤ top_length
        go none k = unfold restored_by in lit≤ tt
        go (some q) k = unfold restored_by in omega (
          arith,
          law.content s.points s.threshold q.size (parts P s m g d at s.servers),
          k q
              refl,
        )
