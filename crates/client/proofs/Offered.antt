-- What the end of clock writes is what the definition of a write makes: the candidate, and in each server's slot the share of the content: its own
-- fragment, and the same digests, nonce digest and tags for all. A share fits its slot, and bytes put at the start of an array are read back
-- from it. Assumes nothing.
use mathlib.Core.Path.{◌≡◌, refl, sym, ap, ◌∙◌}
use mathlib.Core.Bool.{Bool, true, false, cond}
use mathlib.Core.List.{List, ◌++◌}
use Prim.Native.Nat.{ℕ, zero, suc, ◌+◌, ◌*◌, ◌≤◌}
use native.Mathlib.Omega.{arith}
use lib.Dec.{leb}
use lib.ListN.{length, take, length-append}
use lib.Seq.{take-length}
use borrow.Author.Tests.{leb-true, le-leb}
use Rattle.cluster.specs.Config.{shelf}
use Rattle.cluster.specs.Ranges.{top_faults, top_length, most_servers}
use Rattle.hmac.specs.Hmac.{tag_of, tag_size}
use Rattle.sha256.specs.Sha256.{sha256}
use Rattle.erasure.specs.Fragments.{fragment, fragment_size_def}
use Rattle.protocol.specs.declared.Call.{Call}
use Rattle.format.specs.Format.{via, seq, number2, number4, byte, run}
use Rattle.protocol.specs.Values.{digest_size, nonce_size}
use Rattle.protocol.specs.Packet.{stamp_f, share_f, candidate_f, share_size_def}
use Rattle.protocol.specs.Primitives.{real, stamp_message_def, candidate_message}
use Rattle.protocol.specs.Client.{stamp_of, tags_of, candidate_made, share_made, shares_made}
use Rattle.protocol.specs.View.{kept_size, nonce_place, chosen_place, candidate_slot, replies_place, reply_slot, content_of, nonce_of_def}
use Rattle.format.specs.Reading.{bytes_at, put}
use Rattle.protocol.specs.ClientBytes.{put_shares, key_of}
use Rattle.protocol.proofs.Primitive.{real-lengths, run_length}
use Rattle.protocol.proofs.Room.{shelf-fits}
use Rattle.format.proofs.Places.{part_same, part-below}
use Rattle.wire.specs.Places.{padded}
use Rattle.wire.proofs.Runs.{part-most, padded-whole}
use Rattle.client.specs.Steps.{tag_run, digest_run, slot_run, start_of, offered, write_made}
use Rattle.client.proofs.ShareBytes.{start-length}
use Rattle.client.proofs.SlotRuns.{Ends, slots-below, slots-join}
use Rattle.decide.proofs.Places.{part_length}

-- ---- room, for every t

pub servers-few : (t : ℕ) → t ≤ top_faults → (shelf t).servers ≤ most_servers
unfolding shelf
servers-few t h = omega arith

-- bytes of the array of what is the same in all shares: digests, nonce digest and tags
abbrev pub common_room : ℕ
common_room = digest_size * most_servers + digest_size + tag_size * most_servers

-- a share of a content of n bytes fits its slot
pub offer-room : (t n : ℕ) → 1 ≤ t → t ≤ top_faults → n ≤ top_length
    → 2 + fragment_size_def (shelf t).threshold n + (digest_size * (shelf t).servers + digest_size + tag_size * (shelf t).servers) ≤ reply_slot
unfolding share_size_def
offer-room t n lo hi l = omega (arith, (shelf-fits t lo hi).room n l)

-- bytes put at the start of an array are read back from it
pub run_back : (D X : List ℕ) (m : ℕ) {x d : List ℕ} → x ≡ bytes_at d 0 m → d ≡ put D 0 X → m ≡ length X → length X ≤ length D → x ≡ X
run_back D X m {x} {d} e f g h = e ∙ (ap (λ (y : List ℕ). bytes_at y 0 m) f ∙ (ap (bytes_at (put D 0 X) 0) g ∙ part_same D 0 X (omega arith)))

-- ---- nonce and content in the kept bytes

pub nonce-whole : (kept : List ℕ) → length kept ≡ kept_size → padded nonce_size (bytes_at kept nonce_place nonce_size) ≡ nonce_of_def kept
unfolding nonce_of_def
nonce-whole kept h =
    let x : List ℕ = bytes_at kept nonce_place nonce_size in
    let l : length x ≡ nonce_size = part_length kept nonce_place nonce_size (omega arith) in
    padded-whole nonce_size x (omega arith) ∙ (ap (λ (k : ℕ). take k x) (sym l) ∙ take-length x)

least : (n : ℕ) → cond (leb n top_length) n top_length ≤ top_length
least n = go (leb n top_length) refl
  where
    go : (b : Bool) → leb n top_length ≡ b → cond b n top_length ≤ top_length
    go true e = leb-true n top_length e
    go false e = omega arith

pub content_short : (c : Call) (kept : List ℕ) → length (content_of c kept) ≤ top_length
unfolding content_of
content_short c kept =
    let n : ℕ = cond (leb c.length top_length) c.length top_length in
    omega (arith, part-most kept 0 n, least c.length)

-- the candidate stands past the content
pub content-stays : (c : Call) (kept b : List ℕ) → length kept ≡ kept_size → length b ≤ candidate_slot → content_of c (put kept chosen_place b)
    ≡ content_of c
    kept
unfolding content_of
content-stays c kept b h l =
    part-below kept chosen_place b (omega arith) 0 (cond (leb c.length top_length) c.length top_length) (omega (arith, least c.length))

-- ---- the shares

module _ (t : ℕ) (r : List ℕ) (low : 1 ≤ t) (high : t ≤ top_faults) (short : length r ≤ top_length) where
  -- the starts of shares end within their slots
  pub starts-end : (d : List ℕ) (n : ℕ) → length d ≡ kept_size → n ≤ (shelf t).servers → Ends reply_slot replies_place (start_of t r) n (length d)
  starts-end d n e l i h =
      omega (arith, start-length t r (suc i), offer-room t (length r) low high short, servers-few t high)

  -- and leave the content below them as it was
  pub content-below : (c : Call) (d : List ℕ) (n : ℕ) → length d ≡ kept_size → n ≤ (shelf t).servers
      → content_of c (slot_run reply_slot d replies_place (start_of t r) n) ≡ content_of c d
  unfolding content_of
  content-below c d n e l =
      slots-below reply_slot replies_place (start_of t r) d n (starts-end d n e l) 0 (cond (leb c.length top_length) c.length top_length)
      (omega (arith, least c.length))

  module _ (digest tags : List ℕ) (whole : length digest ≡ digest_size) (each : length tags ≡ tag_size * (shelf t).servers) where
    abbrev pub common : List ℕ
    common = digest_run t r (shelf t).servers ++ (digest ++ tags)

    pub common-length : length common ≡ digest_size * (shelf t).servers + digest_size + tag_size * (shelf t).servers
    unfolding digest_run real
    common-length =
        let d : length (digest_run t r (shelf t).servers) ≡ digest_size * (shelf t).servers =
        run_length digest_size (λ k. sha256 (fragment (shelf t).points (shelf t).threshold r k))
        (λ k. real-lengths.digest (fragment (shelf t).points (shelf t).threshold r k)) (shelf t).servers in
        omega (arith, d, length-append (digest_run t r (shelf t).servers) (digest ++ tags), length-append digest tags)

    -- what is the same in all shares, put behind the starts of all
    pub offered-run : (kept : List ℕ) → length kept ≡ kept_size → {d x y : List ℕ}
        → d ≡ slot_run reply_slot kept replies_place (start_of t r) (shelf t).servers → x ≡ r → y ≡ common
        → slot_run reply_slot d (replies_place + (2 + fragment_size_def (shelf t).threshold (length x))) (λ _. y) (shelf t).servers
        ≡ offered t kept r digest tags
    offered-run kept e p q z =
        rw (p, q, z)
        (slots-join reply_slot replies_place (2 + fragment_size_def (shelf t).threshold (length r)) (start_of t r) (λ _. common) (start-length t r)
        (λ i. omega (arith, common-length, offer-room t (length r) low high short)) kept (shelf t).servers (omega (arith, servers-few t high)))

-- ---- the write

module _ (t client : ℕ) (writers : List ℕ) (keys : List (List ℕ)) (c : Call) (kept : List ℕ) (k : ℕ) where
  -- a stamp's bytes, and the run of tags over them
  abbrev stamp : List ℕ
  stamp = stamp_message_def k client ++ tag_of writers (stamp_message_def k client)

  abbrev tags : List ℕ
  tags = tag_run keys stamp (sha256 (nonce_of_def kept)) (shelf t).servers

  candidate-made : (candidate_f (shelf t)).print (candidate_made real (shelf t) client writers (key_of keys) (nonce_of_def kept) k)
      ≡ stamp ++ (nonce_of_def kept ++ tags)
  unfolding candidate_f stamp_f via seq number4 byte run candidate_made stamp_of tags_of stamp_message_def candidate_message real tag_run
  candidate-made = refl

  shares-run : (r d : List ℕ) (m : ℕ) → m ≤ (shelf t).servers
      → slot_run reply_slot d replies_place (λ i. start_of t r i ++ (digest_run t r (shelf t).servers ++ (sha256 (nonce_of_def kept) ++ tags))) m
      ≡ put_shares (shelf t) d (shares_made real (shelf t) client writers (key_of keys) r (nonce_of_def kept) k) m
  unfolding slot_run start_of put_shares shares_made share_made share_f via seq number2 run tags_of stamp_of stamp_message_def candidate_message real digest_run tag_run
  shares-run r d zero l = refl
  shares-run r d (suc m) l =
      rw (shares-run r d m (omega arith), le-leb 1 (suc m) (omega arith), le-leb (suc m) (shelf t).servers l)

  pub offered-made : offered t (put kept chosen_place (stamp ++ (nonce_of_def kept ++ tags))) (content_of c kept) (sha256 (nonce_of_def kept)) tags ≡ write_made t
      client writers keys c kept k
  offered-made = rw candidate-made (shares-run (content_of c kept) (put kept chosen_place (stamp ++ (nonce_of_def kept ++ tags))) (shelf t).servers (omega arith))
