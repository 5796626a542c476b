-- The packet of filter where the count of the list is known before the list is written: head and count, then the list.
-- A candidate has no more bytes than its slot, and the count is that of the candidates listed. Assumes nothing.
use mathlib.Core.Path.{◌≡◌, refl, sym, ap, ◌∙◌}
use mathlib.Core.Bool.{Bool, true, false, cond}
use mathlib.Core.List.{List, [], ◌∷◌, ◌++◌, append-nil, append_assoc}
use Prim.Native.Nat.{ℕ, zero, suc, ◌+◌, ◌*◌, ◌≤◌, ◌<◌}
use native.Mathlib.Omega.{arith}
use lib.ListN.{length, length-append}
use borrow.Author.Tests.{le-leb, eq-eqb, lt-ltb}
use Rattle.cluster.specs.Config.{Config, shelf}
use Rattle.cluster.specs.Ranges.{top_faults, most_servers, packet_room}
use Rattle.protocol.specs.declared.Head.{Head}
use Rattle.format.specs.Format.{Fmt, print_many}
use Rattle.protocol.specs.Values.{Candidate, tags_size_def, stamp_size, nonce_size}
use Rattle.protocol.specs.Packet.{candidate_f, head_f, head_size}
use Rattle.format.specs.Reading.{Wrote, bytes_at}
use Rattle.protocol.specs.Rules.{ByServer, gather}
use Rattle.protocol.specs.View.{kept_size, stamp_at_def, candidate_at, candidates_in, candidates_place, candidate_slot}
use Rattle.protocol.proofs.Packets.{candidate-length, head-length}
use Rattle.format.proofs.Puts.{put-over, wrote_then, wrote-length}
use Rattle.wire.specs.Make.{placed}
use Rattle.wire.proofs.Put.{placed_then}
use Rattle.decide.specs.Listing.{usable, enters, listed_count}
use Rattle.decide.proofs.Gathered.{gather_more}
use Rattle.client.specs.Steps.{whole_packet}
use Rattle.decide.proofs.Places.{part_length}

-- ---- the candidate of a slot

module _ (s : Config) (kept : List ℕ) (i : ℕ) (few : i < most_servers) (size : length kept ≡ kept_size) where
  abbrev slot : List ℕ
  slot = bytes_at kept (candidates_place + candidate_slot * i) candidate_slot

  in-slot : candidates_in s kept (suc i) ≡ candidate_at s slot
  unfolding candidates_in
  in-slot = rw (lt-ltb i most_servers few)

  slot-length : length slot ≡ candidate_slot
  slot-length = part_length kept (candidates_place + candidate_slot * i) candidate_slot (omega (arith, size))

  pub slot-most : s.servers ≤ most_servers → length ((candidate_f s).print (candidates_in s kept (suc i))) ≤ candidate_slot
  unfolding candidate_at stamp_at_def
  slot-most h =
      let l = slot-length in
      let e = candidate-length s (candidate_at s slot) (record {
        tag = part_length slot 5 _ (omega arith);
        nonce = part_length slot stamp_size nonce_size (omega arith);
        tags = part_length slot (stamp_size + nonce_size) (tags_size_def s) (omega arith);
      }) in
      rw in-slot (omega (arith, e))

-- ---- the list

print-append : {A : Type 0} (F : Fmt A) (xs ys : List A) → print_many F (xs ++ ys) ≡ print_many F xs ++ print_many F ys
print-append F [] ys = refl
print-append F (x ∷ xs) ys = ap (λ (z : List ℕ). F.print x ++ z) (print-append F xs ys) ∙ sym
    (append_assoc (F.print x) (print_many F xs) (print_many F ys))

module _ (F : Fmt Candidate) (g : ByServer Candidate) where
  list_more : (n : ℕ) → print_many F (gather g (suc n)) ≡ print_many F (gather g n) ++ cond (enters g (suc n)) (F.print (g (suc n))) []
  list_more n = ap (print_many F) (gather_more g n) ∙ go (enters g (suc n))
    where
      go : (b : Bool) → print_many F (cond b (gather g n ++ (g (suc n) ∷ [])) (gather g n)) ≡ print_many F (gather g n) ++ cond b (F.print (g (suc n)))
          []
      go true = print-append F (gather g n) (g (suc n) ∷ []) ∙ ap (λ (z : List ℕ). print_many F (gather g n) ++ z) (append-nil (F.print (g (suc n))))
      go false = sym (append-nil (print_many F (gather g n)))

  list-most : (n : ℕ) → ((i : ℕ) → i < n → length (F.print (g (suc i))) ≤ candidate_slot) → length (print_many F (gather g n)) ≤ candidate_slot * n
  unfolding gather
  list-most zero h = omega arith
  list-most (suc n) h = rw (list_more n) (go (enters g (suc n)) (list-most n (λ i l. h i (omega arith))))
    where
      go : (b : Bool) → length (print_many F (gather g n)) ≤ candidate_slot * n
          → length (print_many F (gather g n) ++ cond b (F.print (g (suc n))) []) ≤ candidate_slot * suc n
      go true e = omega (arith, length-append (print_many F (gather g n)) (F.print (g (suc n))), h n (omega arith))
      go false e = omega (arith, length-append {A = ℕ} (print_many F (gather g n)) [])

module _ (t : ℕ) (kept : List ℕ) (low : 1 ≤ t) (high : t ≤ top_faults) (size : length kept ≡ kept_size) where
  abbrev list : ℕ → List ℕ
  list n = print_many (candidate_f (shelf t)) (gather (candidates_in (shelf t) kept) n)

  is-usable : usable t kept ≡ true
  unfolding usable
  is-usable = rw (le-leb 1 t low, le-leb t top_faults high, eq-eqb (length kept) kept_size size)

  pub count_is : listed_count t kept ≡ length (gather (candidates_in (shelf t) kept) (shelf t).servers)
  unfolding listed_count
  count_is = rw is-usable

  one-most : (i : ℕ) → i < (shelf t).servers → length ((candidate_f (shelf t)).print (candidates_in (shelf t) kept (suc i))) ≤ candidate_slot
  unfolding shelf
  one-most i h = slot-most (shelf t) kept i (omega arith) size (omega arith)

  pub list-room : (n : ℕ) → n ≤ (shelf t).servers → length (list n) ≤ candidate_slot * n
  list-room n h = list-most (candidate_f (shelf t)) (candidates_in (shelf t) kept) n (λ i l. one-most i (omega arith))

-- ---- the packet

module _ (h : Head) (x : ℕ) (output : List ℕ) (r : packet_room ≤ length output) {e f : List ℕ} {a b : ℕ}
    (p : record { next = a; output = e } ≡ placed output 0 (head_f.print h)) (q : record { next = b; output = f } ≡ placed e a (x ∷ [])) where
  begun : Wrote output 0 (head_f.print h ++ (x ∷ [])) f b
  begun = placed_then (head_f.print h) (x ∷ []) p q (omega (arith, head-length h))

  pub after-count : (b ≡ head_size + 1) × (length f ≡ length output)
  after-count =
      let l = length-append (head_f.print h) (x ∷ []) in
      (omega (arith, begun.place, l, head-length h), wrote-length begun (omega (arith, l, head-length h)))

  pub filter-made : {g : List ℕ} {n : ℕ} (list : List ℕ) → length list ≤ candidate_slot * most_servers → Wrote f b list g n
      → record { result = record { number = 0; count = n }; output = g } ≡ whole_packet (head_f.print h ++ ((x ∷ []) ++ list)) output
  unfolding whole_packet
  filter-made {g} {n} list l w =
      let m = length-append (head_f.print h) (x ∷ []) in
      let z : List ℕ = head_f.print h ++ ((x ∷ []) ++ list) in
      let y : Wrote output 0 z g n = rw (append_assoc (head_f.print h) (x ∷ []) list) at (wrote_then begun w (omega (arith, m, head-length h))) in
      let c : n ≡ length z = omega (arith, y.place) in
      rw (y.bytes ∙ put-over output z, c)
