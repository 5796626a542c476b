-- The list of filter as the code writes it: a slot more is its candidate more where it is listed, and the packet is head, count and list.
-- The list is gathered slot by slot, and a candidate has no more bytes than its slot. Assumes nothing.
use mathlib.Core.Path.{◌≡◌, refl, sym, ap, ◌∙◌}
use mathlib.Core.Bool.{Bool, true, false, cond}
use mathlib.Core.List.{List, [], ◌∷◌, ◌++◌, append-nil, append_assoc}
use Prim.Native.Nat.{ℕ, zero, suc, ◌+◌, ◌*◌, ◌≤◌, ◌<◌}
use native.Mathlib.Omega.{arith}
use native.Mathlib.Numerals.{add-one}
use native.Mathlib.Nat.{add-zero, mul-suc, mul-le-mul}
use lib.ListN.{length, take, drop, take-append-drop, length-append}
use borrow.Author.Tests.{le-leb, eq-eqb, lt-ltb}
use Rattle.cluster.specs.Config.{Config, shelf}
use Rattle.cluster.specs.Ranges.{top_faults, most_servers, packet_room}
use Rattle.protocol.specs.declared.Head.{Head}
use Rattle.format.specs.Format.{Fmt, Bytes, print_many}
use Rattle.protocol.specs.Values.{Candidate, candidate_size_def, tags_size_def, stamp_size, nonce_size}
use Rattle.protocol.specs.Packet.{candidate_f, head_f, head_size}
use Rattle.format.specs.Reading.{Wrote, put, bytes_at}
use Rattle.protocol.specs.Rules.{ByServer, gather}
use Rattle.protocol.specs.View.{kept_size, stamp_at_def, candidate_at, candidates_in, candidates_place, candidate_slot}
use Rattle.protocol.proofs.Packets.{candidate-length, head-length}
use Rattle.format.proofs.Puts.{put-over, put_put, puts_apart, wrote_then, wrote-length}
use Rattle.wire.specs.Make.{placed}
use Rattle.wire.proofs.Put.{placed-wrote}
use Rattle.decide.specs.Listing.{usable, enters, listed_in}
use Rattle.protocol.proofs.Marks.{count-le}
use Rattle.decide.proofs.Gathered.{gather_more, gather-count}
use Rattle.client.specs.Steps.{whole_packet}
use Rattle.client.proofs.Printed.{candidate_back}
use Rattle.decide.proofs.Places.{bytes-part, part_length}

-- nothing was written
pub wrote_none : (d : List ℕ) (at : ℕ) → Wrote d at [] d at
unfolding put
wrote_none d at = record { bytes = sym (ap (λ (k : ℕ). take at d ++ drop k d) (add-zero at) ∙ take-append-drop at d); place = sym (add-zero at) }

-- ---- the candidate of a slot

module _ (s : Config) (kept : List ℕ) (i : ℕ) (few : i < most_servers) (size : length kept ≡ kept_size) where
  abbrev slot : List ℕ
  slot = bytes_at kept (candidates_place + candidate_slot * i) candidate_slot

  in-slot : candidates_in s kept (suc i) ≡ candidate_at s slot
  unfolding candidates_in
  in-slot = rw (lt-ltb i most_servers few)

  slot-length : length slot ≡ candidate_slot
  slot-length = part_length kept (candidates_place + candidate_slot * i) candidate_slot (omega (arith, size))

  pub slot_back : Bytes kept → (candidate_f s).print (candidates_in s kept (suc i)) ≡ bytes_at slot 0 (candidate_size_def s)
  slot_back b =
      ap (candidate_f s).print in-slot
      ∙ candidate_back s slot (bytes-part kept (candidates_place + candidate_slot * i) candidate_slot b) (omega (arith, slot-length))

  pub slot-size : s.servers ≤ most_servers → length ((candidate_f s).print (candidates_in s kept (suc i))) ≡ candidate_size_def s
  unfolding candidate_at stamp_at_def
  slot-size h =
      let l = slot-length in
      rw in-slot
      (candidate-length s (candidate_at s slot) (record {
        tag = part_length slot 5 _ (omega arith);
        nonce = part_length slot stamp_size nonce_size (omega arith);
        tags = part_length slot (stamp_size + nonce_size) (tags_size_def s) (omega arith);
      }))

-- ---- the list

print-append : {A : Type 0} (F : Fmt A) (xs ys : List A) → print_many F (xs ++ ys) ≡ print_many F xs ++ print_many F ys
print-append F [] ys = refl
print-append F (x ∷ xs) ys = ap (λ (z : List ℕ). F.print x ++ z) (print-append F xs ys) ∙ sym
    (append_assoc (F.print x) (print_many F xs) (print_many F ys))

module _ (F : Fmt Candidate) (g : ByServer Candidate) where
  list_more : (n : ℕ) → print_many F (gather g (suc n)) ≡ print_many F (gather g n) ++ cond (enters g (suc n)) (F.print (g (suc n))) []
  list_more n = ap (print_many F) (gather_more g n) ∙ go (enters g (suc n))
    where
      go : (b : Bool) → print_many F (cond b (gather g n ++ (g (suc n) ∷ [])) (gather g n)) ≡ print_many F (gather g n) ++ cond b (F.print (g (suc n)))
          []
      go true = print-append F (gather g n) (g (suc n) ∷ []) ∙ ap (λ (z : List ℕ). print_many F (gather g n) ++ z) (append-nil (F.print (g (suc n))))
      go false = sym (append-nil (print_many F (gather g n)))

  -- where each candidate has w bytes
  list-size : (w n : ℕ) → ((i : ℕ) → i < n → length (F.print (g (suc i))) ≡ w) → length (print_many F (gather g n)) ≡ w * length (gather g n)
  unfolding gather
  list-size w zero h = omega arith
  list-size w (suc n) h = rw (list_more n, gather_more g n) (go (enters g (suc n)) (list-size w n (λ i l. h i (omega arith))))
    where
      G : List Candidate
      G = gather g n

      x : List ℕ
      x = F.print (g (suc n))

      go : (b : Bool) → length (print_many F G) ≡ w * length G
          → length (print_many F G ++ cond b x []) ≡ w * length (cond b (G ++ (g (suc n) ∷ [])) G)
      go true e =
          let k : w * length (G ++ (g (suc n) ∷ [])) ≡ w * length G + w =
          ap (λ (z : ℕ). w * z) (length-append G (g (suc n) ∷ []) ∙ add-one (length G)) ∙ mul-suc w (length G) in
          omega (arith, length-append (print_many F G) x, h n (omega arith), e, k)
      go false e = omega (arith, length-append {A = ℕ} (print_many F G) [], e)

module _ (t : ℕ) (kept : List ℕ) (low : 1 ≤ t) (high : t ≤ top_faults) (size : length kept ≡ kept_size) where
  abbrev list : ℕ → List ℕ
  list n = print_many (candidate_f (shelf t)) (gather (candidates_in (shelf t) kept) n)

  abbrev entry : ℕ → List ℕ
  entry i = cond (listed_in t kept i) ((candidate_f (shelf t)).print (candidates_in (shelf t) kept (suc i))) []

  is-usable : usable t kept ≡ true
  unfolding usable
  is-usable = rw (le-leb 1 t low, le-leb t top_faults high, eq-eqb (length kept) kept_size size)

  listed_is : (i : ℕ) → i < (shelf t).servers → listed_in t kept i ≡ enters (candidates_in (shelf t) kept) (suc i)
  unfolding listed_in
  listed_is i h = rw (is-usable, lt-ltb i (shelf t).servers h)

  one_size : (i : ℕ) → i < (shelf t).servers
      → length ((candidate_f (shelf t)).print (candidates_in (shelf t) kept (suc i))) ≡ candidate_size_def (shelf t)
  unfolding shelf
  one_size i h = slot-size (shelf t) kept i (omega arith) size (omega arith)

  pub size_fits : candidate_size_def (shelf t) ≤ candidate_slot
  unfolding shelf
  size_fits = omega arith

  one-most : (i : ℕ) → i < (shelf t).servers → length ((candidate_f (shelf t)).print (candidates_in (shelf t) kept (suc i))) ≤ candidate_slot
  one-most i h = omega (arith, one_size i h, size_fits)

  -- the bytes of the list tell its count
  pub list_counted : (n : ℕ) → n ≤ (shelf t).servers → length (list n) ≡ candidate_size_def (shelf t) * length (gather (candidates_in (shelf t) kept) n)
  list_counted n h = list-size (candidate_f (shelf t)) (candidates_in (shelf t) kept) (candidate_size_def (shelf t)) n (λ i l. one_size i (omega arith))

  pub count-few : (n : ℕ) → length (gather (candidates_in (shelf t) kept) n) ≤ n
  count-few n = let g = candidates_in (shelf t) kept in omega (arith, gather-count g n, count-le n (enters g))

  pub list-room : (n : ℕ) → n ≤ (shelf t).servers → length (list n) ≤ candidate_slot * n
  list-room n h = rw (list_counted n h) (mul-le-mul size_fits (count-few n))

  entry-room : (i : ℕ) → i < (shelf t).servers → length (entry i) ≤ candidate_slot
  entry-room i h = go (listed_in t kept i) (one-most i h)
    where
      x : List ℕ
      x = (candidate_f (shelf t)).print (candidates_in (shelf t) kept (suc i))

      go : (b : Bool) → length x ≤ candidate_slot → length (cond b x []) ≤ candidate_slot
      go true l = l
      go false l = omega arith

  list-next : (i : ℕ) → i < (shelf t).servers → list i ++ entry i ≡ list (i + 1)
  list-next i h =
      ap (λ (b : Bool). list i ++ cond b ((candidate_f (shelf t)).print (candidates_in (shelf t) kept (suc i))) []) (listed_is i h)
      ∙ (sym (list_more (candidate_f (shelf t)) (candidates_in (shelf t) kept) i) ∙ ap list (sym (add-one i)))

  -- a slot more
  pub list-entry : {d e f : List ℕ} {at k n : ℕ} (i : ℕ) → i < (shelf t).servers → at + candidate_slot * most_servers ≤ length d
      → Wrote d at (list i) e k → Wrote e k (entry i) f n → Wrote d at (list (i + 1)) f n
  unfolding shelf
  list-entry {d} {e} {f} {at} {k} {n} i h r p q =
      rw (list-next i h) at (wrote_then p q (omega (arith, list-room i (omega arith), entry-room i h)))

-- ---- the packet: its head, then the list behind the place of its count, then the count

module _ (h : Head) (output : List ℕ) (r : packet_room ≤ length output) {e : List ℕ} {a : ℕ}
    (p : record { next = a; output = e } ≡ placed output 0 (head_f.print h)) where
  headed : Wrote output 0 (head_f.print h) e a
  headed = placed-wrote p (omega (arith, head-length h))

  pub after-head : (a ≡ head_size) × (length e ≡ length output)
  after-head = (omega (arith, headed.place, head-length h), wrote-length headed (omega (arith, head-length h)))

  pub filter-made : (x : ℕ) {g f : List ℕ} {n m : ℕ} (list : List ℕ) → length list ≤ candidate_slot * most_servers → Wrote e (a + 1) list g n
      → record { next = m; output = f } ≡ placed g a (x ∷ [])
      → record { result = record { number = 0; count = n }; output = f } ≡ whole_packet (head_f.print h ++ ((x ∷ []) ++ list)) output
  unfolding whole_packet
  filter-made x {g} {f} {n} {m} list l w q =
      let k = after-head in
      let y : List ℕ = x ∷ [] in
      let c : Wrote g a y f m = placed-wrote q (omega (arith, k.0, k.1, wrote-length w (omega (arith, k.0, k.1)))) in
      let b : f ≡ put (put e a y) (a + 1) list =
      c.bytes ∙ ap (λ (z : List ℕ). put z a y) w.bytes ∙ sym (puts_apart e a y (a + 1) list (omega arith) (omega (arith, k.0, k.1))) in
      let v : Wrote e a (y ++ list) f n =
      record { bytes = b ∙ put_put e a 1 y list refl (omega (arith, k.0, k.1)); place = omega (arith, w.place) } in
      let z : List ℕ = head_f.print h ++ (y ++ list) in
      let o : Wrote output 0 z f n = wrote_then headed v (omega (arith, head-length h)) in
      let d : n ≡ length z = omega (arith, o.place) in
      rw (o.bytes ∙ put-over output z, d)
