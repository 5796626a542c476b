-- The body of a filter packet is its count and its candidates, each in its slot.
-- A candidate's bytes have one length, so the slots are found by their places; each is read back as printed. Assumes nothing.
use mathlib.Core.Path.{◌≡◌, sym, ap, ◌∙◌, subst}
use mathlib.Core.List.{List, [], ◌∷◌, ◌++◌, append_assoc, append-nil}
use mathlib.Core.Logic.{◌⊎◌, inl, inr}
use mathlib.Core.Option.{some}
use Prim.Native.Nat.{ℕ, zero, suc, ◌*◌, ◌<◌}
use native.Mathlib.Omega.{arith}
use native.Mathlib.Nat.{mul-suc}
use lib.ListN.{length, take, drop, get_or, length-append}
use lib.Seq.{take_at, drop_at}
use Rattle.cluster.specs.Config.{Config, shelf}
use Rattle.protocol.specs.declared.Head.{Head}
use Rattle.format.specs.Format.{Bytes, All, print_many, via, seq, byte, many}
use Rattle.protocol.specs.Values.{Candidate, candidate_size_def}
use Rattle.protocol.specs.Packet.{candidate_f, candidates_f, filter, head_size, decode}
use Rattle.protocol.specs.View.{candidate_at}
use Rattle.format.specs.Reading.{bytes_at}
use Rattle.protocol.proofs.Changes.{print_snoc}
use Rattle.protocol.proofs.Packets.{candidate-lengths, candidate-length}
use Rattle.protocol.proofs.Readers.{candidate_read}
use Rattle.wire.specs.Places.{candidate_list, body_at, packet_at}
use Rattle.server.specs.Ranks.{slot_of}
use Rattle.server.specs.Filter.{Listed}
use Rattle.server.proofs.Ranking.{last_of}
use Rattle.server.proofs.Replies.{body_of, sent-ok, sent-bytes}

all-init : {A : Type 0} (P : A → Type 0) (xs : List A) (w : A) → All P (xs ++ w ∷ []) → All P xs × P w
all-init P [] w h = (tt, h.0)
all-init P (x ∷ xs) w h = let (a, b) = all-init P xs w h.1 in ((h.0, a), b)

module _ (s : Config) (y : List ℕ) where
  abbrev at : ℕ → Candidate
  at j = candidate_at s (drop (candidate_size_def s * j) y)

  list-split : (n : ℕ) → All (candidate_f s).Ok (candidate_list s (suc n) y) → All (candidate_f s).Ok (candidate_list s n y) × (candidate_f s).Ok (at n)
  unfolding candidate_list
  list-split n h = all-init (candidate_f s).Ok (candidate_list s n y) (at n) h

  list-print : (n : ℕ) → print_many (candidate_f s) (candidate_list s (suc n) y) ≡ print_many (candidate_f s) (candidate_list s n y) ++ (candidate_f s).print
      (at n)
  unfolding candidate_list
  list-print n = print_snoc (candidate_f s) (candidate_list s n y) (at n)

  one-length : (c : Candidate) → (candidate_f s).Ok c → length ((candidate_f s).print c) ≡ candidate_size_def s
  one-length c h = candidate-length s c (candidate-lengths s c h)

  list_length : (n : ℕ) → All (candidate_f s).Ok (candidate_list s n y) → length (print_many (candidate_f s) (candidate_list s n y)) ≡ candidate_size_def s * n
  unfolding candidate_list
  list_length zero h = omega arith
  list_length (suc n) h =
      let (a, b) = list-split n h in
      let A : List ℕ = print_many (candidate_f s) (candidate_list s n y) in
      ap length (list-print n) ∙ length-append A ((candidate_f s).print (at n))
      ∙ omega (arith, list_length n a, one-length (at n) b, mul-suc (candidate_size_def s) n)

  list-ok : (n : ℕ) → All (candidate_f s).Ok (candidate_list s n y) → (j : ℕ) → j < n → (candidate_f s).Ok (at j)
  list-ok zero h j k = absurd (omega arith)
  list-ok (suc n) h j k = let (a, b) = list-split n h in go b (last_of j n k) (λ l. list-ok n a j l)
    where
      go : (candidate_f s).Ok (at n) → (j < n) ⊎ (j ≡ n) → (j < n → (candidate_f s).Ok (at j)) → (candidate_f s).Ok (at j)
      go b (inl l) f = f l
      go b (inr e) f = subst (λ (z : ℕ). (candidate_f s).Ok (at z)) (sym e) b

  -- the bytes of a slot
  slot_here : (n : ℕ) → All (candidate_f s).Ok (candidate_list s n y) → (candidate_f s).Ok (at n) → (r : List ℕ)
      → y ≡ print_many (candidate_f s) (candidate_list s n y) ++ ((candidate_f s).print (at n) ++ r) → slot_of s y n ≡ (candidate_f s).print (at n)
  unfolding slot_of bytes_at
  slot_here n h k r e =
      let A : List ℕ = print_many (candidate_f s) (candidate_list s n y) in
      let B : List ℕ = (candidate_f s).print (at n) in
      let u : drop (candidate_size_def s * n) y ≡ B ++ r = ap (drop (candidate_size_def s * n)) e ∙ drop_at A (B ++ r) (candidate_size_def s * n)
      (list_length n h) in
      ap (take (candidate_size_def s)) u ∙ take_at B r (candidate_size_def s) (one-length (at n) k)

  slot-print : (n : ℕ) → All (candidate_f s).Ok (candidate_list s n y) → (r : List ℕ) → y ≡ print_many (candidate_f s) (candidate_list s n y) ++ r
      → (j : ℕ) → j < n → slot_of s y j ≡ (candidate_f s).print (at j)
  slot-print zero h r e j k = absurd (omega arith)
  slot-print (suc n) h r e j k =
      let (a, b) = list-split n h in
      let A : List ℕ = print_many (candidate_f s) (candidate_list s n y) in
      let B : List ℕ = (candidate_f s).print (at n) in
      let u : y ≡ A ++ (B ++ r) = e ∙ ap (λ (z : List ℕ). z ++ r) (list-print n) ∙ append_assoc A B r in
      go a b u (last_of j n k) (λ l. slot-print n a (B ++ r) u j l)
    where
      go : All (candidate_f s).Ok (candidate_list s n y) → (candidate_f s).Ok (at n) → y ≡ print_many (candidate_f s) (candidate_list s n y) ++
          ((candidate_f s).print (at n) ++ r)
          → (j < n) ⊎ (j ≡ n) → (j < n → slot_of s y j ≡ (candidate_f s).print (at j)) → slot_of s y j ≡ (candidate_f s).print (at j)
      go a b u (inl l) f = f l
      go a b u (inr e) f = subst (λ (z : ℕ). slot_of s y z ≡ (candidate_f s).print (at z)) (sym e) (slot_here n a b r u)

  pub listed_from : (n : ℕ) → All (candidate_f s).Ok (candidate_list s n y) → y ≡ print_many (candidate_f s) (candidate_list s n y) → Listed s n y
  listed_from n h e =
      record {
        made = λ j k. slot j k ∙ ap (candidate_f s).print (sym (same j k));
        ok = λ j k. subst (candidate_f s).Ok (sym (same j k)) (list-ok n h j k);
        same = same;
      }
    where
      slot : (j : ℕ) → j < n → slot_of s y j ≡ (candidate_f s).print (at j)
      slot j k = slot-print n h [] (e ∙ sym (append-nil (print_many (candidate_f s) (candidate_list s n y)))) j k

      same : (j : ℕ) → j < n → candidate_at s (slot_of s y j) ≡ at j
      same j k =
          ap (candidate_at s) (slot j k ∙ sym (append-nil ((candidate_f s).print (at j))))
          ∙ candidate_read s (at j) [] (candidate-lengths s (at j) (list-ok n h j k))

-- ---- the packet

abbrev pub count_in : List ℕ → ℕ
count_in packet = get_or (drop head_size packet) 0 0

abbrev pub list_in : List ℕ → List ℕ
list_in packet = drop 1 (drop head_size packet)

module _ (h : Head) (packet : List ℕ) (dec : decode packet ≡ some (packet_at h packet)) (k : h.kind ≡ 9) where
  pub filter-body : (packet_at h packet).body ≡ filter (candidate_list (shelf h.t) (count_in packet) (list_in packet))
  unfolding body_at
  filter-body = body_of h packet 9 k

  pub listed : Bytes packet → Listed (shelf h.t) (count_in packet) (list_in packet)
  unfolding candidates_f via seq many byte
  listed ps =
      listed_from (shelf h.t) (list_in packet) (count_in packet) (unfold candidates_f via seq many byte in (sent-ok h packet dec filter-body).1.1)
      (ap (drop 1) (sent-bytes h packet dec filter-body ps))
