-- What stands in a slot is printed back as it stands, garbage too: reading by place and printing gives the slot's own first bytes.
-- A number's bytes print back as they were, and neighbouring parts join. Assumes nothing but that the slot holds bytes.
use mathlib.Core.Path.{◌≡◌, sym, ap, ◌∙◌}
use mathlib.Core.List.{List, [], ◌∷◌, ◌++◌, append_assoc}
use Prim.Native.Nat.{ℕ, ◌+◌, ◌≤◌}
use native.Mathlib.Omega.{arith}
use lib.ListN.{length, take, drop, get_or, length-take, length-append}
use borrow.Author.Tests.{le-ltb}
use Rattle.cluster.specs.Config.{Config, shelf}
use Rattle.cluster.specs.Ranges.{packet_room}
use Rattle.erasure.specs.Fragments.{fragment_size_def}
use Rattle.protocol.specs.declared.Head.{Head}
use Rattle.format.specs.Format.{Bytes, via, seq, number2, run, print2, value2}
use Rattle.protocol.specs.Values.{stamp_size, nonce_size, digest_size, digests_size_def, tags_size_def, candidate_size_def}
use Rattle.protocol.specs.Packet.{share_f, candidate_f, head_f, head_size}
use Rattle.protocol.specs.View.{candidate_at, share_at, share_of_size}
use Rattle.format.specs.Reading.{bytes_at}
use Rattle.format.proofs.Formats.{print2-value}
use Rattle.protocol.proofs.Packets.{head-length}
use Rattle.wire.proofs.Lengths.{fragment-few}
use Rattle.wire.specs.Places.{share_size_def, length_at}
use Rattle.wire.specs.Make.{packet_step, put_step_def}
use Rattle.client.specs.Steps.{whole_packet}
use Rattle.decide.proofs.Places.{part-split, stamp-bytes}

module _ (s : Config) (d : List ℕ) (b : Bytes d) (h : 5 ≤ length d) where
  pub candidate_back : (candidate_f s).print (candidate_at s d) ≡ bytes_at d 0 (candidate_size_def s)
  unfolding candidate_f via seq run candidate_at
  candidate_back =
      let j : bytes_at d stamp_size nonce_size ++ bytes_at d (stamp_size + nonce_size) (tags_size_def s) ≡ bytes_at d stamp_size (nonce_size + tags_size_def s) = sym
      (part-split d stamp_size nonce_size (tags_size_def s)) in
      let k : bytes_at d 0 stamp_size ++ bytes_at d (0 + stamp_size) (nonce_size + tags_size_def s) ≡ bytes_at d 0 (stamp_size + (nonce_size + tags_size_def s)) = sym
      (part-split d 0 stamp_size (nonce_size + tags_size_def s)) in
      let e : stamp_size + (nonce_size + tags_size_def s) ≡ candidate_size_def s = omega arith in
      rw (stamp-bytes d b h, j) (k ∙ ap (bytes_at d 0) e)

  length_back : print2 (length_at d) ≡ bytes_at d 0 2
  unfolding length_at bytes_at
  length_back = two d b h where
    two : (d : List ℕ) → Bytes d → 5 ≤ length d → print2 (value2 (get_or d 0 0) (get_or d 1 0)) ≡ take 2 (drop 0 d)
    two [] b h = let z : ⊥ = omega arith in absurd z
    two (x ∷ []) b h = let z : ⊥ = omega arith in absurd z
    two (x ∷ y ∷ d) b h = print2-value x y (b 1)

  pub share_back : (share_f s).print (share_at s d) ≡ bytes_at d 0 (share_size_def s (length_at d))
  unfolding share_f via seq run number2 share_at share_of_size length_at share_size_def
  share_back =
      let f : ℕ = fragment_size_def s.threshold (value2 (get_or d 0 0) (get_or d 1 0)) in
      let D : ℕ = digests_size_def s in
      let T : ℕ = tags_size_def s in
      let j₁ = sym (part-split d (2 + f + D) digest_size T) in
      let j₂ = sym (part-split d (2 + f) D (digest_size + T)) in
      let j₃ = sym (part-split d 2 f (D + (digest_size + T))) in
      let j₄ = sym (part-split d 0 2 (f + (D + (digest_size + T)))) in
      let e : 2 + (f + (D + (digest_size + T))) ≡ 2 + f + D + digest_size + T = omega arith in
      let N : List ℕ = print2 (value2 (get_or d 0 0) (get_or d 1 0)) in
      ap (λ (x : List ℕ). N ++ (bytes_at d 2 f ++ (bytes_at d (2 + f) D ++ x))) j₁ ∙ (ap (λ (x : List ℕ). N ++ (bytes_at d 2 f ++ x)) j₂ ∙
      (ap (λ (x : List ℕ). N ++ x) j₃
      ∙ (ap (λ (x : List ℕ). x ++ bytes_at d 2 (f + (D + (digest_size + T)))) length_back ∙ (j₄ ∙ ap (bytes_at d 0) e))))

-- a candidate of a slot's stamp and nonce, with tags of its own
pub name_printed : (s : Config) (d tags : List ℕ) → Bytes d → 5 ≤ length d
    → (candidate_f s).print (record { stamp = (candidate_at s d).stamp; nonce = (candidate_at s d).nonce; tags = tags })
    ≡ bytes_at d 0 (stamp_size + nonce_size) ++ tags
unfolding candidate_f via seq run candidate_at
name_printed s d tags b h =
    let j : bytes_at d 0 stamp_size ++ bytes_at d (0 + stamp_size) nonce_size
    ≡ bytes_at d 0 (stamp_size + nonce_size) = sym (part-split d 0 stamp_size nonce_size) in
    ap (λ (x : List ℕ). x ++ (bytes_at d stamp_size nonce_size ++ tags)) (stamp-bytes d b h)
    ∙ (sym (append_assoc (bytes_at d 0 stamp_size) (bytes_at d stamp_size nonce_size) tags) ∙ ap (λ (x : List ℕ). x ++ tags) j)

-- a packet whose body has no more bytes than a slot of each kind fits its buffer
pub packet-fits : (h : Head) (a b output : List ℕ) → packet_room ≤ length output → head_size + (length a + length b) ≤ packet_room
    → packet_step h a b output ≡ whole_packet (head_f.print h ++ (a ++ b)) output
unfolding packet_step put_step_def whole_packet
packet-fits h a b output r l =
    let n : length (head_f.print h ++ (a ++ b)) ≤ packet_room = omega (
      arith,
      length-append (head_f.print h) (a ++ b),
      length-append a b,
      head-length
          h,
      l,
    ) in
    rw (le-ltb (length output) packet_room r, le-ltb (length output) (length (head_f.print h ++ (a ++ b))) (omega arith))

-- no more bytes than there are
pub part_short : (d : List ℕ) (n : ℕ) → length (bytes_at d 0 n) ≤ length d
unfolding bytes_at
part_short d n = omega (arith, length-take n d)

pub fragment-most : (t n r : ℕ) → r ≡ fragment_size_def (shelf t).threshold n → r ≤ n + t
fragment-most t n r e = omega (arith, e, fragment-few t n)
