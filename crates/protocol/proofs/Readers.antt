-- A printed stamp, candidate, share or held reply is read back by its places.
-- Each field is a run after runs of known lengths; numbers are told by their bytes. Nothing is assumed.
use mathlib.Core.Path.{◌≡◌, refl, sym, ap, ◌∙◌, subst}
use mathlib.Core.Bool.{cond}
use mathlib.Core.List.{List, [], ◌∷◌, ◌++◌, append_assoc}
use mathlib.Core.Option.{Option, none, some, some-injective}
use Prim.Native.Nat.{ℕ, ◌+◌, ◌/◌, ◌%◌, ◌≤◌}
use native.Mathlib.Omega.{arith}
use lib.Dec.{eqb}
use lib.ListN.{length, take, drop, get_or, replicate, length-append}
use lib.Seq.{get_or_at, take_at, drop_at, drop-drop}
use Rattle.cluster.specs.Config.{Config}
use Rattle.cluster.specs.Ranges.{most_servers}
use Rattle.hmac.specs.Hmac.{tag_size}
use Rattle.erasure.specs.Fragments.{fragment_size_def}
use Rattle.protocol.specs.declared.Stamp.{Stamp}
use Rattle.format.specs.Format.{via, seq, or_blank, optional, number4, number2, byte, run, value2}
use Rattle.protocol.specs.Values.{Candidate, Share, Held, blank_candidate, digest_size, nonce_size, stamp_size, digests_size_def, tags_size_def}
use Rattle.protocol.specs.Packet.{stamp_f, any_stamp_f, candidate_f, share_f, held_f, held_most_def}
use Rattle.protocol.specs.View.{stamp_at_def, candidate_at, share_of_size, share_at, held_at, candidate_slot}
use Rattle.format.specs.Reading.{bytes_at}
use Rattle.format.proofs.Answers.{no_some}
use Rattle.format.proofs.Formats.{value2-print, value4-print}
use Rattle.protocol.proofs.Packets.{stamp-length, any-stamp-tag, CandidateLengths, ShareLengths, share-lengths}
use Rattle.format.proofs.Places.{part-zeros}

-- ---- runs in a row

second_run : (a b c : List ℕ) (n m : ℕ) → length a ≡ n → length b ≡ m → take m (drop n (a ++ (b ++ c))) ≡ b
second_run a b c n m h k = ap (take m) (drop_at a (b ++ c) n h) ∙ take_at b c m k

third-run : (a b c : List ℕ) (n m : ℕ) → length a ≡ n → length b ≡ m → drop (n + m) (a ++ (b ++ c)) ≡ c
third-run a b c n m h k = sym (drop-drop m n (a ++ (b ++ c))) ∙ ap (drop m) (drop_at a (b ++ c) n h) ∙ drop_at b c m k

-- ---- stamps

pub stamp_read : (a : Stamp) (r : List ℕ) → length a.tag ≡ tag_size → stamp_at_def (stamp_f.print a ++ r) ≡ a
unfolding stamp_at_def bytes_at stamp_f via seq number4 byte run
stamp_read a r l =
    let e = value4-print a.number in
    let f = take_at a.tag r tag_size l in
    λ i. record { number = e i; writer = a.writer; tag = f i }

module _ (s : Config) where
  -- ---- candidates

  pub blank_read_lem : s.servers ≤ most_servers → candidate_at s (replicate candidate_slot 0) ≡ blank_candidate s
  unfolding candidate_at stamp_at_def
  blank_read_lem h =
      let a : bytes_at (replicate candidate_slot 0) 5 tag_size ≡ replicate tag_size 0 = part-zeros candidate_slot 5 tag_size (omega arith) in
      let b : bytes_at (replicate candidate_slot 0) stamp_size nonce_size ≡ replicate nonce_size 0 = part-zeros candidate_slot stamp_size nonce_size
      (omega arith) in
      let c : bytes_at (replicate candidate_slot 0) (stamp_size + nonce_size) (tags_size_def s) ≡ replicate (tags_size_def s) 0 =
      part-zeros candidate_slot (stamp_size + nonce_size) (tags_size_def s) (omega arith) in
      λ i. record { stamp = record { number = 0; writer = 0; tag = a i }; nonce = b i; tags = c i }

  candidate-print : (c : Candidate) → (candidate_f s).print c ≡ stamp_f.print c.stamp ++ (c.nonce ++ c.tags)
  unfolding candidate_f via seq run
  candidate-print c = refl

  pub candidate_read : (c : Candidate) (r : List ℕ) → CandidateLengths s c → candidate_at s ((candidate_f s).print c ++ r) ≡ c
  unfolding candidate_at bytes_at
  candidate_read c r h =
      let S : List ℕ = stamp_f.print c.stamp in
      let X : List ℕ = S ++ (c.nonce ++ (c.tags ++ r)) in
      let l : length S ≡ stamp_size = stamp-length c.stamp h.tag in
      let p : (candidate_f s).print c ++ r ≡ X =
      ap (λ (z : List ℕ). z ++ r) (candidate-print c) ∙ append_assoc S (c.nonce ++ c.tags) r
      ∙ ap (λ (z : List ℕ). S ++ z) (append_assoc c.nonce c.tags r) in
      let e : stamp_at_def X ≡ c.stamp = stamp_read c.stamp _ h.tag in
      let f : bytes_at X stamp_size nonce_size ≡ c.nonce = second_run S c.nonce (c.tags ++ r) stamp_size nonce_size l h.nonce in
      let g : bytes_at X (stamp_size + nonce_size) (tags_size_def s) ≡ c.tags =
      ap (take (tags_size_def s)) (third-run S c.nonce (c.tags ++ r) stamp_size nonce_size l h.nonce) ∙ take_at c.tags r (tags_size_def s) h.tags in
      ap (candidate_at s) p ∙ (λ i. record { stamp = e i; nonce = f i; tags = g i })

  -- ---- shares

  pub share_read : (h : Share) (r : List ℕ) → ShareLengths s h → share_at s ((share_f s).print h ++ r) ≡ h
  unfolding share_at share_of_size bytes_at share_f via seq run number2
  share_read h r l =
      let N : List ℕ = h.size / 256 ∷ h.size % 256 ∷ [] in
      let X : List ℕ = (share_f s).print h ++ r in
      let f : ℕ = fragment_size_def s.threshold h.size in
      let d : ℕ = digests_size_def s in
      let w : ℕ = tags_size_def s in
      let P : List ℕ = h.fragment in
      let D : List ℕ = h.digests in
      let E : List ℕ = h.nonce_digest_def in
      let G : List ℕ = h.tags in
      let e : value2 (h.size / 256) (h.size % 256) ≡ h.size = value2-print h.size in
      let p1 : X ≡ N ++ (P ++ (D ++ (E ++ (G ++ r)))) = simp append_assoc in
      let p2 : X ≡ (N ++ P) ++ (D ++ (E ++ (G ++ r))) = simp append_assoc in
      let p3 : X ≡ (N ++ P ++ D) ++ (E ++ (G ++ r)) = simp append_assoc in
      let p4 : X ≡ (N ++ P ++ D ++ E) ++ (G ++ r) = simp append_assoc in
      let l2 : length (N ++ P) ≡ 2 + f = omega (arith, length-append N P, l.fragment) in
      let l3 : length (N ++ P ++ D) ≡ 2 + f + d = omega (arith, length-append (N ++ P) D, l.digests, l2) in
      let l4 : length (N ++ P ++ D ++ E) ≡ 2 + f + d + digest_size = omega (arith, length-append (N ++ P ++ D) E, l.nonce_digest_def, l3) in
      let f1 : take f (drop 2 X) ≡ P = ap (λ (z : List ℕ). take f (drop 2 z)) p1 ∙ second_run N P (D ++ (E ++ (G ++ r))) 2 f refl l.fragment in
      let f2 : take d (drop (2 + f) X) ≡ D = ap (λ (z : List ℕ). take d (drop (2 + f) z)) p2 ∙ second_run (N ++ P) D (E ++ (G ++ r)) (2 + f) d l2
      l.digests in
      let f3 : take digest_size (drop (2 + f + d) X) ≡ E =
      ap (λ (z : List ℕ). take digest_size (drop (2 + f + d) z)) p3 ∙ second_run (N ++ P ++ D) E (G ++ r) (2 + f + d) digest_size l3 l.nonce_digest_def in
      let f4 : take w (drop (2 + f + d + digest_size) X) ≡ G =
      ap (λ (z : List ℕ). take w (drop (2 + f + d + digest_size) z)) p4
      ∙ second_run (N ++ P ++ D ++ E) G r (2 + f + d + digest_size) w l4 l.tags in
      ap (λ (n : ℕ). share_of_size s n X) e ∙ (λ i. record { size = h.size; fragment = f1 i; digests = f2 i; nonce_digest_def = f3 i; tags = f4 i })

  -- ---- a held share or none

  pub record HeldLengths (x : Held) : Type 0 where
    pub tag : length x.stamp.tag ≡ tag_size
    pub share : (h : Share) → x.share ≡ some h → ShareLengths s h

  pub share-held : (x : Held) → (held_f s).Ok x → (h : Share) → x.share ≡ some h → (share_f s).Ok h
  unfolding held_f via seq optional
  share-held x o h e = go x.share o.1 e
    where
      go : (y : Option Share) → (optional (held_most_def x.stamp) (share_f s)).Ok y → y ≡ some h → (share_f s).Ok h
      go none k e = no_some h e
      go (some y) k e = subst (λ (z : Share). (share_f s).Ok z) (some-injective y h e) k.1

  pub held-lengths : (x : Held) → (held_f s).Ok x → HeldLengths x
  unfolding held_f via seq
  held-lengths x o = record { tag = any-stamp-tag x.stamp o.0; share = λ h e. share-lengths s h (share-held x o h e) }

  held_none : (a : Stamp) (r : List ℕ) → length a.tag ≡ tag_size → held_at s ((stamp_f.print a ++ (0 ∷ [])) ++ r) ≡ record
      { stamp = a; share = none }
  unfolding held_at
  held_none a r k =
      let S : List ℕ = stamp_f.print a in
      let X : List ℕ = S ++ (0 ∷ r) in
      let e : stamp_at_def X ≡ a = stamp_read a (0 ∷ r) k in
      let f : get_or X stamp_size 0 ≡ 0 = get_or_at S 0 r 0 stamp_size (stamp-length a k) in
      ap (held_at s) (append_assoc S (0 ∷ []) r) ∙ (λ i. record {
        stamp = e i;
        share = cond (eqb (f i) 0) none
            (some (share_at s (drop (stamp_size + 1) X)));
      })

  held_some : (a : Stamp) (q : Share) (r : List ℕ) → length a.tag ≡ tag_size → ShareLengths s q
      → held_at s ((stamp_f.print a ++ (1 ∷ (share_f s).print q)) ++ r) ≡ record { stamp = a; share = some q }
  unfolding held_at
  held_some a q r k z =
      let S : List ℕ = stamp_f.print a in
      let Q : List ℕ = (share_f s).print q in
      let X : List ℕ = S ++ (1 ∷ (Q ++ r)) in
      let l : length S ≡ stamp_size = stamp-length a k in
      let e : stamp_at_def X ≡ a = stamp_read a (1 ∷ (Q ++ r)) k in
      let f : get_or X stamp_size 0 ≡ 1 = get_or_at S 1 (Q ++ r) 0 stamp_size l in
      let g : share_at s (drop (stamp_size + 1) X) ≡ q = ap (share_at s) (third-run S (1 ∷ []) (Q ++ r) stamp_size 1 l refl) ∙ share_read q r z in
      ap (held_at s) (append_assoc S (1 ∷ Q) r) ∙ (λ i. record { stamp = e i; share = cond (eqb (f i) 0) none (some (g i)) })

  pub held_read : (x : Held) (r : List ℕ) → HeldLengths x → held_at s ((held_f s).print x ++ r) ≡ x
  unfolding held_f via seq optional any_stamp_f or_blank
  held_read x r h = go x.share h.share
    where
      go : (o : Option Share) → ((q : Share) → o ≡ some q → ShareLengths s q)
          → held_at s ((stamp_f.print x.stamp ++ (optional (held_most_def x.stamp) (share_f s)).print o) ++ r) ≡ record { stamp = x.stamp; share = o }
      go none k = held_none x.stamp r h.tag
      go (some q) k = held_some x.stamp q r h.tag (k q refl)
