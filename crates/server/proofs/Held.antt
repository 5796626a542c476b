-- The reply to filter for a stamp: its bytes, a byte, and the share of the stored write that has the stamp.
-- A stored write's bytes are its stamp's and its share's, and the history is searched by the stamp's bytes. Assumes nothing.
use mathlib.Core.Path.{◌≡◌, refl, sym, ap, ◌∙◌, subst}
use mathlib.Core.List.{List, [], ◌∷◌, ◌++◌, append_assoc, append-nil}
use mathlib.Core.Option.{Option, none, some}
use Prim.Native.Nat.{ℕ, ◌+◌, ◌≤◌}
use native.Mathlib.Omega.{arith}
use lib.ListN.{length, take, drop, get_or, replicate, length-append, length-replicate, drop_of_length-le}
use lib.Seq.{take_at, drop_at}
use Rattle.cluster.specs.Config.{Config, shelf}
use Rattle.hmac.specs.Hmac.{tag_size}
use Rattle.protocol.specs.declared.Head.{Head}
use Rattle.protocol.specs.declared.Stamp.{Stamp}
use Rattle.format.specs.Format.{Bytes, value2, via, seq, or_blank, optional, run}
use Rattle.protocol.specs.Values.{Write, Share, stamp_size}
use Rattle.protocol.specs.Packet.{stamp_f, any_stamp_f, share_f, write_f, held_f, head_f}
use Rattle.protocol.specs.Memory.{lookup}
use Rattle.format.specs.Reading.{Leaves, Wrote, bytes_at, over}
use Rattle.protocol.specs.View.{share_at, share_of_size}
use Rattle.protocol.specs.ClientBytes.{Filled}
use Rattle.format.proofs.Answers.{bytes_drop}
use Rattle.protocol.proofs.Packets.{write_law, stamp-length, share-lengths, share-length}
use Rattle.format.proofs.Puts.{put-over, wrote_then, wrote-length}
use Rattle.wire.specs.Places.{length_at, share_size_def, write_at_def}
use Rattle.wire.specs.Make.{placed, put_step_def, packet_step}
use Rattle.wire.proofs.Put.{placed-wrote}
use Rattle.server.specs.declared.memory.Opened.{Opened}
use Rattle.std.specs.declared.option.Option as rust
use Rattle.std.specs.Prelude.{Some, None}
use Rattle.server.specs.Reads.{first_with, FindIs, FindAs}
use Rattle.server.specs.Answers.{reply_head_def}
use Rattle.server.specs.Filter.{share_bytes_def, HeldAs}
use Rattle.server.proofs.Finding.{share_in_def, first-held}
use Rattle.server.proofs.Replies.{headed}

-- ---- what the code makes

pub head-made : (a : Stamp) (flag : ℕ) → length a.tag ≡ tag_size → {j k : ℕ} {e f : List ℕ}
    → record { next = j; output = e } ≡ placed (replicate (stamp_size + 1) 0) 0 (stamp_f.print a)
    → record { next = k; output = f } ≡ placed e stamp_size (flag ∷ []) → f ≡ stamp_f.print a ++ flag ∷ []
head-made a flag l {j} {k} {e} {f} p q =
    let z : List ℕ = replicate (stamp_size + 1) 0 in
    let P : List ℕ = stamp_f.print a in
    let lz : length z ≡ stamp_size + 1 = length-replicate {A = ℕ} (stamp_size + 1) 0 in
    let lp : length P ≡ stamp_size = stamp-length a l in
    let w₁ : Wrote z 0 P e j = placed-wrote p (omega (arith, lz, lp)) in
    let w₂ : Wrote z 0 P e stamp_size = subst (λ (n : ℕ). Wrote z 0 P e n) (omega (arith, w₁.place, lp)) w₁ in
    let le : length e ≡ length z = wrote-length w₁ (omega (arith, lz, lp)) in
    let w₃ : Wrote e stamp_size (flag ∷ []) f k = placed-wrote q (omega (arith, le, lz)) in
    let b : f ≡ over (P ++ flag ∷ []) z = (wrote_then w₂ w₃ (omega (arith, lp, lz))).bytes ∙ put-over z (P ++ flag ∷ []) in
    b ∙ over_all z (P ++ flag ∷ []) (omega (arith, lz, lp, length-append P (flag ∷ [])))
  where
    over_all : (d x : List ℕ) → length d ≤ length x → over x d ≡ x
    over_all d x h = unfold over in (ap (λ (y : List ℕ). x ++ y) (drop_of_length-le d h) ∙ append-nil x)

pub size-made : (t : ℕ) (d : List ℕ) {v k : ℕ} → v ≡ value2 (get_or d 0 0) (get_or d 1 0) → k ≡ share_size_def (shelf t) v → k ≡ share_size_def (shelf t)
    (length_at d)
unfolding length_at
size-made t d p q = q ∙ ap (share_size_def (shelf t)) p

pub bytes-made : (s : Config) (d : List ℕ) (at : ℕ) {b x z : List ℕ} {k : ℕ} → b ≡ drop at d → x ≡ drop stamp_size b → k ≡ share_size_def s (length_at x) → z
    ≡ bytes_at x 0 k
    → z ≡ share_bytes_def s d at
unfolding share_bytes_def bytes_at
bytes-made s d at p q r u =
    let e = q ∙ ap (drop stamp_size) p in
    u ∙ (λ i. take (r i) (e i)) ∙ ap (λ (z : List ℕ). take (share_size_def s (length_at z)) (drop stamp_size (drop at d))) e

-- ---- the share of a stored write

pub share-there : (s : Config) {d : List ℕ} {at q : ℕ} → Leaves (write_f s) d at (write_at_def s (drop at d)) q → Bytes d
    → share_bytes_def s d at ≡ (share_f s).print (write_at_def s (drop at d)).share
unfolding share_bytes_def write_f via seq
share-there s {d} {at} {q} f bs =
    let w : Write = write_at_def s (drop at d) in
    let A : List ℕ = stamp_f.print w.stamp in
    let B : List ℕ = (share_f s).print w.share in
    let y : List ℕ = drop stamp_size (drop at d) in
    let u : drop at d ≡ (write_f s).print w ++ drop q d = unfold write_f via seq in ((write_law s).read (drop at d) w (drop q d) (bytes_drop at d bs)
    f.parsed) in
    let l : length A ≡ stamp_size = stamp-length w.stamp (unfold stamp_f seq via run in f.ok.0.1.1) in
    let v : y ≡ B ++ drop q d = ap (drop stamp_size) (u ∙ append_assoc A B (drop q d)) ∙ drop_at A (B ++ drop q d) stamp_size l in
    let k : length B ≡ share_size_def s (length_at y) = share-length s w.share (share-lengths s w.share f.ok.1) ∙ size_at s (drop at d) in
    ap (take (share_size_def s (length_at y))) v ∙ take_at B (drop q d) (share_size_def s (length_at y)) k
  where
    size_at : (s : Config) (x : List ℕ) → share_size_def s (write_at_def s x).share.size ≡ share_size_def s (length_at (drop stamp_size x))
    size_at s x = unfold write_at_def share_at share_of_size share_size_def length_at in refl

-- ---- the reply

joined : (h : Head) (first second output : List ℕ) → packet_step h first second output ≡ packet_step h (first ++ second) [] output
unfolding packet_step
joined h first second output = ap (λ (y : List ℕ). put_step_def (head_f.print h ++ y) output) (sym (append-nil (first ++ second)))

held_none : (s : Config) (a : Stamp) → (held_f s).print (record { stamp = a; share = none }) ≡ stamp_f.print a ++ 0 ∷ []
unfolding held_f any_stamp_f via seq or_blank optional
held_none s a = refl

held_some : (s : Config) (a : Stamp) (x : Share) → (held_f s).print (record { stamp = a; share = some x }) ≡ stamp_f.print a ++ 1 ∷ [] ++ (share_f
    s).print x
unfolding held_f any_stamp_f via seq or_blank optional
held_some s a x = sym (append_assoc (stamp_f.print a) (1 ∷ []) ((share_f s).print x))

module _ (d : List ℕ) (bs : Bytes d) (h : Head) (told : Opened) (a : Stamp) (output : List ℕ) {z : List ℕ}
    (p : z ≡ stamp_f.print a ++ 0 ∷ []) where
  abbrev s : Config
  s = shelf told.t

  found_for : (ws : List Write) → length a.tag ≡ tag_size → share_in_def (first_with (bytes_at z 0 stamp_size) ws) ≡ lookup a ws
  unfolding bytes_at
  found_for ws l =
      let searched : take stamp_size z ≡ stamp_f.print a = ap (take stamp_size) p ∙ take_at (stamp_f.print a) (0 ∷ []) stamp_size (stamp-length a l) in
      ap (λ (y : List ℕ). share_in_def (first_with y ws)) searched ∙ first-held a ws

  replies : (ws : List Write) {w : Filled} (o : Option Share) → lookup a ws ≡ o → (first second : List ℕ) {g : Head} → g ≡ reply_head_def h 10 → w ≡
      packet_step g first second output
      → first ++ second ≡ (held_f s).print (record { stamp = a; share = o })
      → w ≡ packet_step (reply_head_def h 10) ((held_f s).print (record { stamp = a; share = lookup a ws })) [] output
  replies ws {w} o e first second i u v =
      headed h 10 output first second i u ∙ joined (reply_head_def h 10) first second output
      ∙ ap (λ (y : List ℕ). packet_step (reply_head_def h 10) y [] output) (v ∙ ap (λ (y : Option Share). (held_f s).print
      (record { stamp = a; share = y })) (sym e))

  pub held-nothing : (f : rust.Option ℕ) → FindAs d told z f → f ≡ None → {w : Filled} → w ≡ packet_step (reply_head_def h 10) z [] output
      → HeldAs d h told a output w
  held-nothing f find t u ws m l =
      let k : first_with (bytes_at z 0 stamp_size) ws ≡ none = subst (λ (y : rust.Option ℕ). FindIs s d (first_with (bytes_at z 0 stamp_size) ws) y) t
      (find ws m) in
      replies ws none (sym (found_for ws l) ∙ ap share_in_def k) z [] refl u
      (append-nil z ∙ p ∙ sym (held_none s a))

  pub held_share : (f : rust.Option ℕ) → FindAs d told z f → {at : ℕ} → f ≡ Some at → {first second : List ℕ} → first ≡ stamp_f.print a ++
      1 ∷ []
      → second ≡ share_bytes_def s d at → {g : Head} {w : Filled} → g ≡ reply_head_def h 10 → w ≡ packet_step g first second output → HeldAs d h told a output w
  held_share f find {at} t {first} {second} y v i u ws m l =
      let k = subst (λ (y : rust.Option ℕ). FindIs s d (first_with (bytes_at z 0 stamp_size) ws) y) t (find ws m) in
      let x : Share = (write_at_def s (drop at d)).share in
      let b : second ≡ (share_f s).print x = v ∙ share-there s k.there bs in
      replies ws (some x) (sym (found_for ws l) ∙ ap share_in_def k.first) first second i u
      ((λ j. y j ++ b j) ∙ sym (held_some s a x))
