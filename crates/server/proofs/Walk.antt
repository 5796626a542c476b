-- A walk over the stored writes of a memory, in search of a stamp's bytes: passed writes have other bytes, and the others stand from the cursor on.
-- Where writes are stored, the next of them stands at the cursor: its bytes tell it, and its record length tells where it ends. Assumes nothing.
use mathlib.Core.Path.{◌≡◌, refl, sym, ap, ◌∙◌, subst}
use mathlib.Core.Bool.{Bool, true, false}
use mathlib.Core.List.{List, ◌++◌, append_assoc}
use mathlib.Core.Logic.{◌⊎◌, inl, inr}
use Prim.Native.Nat.{ℕ, suc, ◌+◌, ◌-◌, ◌≤◌, ◌<◌}
use native.Mathlib.Omega.{arith}
use native.Mathlib.Nat.{sub-zero, div-eq_of_lt}
use lib.Dec.{ltb}
use lib.ListN.{drop, take, get_or, length, length-append, length-drop}
use lib.Seq.{take_at, drop_at}
use borrow.Author.Tests.{ltb-true, ltb-false}
use Rattle.cluster.specs.Config.{Config, shelf}
use Rattle.erasure.specs.Fragments.{fragment_size_def}
use Rattle.hmac.specs.Hmac.{tag_size}
use Rattle.format.specs.Format.{Bytes, value2, many, via, seq, run}
use Rattle.protocol.specs.Values.{Write, same_list, stamp_size}
use Rattle.protocol.specs.Packet.{stamp_f, share_f, write_f}
use Rattle.protocol.specs.View.{stamp_at_def, share_at, share_of_size}
use Rattle.protocol.specs.Memory.{writes_place_def}
use Rattle.format.specs.Reading.{bytes_at, Leaves, Stops}
use Rattle.format.proofs.Answers.{bytes_drop}
use Rattle.format.proofs.Leaves.{stops-via, stops_first}
use Rattle.protocol.proofs.Packets.{write_law, stamp-length, ShareLengths, share-lengths, share-length}
use Rattle.protocol.proofs.Readers.{stamp_read, share_read}
use Rattle.format.proofs.Walks.{Reads, decide, leaves_moved, many-next, many_stops, many_none}
use Rattle.wire.specs.Places.{length_at, share_size_def, write_at_def}
use Rattle.wire.proofs.Through.{past-stamp}
use Rattle.std.specs.Prelude.{Some, None}
use Rattle.server.specs.Reads.{write_size, Stored, first_with, SearchAs}

-- ---- the bytes of a stored write

module _ (s : Config) {d : List ℕ} {at q : ℕ} {w : Write} (f : Leaves (write_f s) d at w q) (bs : Bytes d) where
  tag-there : length w.stamp.tag ≡ tag_size
  unfolding write_f stamp_f via seq run
  tag-there = f.ok.0.1.1

  stamp-there : length (stamp_f.print w.stamp) ≡ stamp_size
  stamp-there = stamp-length w.stamp tag-there

  share-ok : ShareLengths s w.share
  unfolding write_f via seq
  share-ok = share-lengths s w.share f.ok.1

  write_bytes : drop at d ≡ stamp_f.print w.stamp ++ ((share_f s).print w.share ++ drop q d)
  unfolding write_f via seq
  write_bytes =
      let u : drop at d ≡ (write_f s).print w ++ drop q d = unfold write_f via seq in ((write_law s).read (drop at d) w (drop q d) (bytes_drop at d bs)
      f.parsed) in
      u ∙ append_assoc (stamp_f.print w.stamp) ((share_f s).print w.share) (drop q d)

  share-bytes : drop stamp_size (drop at d) ≡ (share_f s).print w.share ++ drop q d
  share-bytes = ap (drop stamp_size) write_bytes ∙ drop_at (stamp_f.print w.stamp) ((share_f s).print w.share ++ drop q d) stamp_size stamp-there

  -- its stamp's
  pub stamp-bytes : bytes_at d at stamp_size ≡ stamp_f.print w.stamp
  unfolding bytes_at
  stamp-bytes = ap (take stamp_size) write_bytes ∙ take_at (stamp_f.print w.stamp) ((share_f s).print w.share ++ drop q d) stamp_size stamp-there

  -- they tell it
  write_is : w ≡ write_at_def s (drop at d)
  unfolding write_at_def
  write_is =
      let a : stamp_at_def (drop at d) ≡ w.stamp = ap stamp_at_def write_bytes ∙ stamp_read w.stamp ((share_f s).print w.share ++ drop q d) tag-there in
      let b : share_at s (drop stamp_size (drop at d)) ≡ w.share = ap (share_at s) share-bytes ∙ share_read s w.share (drop q d) share-ok in
      λ i. record { stamp = sym a i; share = sym b i }

  size_is : w.share.size ≡ length_at (drop stamp_size (drop at d))
  unfolding write_at_def share_at share_of_size length_at
  size_is = ap (λ (x : Write). x.share.size) write_is

  -- and where it ends
  write-ends : at ≤ length d → q ≡ at + write_size s (drop at d)
  unfolding share_size_def
  write-ends h =
      let A : List ℕ = stamp_f.print w.stamp in
      let B : List ℕ = (share_f s).print w.share in
      let l : length (drop at d) ≡ length A + length (B ++ drop q d) = ap length write_bytes ∙ length-append A (B ++ drop q d) in
      let m : fragment_size_def s.threshold w.share.size ≡ fragment_size_def s.threshold (length_at (drop stamp_size (drop at d))) = ap
      (fragment_size_def s.threshold) size_is in
      omega (
        arith,
        l,
        m,
        length-append B (drop q d),
        stamp-there,
        share-length s w.share share-ok,
        length-drop at d,
        length-drop q d,
        f.within,
        h,
      )

-- no content, no fragment
pub no-fragment : (t : ℕ) → fragment_size_def (shelf t).threshold 0 ≡ 0
unfolding fragment_size_def shelf
no-fragment t = div-eq_of_lt (omega arith)

-- where the next write ends, by the lengths that the code adds up
pub size-told : (t : ℕ) (d : List ℕ) (at : ℕ) {y x : List ℕ} {v f g : ℕ} → y ≡ drop at d → x ≡ drop stamp_size y → v ≡ value2 (get_or x 0 0) (get_or x 1 0)
    → f ≡ share_size_def (shelf t) 0 → g ≡ fragment_size_def (shelf t).threshold v → stamp_size + f + g ≡ write_size (shelf t) (drop at d)
unfolding length_at share_size_def
size-told t d at {y} {x} p q r a b =
    let e : x ≡ drop stamp_size (drop at d) = q ∙ ap (drop stamp_size) p in
    let l : fragment_size_def (shelf t).threshold _ ≡ fragment_size_def (shelf t).threshold _ = ap (fragment_size_def (shelf t).threshold)
    (r ∙ ap (λ (z : List ℕ). value2 (get_or z 0 0) (get_or z 1 0)) e) in
    omega (arith, no-fragment t)

-- the next of the stored writes
next_write : (s : Config) {d : List ℕ} {at : ℕ} → Bytes d → (k j : ℕ) {e : ℕ} {ys : List Write} → k ≡ suc j → Leaves (many k (write_f s)) d at ys e
    → Leaves (write_f s) d at (write_at_def s (drop at d)) (at + write_size s (drop at d))
next_write s {d} {at} bs k j {e} {ys} p m = go (ltb (length d) at) refl
  where
    G : Type 0
    G = Leaves (write_f s) d at (write_at_def s (drop at d)) (at + write_size s (drop at d))

    none_past : length d ≤ at → Stops (write_f s) d at
    none_past h = unfold write_f in (stops-via _ _ _ (stops_first _ _ (past-stamp h)))

    here : at ≤ length d → Reads (write_f s) d at ⊎ Stops (write_f s) d at → G
    here h (inl r) =
        leaves_moved refl (write-ends s r.there bs h) (subst (λ (x : Write). Leaves (write_f s) d at x r.next) (write_is s r.there bs)
        r.there)
    here h (inr f) = absurd (many_stops (write_f s) k j p m f)

    go : (b : Bool) → ltb (length d) at ≡ b → G
    go true t = absurd (many_stops (write_f s) k j p m (none_past (omega (arith, ltb-true (length d) at t))))
    go false t = let h : at ≤ length d = ltb-false (length d) at t in here h (decide (write_f s) (write_law s) d at bs h)

-- ---- the walk

-- i of the n writes were passed, none with the bytes key, and the others stand from at on
pub record Walking (s : Config) (n : ℕ) (d key : List ℕ) (at i : ℕ) : Type 0 where
  pub rest : (ws : List Write) (e : ℕ) → Stored s n d ws e
      → (ys : List Write) × Leaves (many (n - i) (write_f s)) d at ys e × (first_with key ws ≡ first_with key ys)

pub walk_none : (s : Config) (n : ℕ) (d key : List ℕ) {at : ℕ} → at ≡ writes_place_def s → Walking s n d key at 0
walk_none s n d key {at} p =
    record {
      rest = λ ws e m. (
        ws,
        subst (λ (j : ℕ). Leaves (many (n - 0) (write_f s)) d j ws e) (sym p)
            (subst (λ (j : ℕ). Leaves (many j (write_f s)) d (writes_place_def s) ws e) (sym (sub-zero n)) m),
        refl,
      );
    }

module _ {s : Config} {n : ℕ} {d key : List ℕ} {at i : ℕ} (h : Walking s n d key at i) where
  pub walk_end : n ≤ i → SearchAs s n d key None
  unfolding first_with
  walk_end l ws e m =
      let (ys, r, p) = h.rest ws e m in
      p ∙ ap (first_with key) (many_none (write_f s) (n - i) (omega arith) r)

  module _ (bs : Bytes d) (l : i < n) where
    there : {ws : List Write} {e : ℕ} → Stored s n d ws e → Leaves (write_f s) d at (write_at_def s (drop at d)) (at + write_size s (drop at d))
    there {ws} {e} m = let (ys, r, p) = h.rest ws e m in next_write s bs (n - i) (n - (i + 1)) (omega arith) r

    -- y is what stands from the cursor on, and z the size of its first write
    module _ {y : List ℕ} (u : y ≡ drop at d) where
      pub walk_short : {z : ℕ} → z ≡ write_size s (drop at d) → length y < z → SearchAs s n d key None
      walk_short v k ws e m = absurd (omega (arith, v, k, ap length u, length-drop at d, (there m).within))

      module _ {x : List ℕ} (p : x ≡ bytes_at y 0 stamp_size) {b : Bool} (c : b ≡ same_list x key) where
        compared : {ws : List Write} {e : ℕ} → Stored s n d ws e → same_list (stamp_f.print (write_at_def s (drop at d)).stamp) key ≡ b
        unfolding bytes_at
        compared m = ap (λ (z : List ℕ). same_list z key) (sym (p ∙ ap (take stamp_size) u ∙ unfold bytes_at in (stamp-bytes s (there m) bs))) ∙ sym c

        pub walk-found : b ≡ true → SearchAs s n d key (Some at)
        unfolding first_with
        walk-found t ws e m =
            let f = there m in
            let (ys, r, o) = h.rest ws e m in
            let (zs, q, _) = many-next (write_f s) (n - i) (n - (i + 1)) (omega arith) r f in
            record { next = at + write_size s (drop at d); there = f; first = o ∙ ap (first_with key) q ∙ rw (compared m ∙ t) }

        pub walk_more : b ≡ false → {z : ℕ} → z ≡ write_size s (drop at d) → Walking s n d key (at + z) (i + 1)
        unfolding first_with
        walk_more t {z} v =
            record {
              rest = λ ws e m.
                  let f = leaves_moved refl (ap (λ (j : ℕ). at + j) (sym v)) (there m) in
                  let (ys, r, o) = h.rest ws e m in
                  let (zs, q, r') = many-next (write_f s) (n - i) (n - (i + 1)) (omega arith) r f in
                  (zs, r', o ∙ ap (first_with key) q ∙ rw (compared m ∙ t));
            }
