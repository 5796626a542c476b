-- That no stamp is stored twice: the writes before a cursor have one each, with the highest of them known, and the others stand from the cursor on.
-- The next write's stamp is sought among those before it. Assumes nothing.
use mathlib.Core.Path.{◌≡◌, refl, sym, ap, ◌∙◌, subst}
use mathlib.Core.Bool.{Bool, true, false, not, ◌&&◌}
use mathlib.Core.List.{List, [], ◌∷◌, ◌++◌}
use mathlib.Core.Option.{none}
use Prim.Native.Nat.{ℕ, ◌+◌, ◌-◌, ◌≤◌, ◌<◌, max}
use native.Mathlib.Omega.{arith}
use native.Mathlib.Nat.{sub-zero}
use lib.Dec.{T, ltb}
use lib.ListN.{drop, take, length}
use borrow.Author.Tests.{ltb-true, ltb-false}
use Rattle.cluster.specs.Config.{Config, shelf}
use Rattle.format.specs.Format.{Bytes, many}
use Rattle.protocol.specs.declared.Label.{Label}
use Rattle.protocol.specs.Values.{Write, label_of, same_list, is_some, stamp_size, rank_by, rank}
use Rattle.protocol.specs.Packet.{stamp_f, write_f}
use Rattle.protocol.specs.Memory.{lookup, fresh_after, distinct, writes_place_def}
use Rattle.protocol.specs.View.{stamp_at_def}
use Rattle.format.specs.Reading.{bytes_at, Leaves, Stops}
use Rattle.format.proofs.Answers.{at-cond}
use Rattle.protocol.proofs.Equal.{same_true}
use Rattle.format.proofs.Leaves.{leaves_none}
use Rattle.format.proofs.Walks.{many-next, many_stops, many_none, many_snoc}
use Rattle.wire.specs.Places.{write_at_def}
use Rattle.server.specs.declared.memory.Top.{Top}
use Rattle.server.specs.declared.memory.Opened.{Opened}
use Rattle.std.specs.declared.option.Option as rust
use Rattle.std.specs.Prelude.{Some, None}
use Rattle.std.specs.Option as std
use Rattle.server.specs.Reads.{Stored, first_with, FindIs, highest_of, TopOf, HighestOf, FindAs, raised_top, RepeatsAs, NoWrites, WritesAs}
use Rattle.server.proofs.Walk.{stamp-bytes}
use Rattle.server.proofs.Finding.{highest_more, key_printed, first_above, first-append, share_in_def, first-held}

-- ---- whether a stamp stands before

module _ (d : List ℕ) (told : Opened) (bs : Bytes d) {x : List ℕ} (p : x ≡ drop told.end d) where
  abbrev s : Config
  s = shelf told.t

  abbrev at : ℕ
  at = told.end

  found-held : {next : ℕ} → Leaves (write_f s) d at (write_at_def s (drop at d)) next → (ws : List Write) → share_in_def (first_with (bytes_at x 0 stamp_size) ws) ≡
      lookup (stamp_at_def (drop at d)) ws
  unfolding write_at_def bytes_at
  found-held f ws =
      ap (λ (k : List ℕ). share_in_def (first_with k ws)) (ap (take stamp_size) p ∙ unfold bytes_at in (stamp-bytes s f bs))
      ∙ first-held (stamp_at_def (drop at d))
      ws

  pub repeats_none : {r : rust.Option ℕ} → r ≡ None → FindAs d told x r → RepeatsAs d told false
  repeats_none t g ws next h f =
      let o : first_with (bytes_at x 0 stamp_size) ws ≡ none = subst (λ (y : rust.Option ℕ). FindIs s d (first_with (bytes_at x 0 stamp_size) ws) y) t (g ws h) in
      sym (ap is_some (sym (found-held f ws) ∙ ap share_in_def o))

  pub repeats_as : (r : rust.Option ℕ) → FindAs d told x r → RepeatsAs d told (std.is_some r)
  repeats_as (Some k) g = λ ws next h f. sym (ap is_some (sym (found-held f ws) ∙ ap share_in_def (g ws h).first))
  repeats_as None g = repeats_none refl g

-- ---- the highest of the writes, with one more

module _ (s : Config) {d : List ℕ} (bs : Bytes d) (seen : List Write) {at q : ℕ} (f : Leaves (write_f s) d at (write_at_def s (drop at d)) q) where
  -- a write above the others is the only one with its stamp
  above : {k : ℕ} → k ≡ rank (write_at_def s (drop at d)).stamp → highest_of 0 seen ≤ k
      → ((key : List ℕ) → rank (stamp_at_def key) ≡ k → first_with key seen ≡ none)
      → TopOf s d (record { key = k; at = at }) (seen ++ write_at_def s (drop at d) ∷ [])
  unfolding first_with bytes_at
  above {k} e l others =
      let w : Write = write_at_def s (drop at d) in
      record {
        key = sym (highest_more 0 seen w ∙ (let m : max (highest_of 0 seen) (rank w.stamp) ≡ rank w.stamp = omega (arith, e, l) in m) ∙ sym e);
        place = sym e;
        first = λ key g.
            let b : take stamp_size (drop at d) ≡ stamp_f.print w.stamp = unfold bytes_at in (stamp-bytes s f bs) in
            let a : stamp_f.print w.stamp ≡ key = sym b ∙ same_true (take stamp_size (drop at d)) key g in
            let m : rank (stamp_at_def key) ≡ k = ap (λ (x : List ℕ). rank (stamp_at_def x)) (sym a) ∙ key_printed w.stamp ∙ sym e in
            record {
              next = q;
              there = f;
              first = first-append key seen (w ∷ []) ∙ rw (others key m, ap (λ (x : List ℕ). same_list x key) (sym b) ∙ g);
            };
      }

  below : {top : Top} → TopOf s d top seen → {k : ℕ} → k ≡ rank (write_at_def s (drop at d)).stamp → k ≤ top.key
      → TopOf s d top (seen ++ write_at_def s (drop at d) ∷ [])
  below {top} u {k} e l =
      let w : Write = write_at_def s (drop at d) in
      record {
        key = sym (highest_more 0 seen w ∙ (let m : max (highest_of 0 seen) (rank w.stamp) ≡ highest_of 0 seen = omega (arith, u.key, e, l) in m) ∙ sym u.key);
        place = u.place;
        first = λ key g. let o = u.first key g in record {
          next = o.next;
          there = o.there;
          first = first-append key seen (w ∷ []) ∙ rw
              o.first;
        };
      }

  top_more : (o : rust.Option Top) → HighestOf s d o seen → {k : ℕ} → k ≡ rank (write_at_def s (drop at d)).stamp
      → TopOf s d (raised_top o k at) (seen ++ write_at_def s (drop at d) ∷ [])
  unfolding raised_top highest_of first_with
  top_more None n {k} e =
      let h : highest_of 0 seen ≡ 0 = ap (highest_of 0) n in
      above e (omega (arith, h)) (λ key m. ap (first_with key) n)
  top_more (Some top) u {k} e =
      at-cond (ltb top.key k) (record { key = k; at = at }) top (λ (z : Top). TopOf s d z (seen ++ write_at_def s (drop at d) ∷ []))
      (λ c. above e (omega (arith, u.key, ltb-true top.key k c)) (λ key m. first_above key 0 seen (omega (arith, m, u.key, ltb-true top.key k c))))
      (λ c. below u e (ltb-false top.key k c))

-- ---- the walk

pub record Checking (s : Config) (n : ℕ) (d : List ℕ) (at : ℕ) (top : rust.Option Top) (i : ℕ) : Type 0 where
  pub seen : List Write
  pub there : Stored s i d seen at
  pub up : HighestOf s d top seen
  pub rest : (ws : List Write) (e : ℕ) → Stored s n d ws e
      → (ys : List Write) × Leaves (many (n - i) (write_f s)) d at ys e × (distinct ws ≡ fresh_after seen ys)

pub check_none : (s : Config) (n : ℕ) (d : List ℕ) {at : ℕ} → at ≡ writes_place_def s → at ≤ length d → Checking s n d at None 0
unfolding highest_of
check_none s n d {at} p h = subst (λ (j : ℕ). Checking s n d j None 0) (sym p) start
  where
    start : Checking s n d (writes_place_def s) None 0
    start =
        record {
          seen = [];
          there = leaves_none (write_f s) 0 (omega (arith, p, h));
          up = refl;
          rest = λ ws e m. (ws, subst (λ (j : ℕ). Leaves (many j (write_f s)) d (writes_place_def s) ws e) (sym (sub-zero n)) m, refl);
        }

-- the rank of a write's stamp, by its label
pub last-rank : (d : List ℕ) {l : Label} → l ≡ label_of (stamp_at_def d) → {k : ℕ} → k ≡ rank_by l.number l.writer → k ≡ rank (stamp_at_def d)
last-rank d p e = e ∙ ap (λ (y : Label). rank_by y.number y.writer) p

-- what is told of the writes that were seen
abbrev pub seen_so : ℕ → ℕ → ℕ → ℕ → rust.Option Top → Opened
seen_so t b i at top = record { t = t; server = b; count = i; end = at; top = top }

module _ (t : ℕ) {n : ℕ} {d : List ℕ} {at i : ℕ} {top : rust.Option Top} (h : Checking (shelf t) n d at top i) where
  pub check-end : (b : ℕ) → i ≡ n → WritesAs t b n d (Some (at, top))
  check-end b e =
      let m = subst (λ (j : ℕ). Stored (shelf t) j d h.seen at) e h.there in
      let (ys, r, p) = h.rest h.seen at m in
      record {
        writes = h.seen;
        holds = record { there = m; up = h.up };
        once = p ∙ ap (fresh_after h.seen)
            (many_none (write_f (shelf t)) (n - i) (omega arith) r);
      }

  module _ (l : i < n) where
    pub check-stop : Stops (write_f (shelf t)) d at → NoWrites (shelf t) n d
    check-stop f ws e m o =
        let (ys, r, p) = h.rest ws e m in
        many_stops (write_f (shelf t)) (n - i) (n - (i + 1)) (omega arith) r f

    module _ {q : ℕ} (f : Leaves (write_f (shelf t)) d at (write_at_def (shelf t) (drop at d)) q) where
      -- the stamps seen and then the others, where the first of these is known to be fresh or not
      fresh-next : (b : ℕ) (r : Bool) → RepeatsAs d (seen_so t b i at top) r → (zs : List Write)
          → fresh_after h.seen (write_at_def (shelf t) (drop at d) ∷ zs) ≡ (not r && fresh_after (h.seen ++ write_at_def (shelf t) (drop at d) ∷ []) zs)
      unfolding write_at_def
      fresh-next b r g zs = rw (sym (g h.seen q (record { there = h.there; up = h.up }) (unfold write_at_def in f)))

      pub check-held : (b : ℕ) {v : Bool} → RepeatsAs d (seen_so t b i at top) v → v ≡ true → NoWrites (shelf t) n d
      check-held b {v} g y ws e m o =
          let (ys, r, p) = h.rest ws e m in
          let (zs, u, _) = many-next (write_f (shelf t)) (n - i) (n - (i + 1)) (omega arith) r f in
          let z : true ≡ false = sym o ∙ p ∙ ap (fresh_after h.seen) u ∙ fresh-next b v g zs ∙ rw y in
          subst T z tt

      pub check_more : Bytes d → {k : ℕ} → k ≡ rank (stamp_at_def (drop at d)) → {up : Top} → up ≡ raised_top top k at → (b : ℕ) {c : Bool}
          → RepeatsAs d (seen_so t b i at top) c → c ≡ false → Checking (shelf t) n d q (Some up) (i + 1)
      unfolding write_at_def
      check_more bs q₀ v b {c} g y =
          let w : Write = write_at_def (shelf t) (drop at d) in
          record {
            seen = h.seen ++ w ∷ [];
            there = many_snoc (write_f (shelf t)) i h.there f;
            up = subst (λ (z : Top). TopOf (shelf t) d z (h.seen ++ w ∷ [])) (sym v)
                (top_more (shelf t) bs h.seen (unfold write_at_def in f) top h.up q₀);
            rest = λ ws e m.
                let (ys, r, p) = h.rest ws e m in
                let (zs, u, r') = many-next (write_f (shelf t)) (n - i) (n - (i + 1)) (omega arith) r f in
                (zs, r', p ∙ ap (fresh_after h.seen) u ∙ fresh-next b c g zs ∙ rw y);
          }
