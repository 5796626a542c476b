-- What a stamp's bytes find among the stored writes: nothing above the highest of them, that one at its place, else what a walk finds.
-- Equal bytes have equal keys, so a stamp above all the others is none of them. Assumes nothing.
use mathlib.Core.Path.{◌≡◌, refl, sym, ap, ◌∙◌, subst}
use mathlib.Core.Bool.{Bool, true, false, cond}
use mathlib.Core.List.{List, [], ◌∷◌, ◌++◌}
use mathlib.Core.Option.{Option, none, some}
use Prim.Native.Nat.{ℕ, ◌+◌, ◌*◌, ◌≤◌, ◌<◌, max}
use native.Mathlib.Omega.{arith}
use lib.ListN.{drop}
use lib.Seq.{get_or-take}
use borrow.Author.Tests.{le-ltb, lt-ltb}
use Rattle.cluster.specs.Config.{shelf}
use Rattle.cluster.proofs.Tests.{untrue}
use Rattle.protocol.specs.declared.Stamp.{Stamp}
use Rattle.format.specs.Format.{or_else, via, seq, number4, byte, run}
use Rattle.protocol.specs.Values.{Share, Write, same_list, same_stamp, stamp_size, rank}
use Rattle.protocol.specs.Packet.{stamp_f}
use Rattle.protocol.specs.Memory.{lookup}
use Rattle.protocol.specs.View.{stamp_at_def}
use Rattle.format.specs.Reading.{bytes_at}
use Rattle.protocol.proofs.Equal.{same_true, same_printed}
use Rattle.format.proofs.Formats.{value4-print}
use Rattle.server.specs.declared.memory.Top.{Top}
use Rattle.server.specs.declared.memory.Opened.{Opened}
use Rattle.std.specs.declared.option.Option as rust
use Rattle.std.specs.Prelude.{Some, None}
use Rattle.std.proofs.lemmas.Option.{MatchOption-at_some, MatchOption-at_none}
use Rattle.server.specs.Reads.{first_with, FindIs, SearchAs, TopOf, Holds, FindAs, highest_of, raised_top}

-- ---- keys

pub raised-higher : (top : Top) (k at : ℕ) → top.key < k → raised_top (Some top) k at ≡ record { key = k; at = at }
unfolding raised_top
raised-higher top k at h = rw (lt-ltb top.key k h)

pub raised-same : (top : Top) (k at : ℕ) → k ≤ top.key → raised_top (Some top) k at ≡ top
unfolding raised_top
raised-same top k at h = rw (le-ltb top.key k h)

-- the highest rank of writes, from k on: at least k, and with one more write the higher of it and that write's
highest_least : (k : ℕ) (ws : List Write) → k ≤ highest_of k ws
unfolding highest_of
highest_least k [] = omega arith
highest_least k (w ∷ ws) = omega (arith, highest_least (max k (rank w.stamp)) ws)

pub highest_more : (k : ℕ) (ws : List Write) (w : Write) → highest_of k (ws ++ w ∷ []) ≡ max (highest_of k ws) (rank w.stamp)
unfolding highest_of
highest_more k [] w = refl
highest_more k (v ∷ ws) w = highest_more (max k (rank v.stamp)) ws w

-- the key of a printed stamp
pub key_printed : (a : Stamp) → rank (stamp_at_def (stamp_f.print a)) ≡ rank a
unfolding stamp_at_def stamp_f via seq number4 byte run
key_printed a = ap (λ (n : ℕ). 256 * n + a.writer) (value4-print a.number)

-- the key of the stamp that bytes begin with
rank-part : (y : List ℕ) → rank (stamp_at_def (bytes_at y 0 stamp_size)) ≡ rank (stamp_at_def y)
unfolding stamp_at_def bytes_at
rank-part y =
    rw (
      get_or-take stamp_size y 0 0 (omega arith),
      get_or-take stamp_size y 1 0 (omega arith),
      get_or-take stamp_size y 2 0 (omega arith),
      get_or-take stamp_size y 3 0 (omega arith),
      get_or-take stamp_size y 4 0 (omega arith),
    )

-- ---- what is found: nothing above all stamps, the highest at its place, and below it what a walk finds

pub first_above : (key : List ℕ) (k : ℕ) (ws : List Write) → highest_of k ws < rank (stamp_at_def key) → first_with key ws ≡ none
unfolding first_with highest_of
first_above key k [] h = refl
first_above key k (w ∷ ws) h =
    let m : ℕ = max k (rank w.stamp) in
    let f : same_list (stamp_f.print w.stamp) key ≡ false =
    untrue _ (λ e.
    let q : rank w.stamp ≡ rank (stamp_at_def key) = sym (key_printed w.stamp) ∙ ap (λ (x : List ℕ). rank (stamp_at_def x))
    (same_true (stamp_f.print w.stamp) key e) in
    omega (arith, q, h, highest_least m ws)) in
    rw f (first_above key m ws h)

-- the first of two lists' writes
pub first-append : (key : List ℕ) (xs ys : List Write) → first_with key (xs ++ ys) ≡ or_else (first_with key xs) (first_with key ys)
unfolding first_with
first-append key [] ys = refl
first-append key (x ∷ xs) ys = go (same_list (stamp_f.print x.stamp) key) (first-append key xs ys)
  where
    go : (b : Bool) → first_with key (xs ++ ys) ≡ or_else (first_with key xs) (first_with key ys)
        → cond b (some x) (first_with key (xs ++ ys)) ≡ or_else (cond b (some x) (first_with key xs)) (first_with key ys)
    go true h = refl
    go false h = h

module _ (d : List ℕ) (told : Opened) (y : List ℕ) {x : List ℕ} (p : x ≡ bytes_at y 0 stamp_size) where
  found_as : (r : rust.Option ℕ) → ((ws : List Write) → Holds d told ws → FindIs (shelf told.t) d (first_with x ws) r) → FindAs d told y r
  found_as r f ws h = subst (λ (z : List ℕ). FindIs (shelf told.t) d (first_with z ws) r) p (f ws h)

  -- none is stored
  pub find_none : told.top ≡ None → FindAs d told y None
  unfolding first_with
  find_none q =
      found_as None (λ ws h.
      let n : ws ≡ [] = MatchOption-at_none (ws ≡ []) (λ top. TopOf (shelf told.t) d top ws) q h.up in
      ap (first_with x) n)

  module _ {top : Top} (q : told.top ≡ Some top) where
    up_of : {ws : List Write} → Holds d told ws → TopOf (shelf told.t) d top ws
    up_of {ws} h = MatchOption-at_some (ws ≡ []) (λ top. TopOf (shelf told.t) d top ws) top q h.up

    pub find-above : {k : ℕ} → k ≡ rank (stamp_at_def y) → top.key < k → FindAs d told y None
    find-above {k} r l =
        let e : k ≡ rank (stamp_at_def x) = r ∙ sym (rank-part y) ∙ ap (λ (z : List ℕ). rank (stamp_at_def z)) (sym p) in
        found_as None (λ ws h. first_above x 0 ws (omega (arith, e, l, (up_of h).key)))

    pub find-highest : {r : Bool} → r ≡ same_list (bytes_at (drop top.at d) 0 stamp_size) x → r ≡ true → FindAs d told y (Some top.at)
    find-highest c e = found_as (Some top.at) (λ ws h. (up_of h).first x (sym c ∙ e))

  pub find_searched : (r : rust.Option ℕ) → SearchAs (shelf told.t) told.count d x r → FindAs d told y r
  find_searched r f = found_as r (λ ws h. f ws told.end h.there)

-- ---- what is found by a stamp's bytes is what is held for it

abbrev pub share_in_def : Option Write → Option Share
share_in_def none = none
share_in_def (some w) = some w.share

share-cond : (b : Bool) (w : Write) (o : Option Write) (p : Option Share) → share_in_def o ≡ p → share_in_def (cond b (some w) o) ≡ cond b (some w.share) p
share-cond true w o p e = refl
share-cond false w o p e = e

pub first-held : (a : Stamp) (ws : List Write) → share_in_def (first_with (stamp_f.print a) ws) ≡ lookup a ws
unfolding first_with lookup
first-held a [] = refl
first-held a (w ∷ ws) = rw (same_printed w.stamp a) (share-cond (same_stamp w.stamp a) w _ _ (first-held a ws))
