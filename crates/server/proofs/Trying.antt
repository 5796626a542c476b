-- The walk over a list in the order of ranks: every slot above the rank in hand was tested and found invalid.
-- So the first valid one has the highest rank of the valid ones, and past the last rank there is none. The highest of all is tested
-- apart, since the key is prepared only where the history does not hold it. Assumes nothing.
use mathlib.Core.Path.{◌≡◌, refl, sym, ap, ◌∙◌, subst}
use mathlib.Core.Bool.{Bool, true, false}
use mathlib.Core.List.{List}
use Prim.Native.Nat.{ℕ, ◌≤◌, ◌<◌}
use native.Mathlib.Omega.{arith}
use lib.Dec.{ltb}
use borrow.Author.Tests.{ltb-true, ltb-false}
use Rattle.cluster.specs.Config.{shelf}
use Rattle.hmac.specs.declared.Prepared.{Prepared}
use Rattle.hmac.specs.PreparedKey.{prepared_of}
use Rattle.format.specs.Format.{Bytes}
use Rattle.protocol.specs.Primitives.{real}
use Rattle.protocol.specs.Server.{valid}
use Rattle.protocol.specs.View.{candidate_at}
use Rattle.protocol.specs.ServerBytes.{server_in}
use Rattle.server.specs.declared.memory.Opened.{Opened}
use Rattle.server.specs.Reads.{OpenedAs}
use Rattle.server.specs.Answers.{memory_in}
use Rattle.server.specs.Valid.{nonce_hash, HistoryAs, tag_checks, ValidAs}
use Rattle.server.specs.Ranks.{slot_of, rank_of, slot_with_def, next_rank_def}
use Rattle.server.specs.Filter.{Listed, ChosenAs, NoneFrom, ChosenUnder}
use Rattle.std.specs.declared.option.Option.{Option}
use Rattle.std.specs.Prelude.{Some, None}
use Rattle.server.proofs.Ranking.{rank-top, rank_inj, rank-slot, Highest, HighestIn, next_is}
use Rattle.server.proofs.Choosing.{best_is, best_none}
use Rattle.server.proofs.Testing.{valid-history, valid-tag}

module _ (d key : List ℕ) (told : Opened) (y : List ℕ) (m : ℕ) where
  -- a rank in hand: that of a slot, and every slot above it was found invalid
  pub record Trying (rank : ℕ) : Type 0 where
    pub slot : (i : ℕ) × (i < m) × (rank ≡ rank_of (shelf told.t) y i)
    pub above : (o : OpenedAs d told) → Listed (shelf told.t) m y → (j : ℕ) → j < m → rank < rank_of (shelf told.t) y j
        → valid real (shelf told.t) key told.server (server_in (memory_in o)) (candidate_at (shelf told.t) (slot_of (shelf told.t) y j)) ≡
        false

  none_above : Bytes y → NoneFrom d key told y m 281474976710656
  none_above bs o l j k h = absurd (omega (arith, h, rank-top (shelf told.t) y j bs))

  module _ {bound : ℕ} (none : NoneFrom d key told y m bound) {r : Option ℕ} (p : r ≡ next_rank_def (shelf told.t) y m bound) where
    pub try-under : {rank : ℕ} → r ≡ Some rank → Trying rank
    try-under {rank} q =
        record { slot = h.slot; above = λ o l j k g. go o l j k g (ltb (rank_of (shelf told.t) y j) bound) refl }
      where
        h : Highest (shelf told.t) y m bound rank
        h = subst (HighestIn (shelf told.t) y m bound) (sym p ∙ q) (next_is (shelf told.t) y m bound)

        go : (o : OpenedAs d told) → Listed (shelf told.t) m y → (j : ℕ) → j < m → rank < rank_of (shelf told.t) y j → (c : Bool) → ltb
            (rank_of (shelf told.t) y j) bound ≡ c
            → valid real (shelf told.t) key told.server (server_in (memory_in o)) (candidate_at (shelf told.t) (slot_of (shelf told.t) y j)) ≡
            false
        go o l j k g true f = absurd (omega (arith, g, h.most j k (ltb-true (rank_of (shelf told.t) y j) bound f)))
        go o l j k g false f = none o l j k (ltb-false (rank_of (shelf told.t) y j) bound f)

    pub try_none : m ≤ 255 → r ≡ None → ChosenAs d key told y m None
    try_none few q o l =
        let h = subst (HighestIn (shelf told.t) y m bound) (sym p ∙ q) (next_is (shelf told.t) y m bound) in
        best_none (shelf told.t) key told.server (server_in (memory_in o)) y m few l (λ j k. none o l j k (h j k))

  module _ (few : m ≤ 255) where
    module _ {rank : ℕ} (w : Trying rank) {i : ℕ} (p : i ≡ slot_with_def rank) {x : List ℕ}
        (q : x ≡ slot_of (shelf told.t) y i) {r : Bool}
        (test : ValidAs d key told x r) where
      in-hand : (i < m) × (rank ≡ rank_of (shelf told.t) y i)
      in-hand =
          let (k, h, u) = w.slot in
          let v : k ≡ i = sym (p ∙ ap slot_with_def u ∙ rank-slot (shelf told.t) y k (omega (arith, h, few))) in
          (omega (arith, h, v), u ∙ ap (rank_of (shelf told.t) y) v)

      tested : (o : OpenedAs d told) → Listed (shelf told.t) m y
          → r ≡ valid real (shelf told.t) key told.server (server_in (memory_in o)) (candidate_at (shelf told.t) (slot_of (shelf told.t) y i))
      tested o l = subst (λ (z : List ℕ). ValidAs d key told z r) q test o (l.made i in-hand.0, l.ok i in-hand.0)

      pub try-found : r ≡ true → ChosenAs d key told y m (Some i)
      try-found g o l =
          record {
            made = l.made i in-hand.0;
            ok = l.ok i in-hand.0;
            best =
                best_is (shelf told.t) key told.server (server_in (memory_in o)) y m few l i in-hand.0 (sym (tested o l) ∙ g)
                (λ j k h. w.above o l j k (omega (arith, in-hand.1, h)));
          }

      pub none_from : r ≡ false → NoneFrom d key told y m rank
      none_from g o l j k h = go (ltb rank (rank_of (shelf told.t) y j)) refl
        where
          go : (a : Bool) → ltb rank (rank_of (shelf told.t) y j) ≡ a
              → valid real (shelf told.t) key told.server (server_in (memory_in o)) (candidate_at (shelf told.t) (slot_of (shelf told.t) y j))
              ≡ false
          go true z = w.above o l j k (ltb-true rank (rank_of (shelf told.t) y j) z)
          go false z =
              let v : rank_of (shelf told.t) y i ≡ rank_of (shelf told.t) y j = omega
              (arith, in-hand.1, h, ltb-false rank (rank_of (shelf told.t) y j) z) in
              let s : i ≡ j = rank_inj (shelf told.t) y i j (omega (arith, in-hand.0, few)) (omega (arith, k, few)) v in
              ap (λ (z : ℕ). valid real (shelf told.t) key told.server (server_in (memory_in o))
              (candidate_at (shelf told.t) (slot_of (shelf told.t) y z))) (sym s) ∙ sym
              (tested o l) ∙ g

pub next_less : (t : ℕ) (y : List ℕ) (m : ℕ) {bound next : ℕ} {r : Option ℕ} → r ≡ next_rank_def (shelf t) y m bound → r ≡ Some next → next < bound
next_less t y m {bound} {next} p q =
    let h = subst (HighestIn (shelf t) y m bound) (sym p ∙ q) (next_is (shelf t) y m bound) in h.below

-- ---- the highest of all

module _ (d key : List ℕ) (told : Opened) (y : List ℕ) (m : ℕ) (few : m ≤ 255) (bs : Bytes y) {next : Option ℕ}
    (u : next ≡ next_rank_def (shelf told.t) y m 281474976710656) where
  pub highest_none : next ≡ None → ChosenAs d key told y m None
  highest_none h = try_none d key told y m (none_above d key told y m bs) u few h

  module _ {rank : ℕ} (in-next : next ≡ Some rank) {i : ℕ} (p : i ≡ slot_with_def rank) {x : List ℕ} (q : x ≡ slot_of (shelf told.t) y i)
      {g : List ℕ} (f : g ≡ nonce_hash x) {r : Bool}
      (past : HistoryAs d told x g r) where
    highest : Trying d key told y m rank
    highest = try-under d key told y m (none_above d key told y m bs) u in-next

    pub highest-held : r ≡ true → ChosenAs d key told y m (Some i)
    highest-held h = try-found d key told y m few highest p q (valid-history d key told x f past h) refl

    module _ (unheld : r ≡ false) {prepared : Prepared} (k : prepared ≡ prepared_of key) {c : Bool}
        (tag : c ≡ tag_checks prepared told x g) where
      pub highest-tagged : c ≡ true → ChosenAs d key told y m (Some i)
      highest-tagged h = try-found d key told y m few highest p q (valid-tag d key told x f past unheld k tag) h

      pub then-under : c ≡ false → (z : Option ℕ) → ChosenUnder d prepared told y m rank z → ChosenAs d key told y m z
      then-under h z under = under key k (none_from d key told y m few highest p q (valid-tag d key told x f past unheld k tag) h)
