-- The first valid candidate in the order of ranks is the one that the definition's fold keeps, and none is valid where it keeps the blank.
-- The fold keeps the valid one of highest rank of those passed, by induction on their count; ranks tell slots. Assumes nothing.
use mathlib.Core.Path.{◌≡◌, refl, sym, ap, ◌∙◌, subst}
use mathlib.Core.Bool.{Bool, true, false, cond, ◌&&◌}
use mathlib.Core.List.{List, [], ◌∷◌, ◌++◌}
use mathlib.Core.Logic.{◌⊎◌, inl, inr}
use Prim.Native.Nat.{ℕ, zero, suc, ◌≤◌, ◌<◌}
use native.Mathlib.Omega.{arith}
use lib.Dec.{T, ltb}
use borrow.Author.Tests.{ltb-true, ltb-false, lt-ltb}
use Rattle.cluster.specs.Config.{Config}
use Rattle.protocol.specs.declared.Stamp.{Stamp}
use Rattle.format.specs.Format.{via, seq, number4, byte}
use Rattle.protocol.specs.Values.{Candidate, below, blank_stamp, blank_candidate, rank}
use Rattle.protocol.specs.Packet.{stamp_f, candidate_f}
use Rattle.protocol.specs.Primitives.{Primitives, real}
use Rattle.protocol.specs.Server.{Server, valid, best}
use Rattle.protocol.specs.View.{stamp_at_def, candidate_at}
use Rattle.wire.specs.Places.{candidate_list}
use Rattle.server.specs.Ranks.{slot_of, rank_of}
use Rattle.server.specs.Filter.{Listed}
use Rattle.protocol.proofs.Ranks.{below-rank}
use Rattle.server.proofs.Ranking.{last_of, rank_inj, rank-higher, rank_earlier}

clash : {b : Bool} → b ≡ true → b ≡ false → ⊥
clash p q = subst T (sym p ∙ q) tt

best_snoc : (P : Primitives) (s : Config) (key : List ℕ) (b : ℕ) (v : Server) (c : Candidate) (xs : List Candidate) (d : Candidate)
    → best P s key b v c (xs ++ d ∷ []) ≡ cond (valid P s key b v d && below (best P s key b v c xs).stamp d.stamp) d (best P s key b v c xs)
unfolding best
best_snoc P s key b v c [] d = refl
best_snoc P s key b v c (x ∷ xs) d = best_snoc P s key b v (cond (valid P s key b v x && below c.stamp x.stamp) x c) xs d

stamp_ranges : (s : Config) (c : Candidate) → (candidate_f s).Ok c → (1 ≤ c.stamp.number) × (c.stamp.writer < 256)
unfolding candidate_f stamp_f via seq number4 byte
stamp_ranges s c h = (h.0.0.0, omega (arith, h.0.1.0.1))

above-blank : (a : Stamp) → 1 ≤ a.number → below blank_stamp a ≡ true
unfolding below
above-blank a h = rw (lt-ltb 0 a.number (omega arith))

-- ---- what the fold keeps

module _ (s : Config) (key : List ℕ) (b : ℕ) (v : Server) (y : List ℕ) where
  abbrev cand : ℕ → Candidate
  cand j = candidate_at s (slot_of s y j)

  abbrev good : ℕ → Bool
  good j = valid real s key b v (cand j)

  abbrev best_of : ℕ → Candidate
  best_of m = best real s key b v (blank_candidate s) (candidate_list s m y)

  -- slot i is the valid one of highest rank of the first m
  record Best (m : ℕ) (c : Candidate) (i : ℕ) : Type 0 where
    pub at : i < m
    pub is : c ≡ cand i
    pub valid : good i ≡ true
    pub top : (j : ℕ) → j < m → good j ≡ true → rank_of s y j ≤ rank_of s y i

  record None (m : ℕ) (c : Candidate) : Type 0 where
    pub is : c ≡ blank_candidate s
    pub all : (j : ℕ) → j < m → good j ≡ false

  Kept : ℕ → Candidate → Type 0
  Kept m c = ((i : ℕ) × Best m c i) ⊎ None m c

  key_of_lem : (m i : ℕ) → Listed s m y → i < m → (c : Candidate) → c ≡ cand i → (j : ℕ) → j < m
      → below c.stamp (cand j).stamp ≡ ltb (rank (stamp_at_def (slot_of s y i))) (rank (stamp_at_def (slot_of s y j)))
  unfolding candidate_at
  key_of_lem m i l h c e j k =
      ap (λ (z : Candidate). below z.stamp (stamp_at_def (slot_of s y j))) e
      ∙ below-rank (stamp_at_def (slot_of s y i)) (stamp_at_def (slot_of s y j)) (unfold candidate_at in (stamp_ranges s (cand i) (l.ok i h)).1)
      (unfold candidate_at in (stamp_ranges s (cand j) (l.ok j k)).1)

  module _ (m : ℕ) (few : m < 255) (l : Listed s (suc m) y) (c : Candidate) where
    -- an invalid one changes nothing
    bad : good m ≡ false → Kept m c → Kept (suc m) c
    unfolding Kept
    bad f (inl (i, h)) =
        inl (
          i,
          record {
            at = omega (arith, h.at);
            is = h.is;
            valid = h.valid;
            top = λ j k g. more j (last_of j m k) g;
          },
        )
      where
        more : (j : ℕ) → (j < m) ⊎ (j ≡ m) → good j ≡ true → rank_of s y j ≤ rank_of s y i
        more j (inl k) g = h.top j k g
        more j (inr e) g = absurd (clash (ap good (sym e) ∙ g) f)
    bad f (inr h) = inr (record { is = h.is; all = λ j k. more j (last_of j m k) })
      where
        more : (j : ℕ) → (j < m) ⊎ (j ≡ m) → good j ≡ false
        more j (inl k) = h.all j k
        more j (inr e) = ap good e ∙ f

    -- the first valid one
    start : good m ≡ true → None m c → Best (suc m) (cand m) m
    start g h = record { at = omega arith; is = refl; valid = g; top = λ j k f. more j (last_of j m k) f }
      where
        more : (j : ℕ) → (j < m) ⊎ (j ≡ m) → good j ≡ true → rank_of s y j ≤ rank_of s y m
        more j (inl k) f = absurd (clash f (h.all j k))
        more j (inr e) f = subst (λ (z : ℕ). rank_of s y z ≤ rank_of s y m) (sym e) (omega arith)

    -- a higher one
    higher : good m ≡ true → (i : ℕ) → Best m c i → rank (stamp_at_def (slot_of s y i)) < rank (stamp_at_def (slot_of s y m)) → Best (suc m) (cand m) m
    higher g i h u = record { at = omega arith; is = refl; valid = g; top = λ j k f. more j (last_of j m k) f }
      where
        more : (j : ℕ) → (j < m) ⊎ (j ≡ m) → good j ≡ true → rank_of s y j ≤ rank_of s y m
        more j (inl k) f = omega (arith, h.top j k f, rank-higher s y i m (omega (arith, h.at, few)) few u)
        more j (inr e) f = subst (λ (z : ℕ). rank_of s y z ≤ rank_of s y m) (sym e) (omega arith)

    -- one that is not higher
    lower : (i : ℕ) → Best m c i → rank (stamp_at_def (slot_of s y m)) ≤ rank (stamp_at_def (slot_of s y i)) → Best (suc m) c i
    lower i h u = record { at = omega (arith, h.at); is = h.is; valid = h.valid; top = λ j k f. more j (last_of j m k) f }
      where
        more : (j : ℕ) → (j < m) ⊎ (j ≡ m) → good j ≡ true → rank_of s y j ≤ rank_of s y i
        more j (inl k) f = h.top j k f
        more j (inr e) f = subst (λ (z : ℕ). rank_of s y z ≤ rank_of s y i) (sym e) (rank_earlier s y i m h.at u)

    step : Kept m c → Kept (suc m) (cond (good m && below c.stamp (cand m).stamp) (cand m) c)
    unfolding Kept
    step h = go (good m) refl h
      where
        next : good m ≡ true → Kept m c → Kept (suc m) (cond (below c.stamp (cand m).stamp) (cand m) c)
        next g (inr h) = rw (ap (λ (z : Candidate). below z.stamp (cand m).stamp) h.is ∙ above-blank (cand m).stamp
            (stamp_ranges s (cand m) (l.ok m (omega arith))).0) (inl (m, start g h))
        next g (inl (i, h)) = test (ltb (rank (stamp_at_def (slot_of s y i))) (rank (stamp_at_def (slot_of s y m)))) refl
          where
            same : below c.stamp (cand m).stamp ≡ ltb (rank (stamp_at_def (slot_of s y i))) (rank (stamp_at_def (slot_of s y m)))
            same = key_of_lem (suc m) i l (omega (arith, h.at)) c h.is m (omega arith)

            test : (q : Bool) → ltb (rank (stamp_at_def (slot_of s y i))) (rank (stamp_at_def (slot_of s y m))) ≡ q → Kept (suc m)
                (cond (below c.stamp (cand m).stamp) (cand m) c)
            test true e = rw (same ∙ e) (inl (m, higher g i h (ltb-true _ _ e)))
            test false e = rw (same ∙ e) (inl (i, lower i h (ltb-false _ _ e)))

        go : (q : Bool) → good m ≡ q → Kept m c → Kept (suc m) (cond (good m && below c.stamp (cand m).stamp) (cand m) c)
        go true e k = rw e (next e k)
        go false e k = rw e (bad e k)

  fewer : (m : ℕ) → Listed s (suc m) y → Listed s m y
  fewer m l = record { made = λ j k. l.made j (omega arith); ok = λ j k. l.ok j (omega arith); same = λ j k. l.same j (omega arith) }

  keeps : (m : ℕ) → m ≤ 255 → Listed s m y → Kept m (best_of m)
  unfolding Kept candidate_list best
  keeps zero few l = inr (record { is = refl; all = λ j k. absurd (omega arith) })
  keeps (suc m) few l =
      subst (Kept (suc m)) (sym here) (step m (omega arith) l (best_of m) (keeps m (omega arith) (fewer m l)))
    where
      here : best_of (suc m) ≡ cond (good m && below (best_of m).stamp (cand m).stamp) (cand m) (best_of m)
      here = unfold candidate_list in
          (best_snoc real s key b v (blank_candidate s) (candidate_list s m y) _
          ∙ ap (λ (d : Candidate). cond (valid real s key b v d && below (best_of m).stamp d.stamp) d (best_of m)) (sym (l.same m (omega arith))))

  -- ---- the first valid one in the order of ranks

  module _ (m : ℕ) (few : m ≤ 255) (l : Listed s m y) where
    pub best_is : (i : ℕ) → i < m → good i ≡ true → ((j : ℕ) → j < m → rank_of s y i < rank_of s y j → good j ≡ false) → best_of m ≡ cand i
    best_is i h g above = go (keeps m few l)
      where
        go : Kept m (best_of m) → best_of m ≡ cand i
        go k = unfold Kept in at k
          where
            at : ((i : ℕ) × Best m (best_of m) i) ⊎ None m (best_of m) → best_of m ≡ cand i
            at (inr n) = absurd (clash g (n.all i h))
            at (inl (k, w)) = test (ltb (rank_of s y i) (rank_of s y k)) refl
              where
                test : (q : Bool) → ltb (rank_of s y i) (rank_of s y k) ≡ q → best_of m ≡ cand i
                test true e = absurd (clash w.valid (above k w.at (ltb-true _ _ e)))
                test false e =
                    let r : rank_of s y k ≡ rank_of s y i = omega (arith, ltb-false (rank_of s y i) (rank_of s y k) e, w.top i h g) in
                    w.is ∙ ap cand (rank_inj s y k i (omega (arith, w.at)) (omega arith) r)

    pub best_none : ((j : ℕ) → j < m → good j ≡ false) → best_of m ≡ blank_candidate s
    best_none all = go (keeps m few l)
      where
        at : ((i : ℕ) × Best m (best_of m) i) ⊎ None m (best_of m) → best_of m ≡ blank_candidate s
        at (inr n) = n.is
        at (inl (k, w)) = absurd (clash w.valid (all k w.at))

        go : Kept m (best_of m) → best_of m ≡ blank_candidate s
        go k = unfold Kept in at k
