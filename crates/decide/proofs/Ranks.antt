-- A stamp of bytes is blank, by its number, where its rank is at most 255. Ranks in slots are read off the kept bytes. Nothing is assumed.
use mathlib.Core.Path.{◌≡◌, refl, ap, ◌∙◌}
use mathlib.Core.Bool.{Bool, true, false, cond, not, ◌&&◌}
use mathlib.Core.List.{List}
use Prim.Native.Nat.{ℕ, zero, suc, ◌+◌, ◌*◌, ◌≤◌, ◌<◌}
use native.Mathlib.Omega.{arith}
use lib.Dec.{ltb, eqb}
use lib.ListN.{get_or}
use borrow.Author.Tests.{eqb-true, eqb-false, eq-eqb, ne_eqb}
use Rattle.cluster.specs.Config.{Config}
use Rattle.cluster.specs.Ranges.{most_servers}
use Rattle.protocol.specs.declared.Stamp.{Stamp}
use Rattle.format.specs.Format.{Bytes}
use Rattle.protocol.specs.Values.{Candidate, Held, no_held, blank_candidate, is_blank_def, rank}
use Rattle.protocol.specs.View.{stamp_at_def, candidate_at, held_at, candidate_slot, candidates_place, replies_place, reply_slot, marked, candidates_in, replies_in, reply_slot_of}
use Rattle.format.specs.Reading.{bytes_at}
use Rattle.decide.specs.Steps.{ranks_below, rank_at, blank_rank}
use Rattle.decide.proofs.Places.{bytes-part, candidate_in_lem, reply_in, stamp-rank}

pub low-rank : (a : Stamp) → rank a ≤ blank_rank → is_blank_def a ≡ true
unfolding is_blank_def
low-rank a h = eq-eqb a.number 0 (omega arith)

pub high-rank : (a : Stamp) → a.writer < 256 → blank_rank < rank a → is_blank_def a ≡ false
unfolding is_blank_def
high-rank a w h = ne_eqb a.number 0 (λ e. omega arith)

pub blank-low : (a : Stamp) → a.writer < 256 → is_blank_def a ≡ true → rank a ≤ blank_rank
unfolding is_blank_def
blank-low a w e = let n = eqb-true a.number 0 e in omega arith

pub not-blank-high : (a : Stamp) → is_blank_def a ≡ false → blank_rank < rank a
unfolding is_blank_def
not-blank-high a e = let n = eqb-false a.number 0 e in let m : 1 ≤ a.number = some_one a.number n in omega arith
  where
    some_one : (x : ℕ) → (x ≡ 0 → ⊥) → 1 ≤ x
    some_one zero f = absurd (f refl)
    some_one (suc x) f = omega arith

-- ---- in slots

stamp-writer : (d : List ℕ) (at n : ℕ) → Bytes d → (stamp_at_def (bytes_at d at n)).writer < 256
unfolding stamp_at_def
stamp-writer d at n b = bytes-part d at n b 4

module _ (s : Config) (kept : List ℕ) where
  pub candidate-rank : (i : ℕ) → i < most_servers → rank (candidates_in s kept (suc i)).stamp ≡ rank_at kept (candidates_place + candidate_slot * i)
  unfolding candidate_at
  candidate-rank i h = ap (λ (c : Candidate). rank c.stamp) (candidate_in_lem s kept i h) ∙ stamp-rank kept (candidates_place + candidate_slot * i)
      candidate_slot (omega arith)

  pub candidate-writer : Bytes kept → (i : ℕ) → (candidates_in s kept i).stamp.writer < 256
  unfolding candidates_in candidate_at
  candidate-writer b zero = omega arith
  candidate-writer b (suc i) = go (ltb i most_servers)
    where
      go : (y : Bool) → (cond y (candidate_at s (bytes_at kept (candidates_place + candidate_slot * i) candidate_slot)) (blank_candidate s)).stamp.writer <
          256
      go true = stamp-writer kept (candidates_place + candidate_slot * i) candidate_slot b
      go false = omega arith

  module _ (ms : List ℕ) where
    pub reply-rank : (i : ℕ) → i < most_servers → marked ms (suc i) ≡ true → rank (replies_in s ms kept (suc i)).stamp ≡ rank_at kept
        (replies_place + reply_slot * i)
    unfolding held_at reply_slot_of
    reply-rank i h e = ap (λ (x : Held). rank x.stamp) (reply_in s ms kept i h e) ∙ stamp-rank kept (replies_place + reply_slot * i) reply_slot
        (omega arith)

    pub reply-writer : Bytes kept → (i : ℕ) → (replies_in s ms kept i).stamp.writer < 256
    unfolding replies_in held_at reply_slot_of
    reply-writer b zero = omega arith
    reply-writer b (suc i) = go (ltb i most_servers && marked ms (suc i))
      where
        go : (y : Bool) → (cond y (held_at s (bytes_at kept (replies_place + reply_slot * i) reply_slot)) no_held).stamp.writer < 256
        go true = stamp-writer kept (replies_place + reply_slot * i) reply_slot b
        go false = omega arith

    -- a lower reply, as it is read
    pub below-slot : (key i : ℕ) → i < most_servers
        → ranks_below (marked ms) (replies_in s ms kept) key (suc i) ≡ (not (eqb (get_or ms i 0) 0)
        && ltb (rank_at kept (replies_place + reply_slot * i)) key)
    unfolding marked
    below-slot key i h = go (not (eqb (get_or ms i 0) 0)) refl
      where
        go : (b : Bool) → not (eqb (get_or ms i 0) 0) ≡ b
            → (b && ltb (rank (replies_in s ms kept (suc i)).stamp) key) ≡ (b && ltb (rank_at kept (replies_place + reply_slot * i)) key)
        go true e = ap (λ (r : ℕ). ltb r key) (reply-rank i h e)
        go false e = refl
