-- The rounds with 16 words of the schedule, word i at place i modulo 16: round n takes its word and puts word n + 16 there, which the
-- words n to n + 15 give. No other of the next words has the same place. Assumes nothing.
use mathlib.Core.Path.{◌≡◌, refl, sym, ap, ap₂, subst, ◌∙◌}
use mathlib.Core.List.{List}
use Prim.Native.Nat.{ℕ, ◌+◌, ◌-◌, ◌%◌, ◌≤◌, ◌<◌}
use native.Mathlib.Omega.{arith}
use native.Mathlib.Decide.{dec_lt}
use native.Mathlib.Numerals.{add-one}
use lib.ListN.{length, get_or, set}
use lib.Seq.{get_or-set_same, get_or-set_other}
use Rattle.sha256.specs.declared.rounds.Work.{Work}
use Rattle.sha256.specs.Sha256.{k_table, grow, next_word, round_of_def, rounds}
use Rattle.sha256.specs.Steps.{later_word, Reached}
use Rattle.sha256.proofs.Schedule.{grow_first, grow_at}

-- before the first round
pub reached_none : (b : List ℕ) (s : Work) → length b ≡ 16 → Reached b s 0 s b
unfolding rounds
reached_none b s l = record { work = refl; next = λ i p q r. at i q }
  where
    at : (i : ℕ) → i < 0 + 16 → get_or b (i % 16) 0 ≡ get_or (grow 48 b) i 0
    at i q =
        let e : i % 16 ≡ i = omega arith in
        ap (λ (j : ℕ). get_or b j 0) e ∙ sym (grow_first 48 b i (omega arith))

-- however the number of rounds is written
pub reached_at : (b : List ℕ) (s : Work) (n m : ℕ) (v : Work) (w : List ℕ) → n ≡ m → Reached b s n v w → Reached b s m v w
reached_at b s n m v w e h = subst (λ (k : ℕ). Reached b s k v w) e h

module _ (b : List ℕ) (s v r : Work) (k w : List ℕ) (n : ℕ) (hk : k ≡ k_table) (q : r ≡ round_of_def v (get_or k n 0) (get_or w (n % 16) 0))
    (h : Reached b s n v w) where
  round_more : n < 64 → r ≡ rounds (n + 1) (grow 48 b) s
  unfolding rounds
  round_more l =
      rw add-one
      (q
      ∙ ap₂ (λ (u : Work) (z : List ℕ). round_of_def u (get_or z n 0) (get_or w (n % 16) 0)) h.work hk
      ∙ ap (round_of_def (rounds n (grow 48 b) s) (get_or k_table n 0)) (h.next n (omega arith) (omega arith) l))

  word_at : (j m : ℕ) → n ≤ j → j < n + 16 → j < 64 → j ≡ m → get_or w (j % 16) 0 ≡ get_or (grow 48 b) m 0
  word_at j m p q r e = h.next j p q r ∙ ap (λ (d : ℕ). get_or (grow 48 b) d 0) e

  -- one of the last 16 rounds
  pub reached_last : 48 ≤ n → n < 64 → Reached b s (n + 1) r w
  reached_last m l = record { work = round_more l; next = λ i p q r. h.next i (omega arith) (omega arith) r }

  module _ (y : ℕ) (hn : n < 48) (hw : length w ≡ 16) (hb : length b ≡ 16) (hy : y ≡ later_word w n) where
    later-next : (i : ℕ) → i ≡ n + 16 → later_word w n ≡ next_word (grow 48 b) i
    unfolding later_word next_word
    later-next i e =
        let e2 : get_or w ((n + 14) % 16) 0 ≡ get_or (grow 48 b) (i - 2) 0 =
        word_at (n + 14) (i - 2) (omega arith) (omega arith) (omega arith) (omega arith) in
        let e7 : get_or w ((n + 9) % 16) 0 ≡ get_or (grow 48 b) (i - 7) 0 =
        word_at (n + 9) (i - 7) (omega arith) (omega arith) (omega arith) (omega arith) in
        let e15 : get_or w ((n + 1) % 16) 0 ≡ get_or (grow 48 b) (i - 15) 0 =
        word_at (n + 1) (i - 15) (omega arith) (omega arith) (omega arith) (omega arith) in
        let e16 : get_or w (n % 16) 0 ≡ get_or (grow 48 b) (i - 16) 0 =
        word_at n (i - 16) (omega arith) (omega arith) (omega arith) (omega arith) in
        cc

    kept : (i : ℕ) → n + 1 ≤ i → i < n + 1 + 16 → i < 64 → get_or (set w (n % 16) y) (i % 16) 0 ≡ get_or (grow 48 b) i 0
    kept i p q r = go (dec_lt i (n + 16))
      where
        go : Dec (i < n + 16) → get_or (set w (n % 16) y) (i % 16) 0 ≡ get_or (grow 48 b) i 0
        go (yes l) = get_or-set_other w (n % 16) (i % 16) y 0 (λ e. omega arith) ∙ h.next i (omega arith) l r
        go (no l) =
            let e : i ≡ n + 16 = omega arith in
            let f : i % 16 ≡ n % 16 = omega arith in
            ap (λ (j : ℕ). get_or (set w (n % 16) y) j 0) f
            ∙ get_or-set_same w (n % 16) y 0 (omega arith)
            ∙ hy
            ∙ later-next i e
            ∙ sym (grow_at 48 b i hb (omega arith) (omega arith))

    -- one of the rounds before them
    pub reached_more : Reached b s (n + 1) r (set w (n % 16) y)
    reached_more = record { work = round_more (omega arith); next = kept }
