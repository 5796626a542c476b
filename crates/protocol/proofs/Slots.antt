-- Slots: a candidate or a reply put into its slot is what its server is known by, and the other slots keep theirs.
-- Slots of one width are apart, and a printed value is read back by its places. Nothing is assumed.
use mathlib.Core.Path.{◌≡◌, refl, ap, ◌∙◌}
use mathlib.Core.Bool.{Bool, true, false, cond, not, ◌&&◌}
use mathlib.Core.List.{List, ◌++◌}
use mathlib.Core.Logic.{◌≢◌}
use Prim.Native.Nat.{ℕ, zero, suc, ◌+◌, ◌*◌, ◌≤◌, ◌<◌}
use native.Mathlib.Omega.{arith}
use lib.Dec.{ltb, eqb}
use lib.ListN.{length, get_or, set, replicate, length-replicate}
use lib.Seq.{get_or-set_same, get_or-set_other}
use borrow.Author.Tests.{ne_eqb, eqb-true, eqb-false, lt-ltb, ltb-true}
use Rattle.cluster.specs.Config.{Config}
use Rattle.cluster.specs.Ranges.{most_servers}
use Rattle.protocol.specs.Values.{Candidate, Held, blank_candidate, no_held}
use Rattle.protocol.specs.Packet.{any_candidate_f, held_f}
use Rattle.protocol.specs.Rules.{ByServer, upd, nobody}
use Rattle.protocol.specs.View.{marked, candidates_in, replies_in, reply_slot_of, candidate_at, held_at, kept_size, candidate_slot, candidates_place, replies_place, reply_slot}
use Rattle.format.specs.Reading.{bytes_at, put}
use Rattle.protocol.proofs.Packets.{CandidateLengths, candidate-length, any-print}
use Rattle.format.proofs.Places.{part_put, part-below, part_inside, part-other, part-zeros, slots_apart}
use Rattle.protocol.proofs.Readers.{blank_read_lem, candidate_read, HeldLengths, held_read}
use Rattle.protocol.proofs.Marks.{marked-fresh}

module _ (s : Config) (few : s.servers ≤ most_servers) (kept : List ℕ) (size : length kept ≡ kept_size) where
  -- ---- candidates

  -- all the slots of candidates, blank
  abbrev blanks : List ℕ
  blanks = replicate (candidate_slot * most_servers) 0

  -- a read begins with blank slots
  pub slots-zero : candidates_in s (put kept candidates_place (replicate (candidate_slot * most_servers) 0)) ≡ (λ b. blank_candidate s)
  unfolding candidates_in
  slots-zero = λ k b. at b k
    where
      n : ◌≡◌ {A = ℕ} (length {A = ℕ} (replicate (candidate_slot * most_servers) 0)) (candidate_slot * most_servers)
      n = length-replicate {A = ℕ} (candidate_slot * most_servers) 0

      at : (b : ℕ) → candidates_in s (put kept candidates_place blanks) b ≡ blank_candidate s
      at zero = refl
      at (suc i) = go (ltb i most_servers) refl
        where
          go : (b : Bool) → ltb i most_servers ≡ b
              → cond b (candidate_at s (bytes_at (put kept candidates_place blanks) (candidates_place + candidate_slot * i) candidate_slot))
              (blank_candidate s) ≡
              blank_candidate s
          go false e = refl
          go true e =
              let l : i < most_servers = ltb-true i most_servers e in
              ap (candidate_at s)
              (part_inside kept candidates_place blanks (omega (arith, n)) (candidate_slot * i) candidate_slot (omega (arith, n))
              ∙ part-zeros (candidate_slot * most_servers) (candidate_slot * i) candidate_slot (omega arith))
              ∙ blank_read_lem s few

  pub slots_put : (i : ℕ) (c : Candidate) → i < most_servers → CandidateLengths s c
      → candidates_in s (put kept (candidates_place + candidate_slot * i) ((any_candidate_f s).print c)) ≡ upd (candidates_in s kept) (suc i) c
  unfolding candidates_in upd
  slots_put i c small h = λ k b. at b k
    where
      B : List ℕ
      B = (any_candidate_f s).print c

      l : length ((any_candidate_f s).print c) ≤ candidate_slot
      l = omega (arith, ap length (any-print s c), candidate-length s c h, few)

      room : candidates_place + candidate_slot * i + length ((any_candidate_f s).print c) ≤ length kept
      room = omega (arith, l, small, size)

      read : (r : List ℕ) → candidate_at s ((any_candidate_f s).print c ++ r) ≡ c
      read r = ap (λ (z : List ℕ). candidate_at s (z ++ r)) (any-print s c) ∙ candidate_read s c r h

      at : (b : ℕ) → candidates_in s (put kept (candidates_place + candidate_slot * i) ((any_candidate_f s).print c)) b ≡ cond (eqb b (suc i)) c
          (candidates_in s kept b)
      at zero = rw (ne_eqb 0 (suc i) (λ e. omega arith))
      at (suc j) = go (eqb (suc j) (suc i)) refl
        where
          go : (b : Bool) → eqb (suc j) (suc i) ≡ b
              → cond (ltb j most_servers)
              (candidate_at s (bytes_at (put kept (candidates_place + candidate_slot * i) ((any_candidate_f s).print c))
              (candidates_place + candidate_slot * j)
              candidate_slot)) (blank_candidate s)
              ≡ cond b c (cond (ltb j most_servers) (candidate_at s (bytes_at kept (candidates_place + candidate_slot * j) candidate_slot))
              (blank_candidate s))
          go true e =
              let q : j ≡ i = omega (arith, eqb-true (suc j) (suc i) e) in
              rw (q, lt-ltb i most_servers small)
              (ap (candidate_at s) (part_put kept (candidates_place + candidate_slot * i) ((any_candidate_f s).print c) room candidate_slot l) ∙ read _)
          go false e =
              ap (λ (z : List ℕ). cond (ltb j most_servers) (candidate_at s z) (blank_candidate s))
              (part-other kept (candidates_place + candidate_slot * i) ((any_candidate_f s).print c) room (candidates_place + candidate_slot * j)
              candidate_slot
              (slots_apart candidates_place candidate_slot i j (length ((any_candidate_f s).print c)) l (λ q. eqb-false (suc j) (suc i) e (ap suc q))))

  -- another place past the slots of candidates
  pub slots_past : (p : ℕ) (b : List ℕ) → replies_place ≤ p → p + length b ≤ kept_size → candidates_in s (put kept p b) ≡ candidates_in s kept
  unfolding candidates_in
  slots_past p b lo hi = λ k j. at j k
    where
      at : (j : ℕ) → candidates_in s (put kept p b) j ≡ candidates_in s kept j
      at zero = refl
      at (suc j) = go (ltb j most_servers) refl
        where
          go : (x : Bool) → ltb j most_servers ≡ x
              → cond x (candidate_at s (bytes_at (put kept p b) (candidates_place + candidate_slot * j) candidate_slot)) (blank_candidate s)
              ≡ cond x (candidate_at s (bytes_at kept (candidates_place + candidate_slot * j) candidate_slot)) (blank_candidate s)
          go false e = refl
          go true e =
              let m = ltb-true j most_servers e in
              ap (candidate_at s) (part-below kept p b (omega (arith, size)) (candidates_place + candidate_slot * j) candidate_slot (omega arith))

  -- ---- replies

  pub replies_put : (ms : List ℕ) (i : ℕ) (x : Held) → i < most_servers → length ms ≡ most_servers → HeldLengths s x → length ((held_f s).print x) ≤
      reply_slot
      → replies_in s (set ms i 1) (put kept (replies_place + reply_slot * i) ((held_f s).print x)) ≡ upd (replies_in s ms kept) (suc i) x
  unfolding replies_in reply_slot_of upd marked
  replies_put ms i x small wide h l = λ k b. at b k
    where
      room : replies_place + reply_slot * i + length ((held_f s).print x) ≤ length kept
      room = omega (arith, l, small, size)

      at : (b : ℕ) → replies_in s (set ms i 1) (put kept (replies_place + reply_slot * i) ((held_f s).print x)) b ≡ cond (eqb b (suc i)) x
          (replies_in s ms kept b)
      at zero = rw (ne_eqb 0 (suc i) (λ e. omega arith))
      at (suc j) = go (eqb (suc j) (suc i)) refl
        where
          go : (b : Bool) → eqb (suc j) (suc i) ≡ b
              → cond (ltb j most_servers && not (eqb (get_or (set ms i 1) j 0) 0))
              (held_at s (bytes_at (put kept (replies_place + reply_slot * i) ((held_f s).print x)) (replies_place + reply_slot * j) reply_slot)) no_held
              ≡ cond b x (cond (ltb j most_servers && not (eqb (get_or ms j 0) 0)) (held_at s (bytes_at kept (replies_place + reply_slot * j) reply_slot))
              no_held)
          go true e =
              let q : j ≡ i = omega (arith, eqb-true (suc j) (suc i) e) in
              rw (q, lt-ltb i most_servers small, get_or-set_same ms i 1 0 (omega arith))
              (ap (held_at s) (part_put kept (replies_place + reply_slot * i) ((held_f s).print x) room reply_slot l) ∙ held_read s x _ h)
          go false e =
              let d : j ≢ i = λ q. eqb-false (suc j) (suc i) e (ap suc q) in
              rw (get_or-set_other ms i j 1 0 d)
              (ap (λ (z : List ℕ). cond (ltb j most_servers && not (eqb (get_or ms j 0) 0)) (held_at s z) no_held)
              (part-other kept (replies_place + reply_slot * i) ((held_f s).print x) room (replies_place + reply_slot * j) reply_slot
              (slots_apart replies_place reply_slot i j (length ((held_f s).print x)) l d)))

-- nobody has replied in a new round
pub replies-fresh : (s : Config) (kept : List ℕ) → replies_in s (replicate most_servers 0) kept ≡ (λ b. no_held)
unfolding replies_in
replies-fresh s kept = λ k b. at b k
  where
    at : (b : ℕ) → replies_in s (replicate most_servers 0) kept b ≡ no_held
    at zero = refl
    at (suc i) = go (ltb i most_servers) (ap (λ (f : ByServer Bool). f (suc i)) marked-fresh)
      where
        go : (b : Bool) → marked (replicate most_servers 0) (suc i) ≡ nobody (suc i)
            → cond (b && marked (replicate most_servers 0) (suc i)) (held_at s (reply_slot_of kept i)) no_held ≡ no_held
        go true e = rw e (unfold nobody in refl)
        go false e = refl
