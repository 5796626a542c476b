-- Places counted from another place: what stands n bytes after `at` stands at n in the bytes from `at` on.
-- Assumes nothing.
use mathlib.Core.Path.{◌≡◌, sym, ap, ◌∙◌}
use mathlib.Core.Bool.{true}
use mathlib.Core.List.{List}
use Prim.Native.Nat.{ℕ, ◌+◌, ◌≤◌, ◌<◌}
use native.Mathlib.Omega.{arith}
use lib.ListN.{length, take, drop, get_or, replicate, take-append-drop, get_or-replicate}
use lib.Seq.{drop-drop, get_or-drop, get_or-take, length-take-le, drop-append-le, take-append-le}
use Rattle.hmac.specs.Hmac.{tag_size}
use Rattle.cluster.specs.Config.{Config}
use Rattle.format.specs.Format.{zeros}
use Rattle.protocol.specs.Values.{stamp_size, nonce_size, tags_size_def, candidate_size_def, blank_stamp, blank_candidate}
use Rattle.protocol.specs.View.{stamp_at_def, candidate_at}
use Rattle.format.specs.Reading.{bytes_at}
use Rattle.format.proofs.Answers.{zeros-only}
use Rattle.format.proofs.Places.{part-zeros}
use Rattle.wire.specs.Reads.{first_byte}

module _ (s : List ℕ) (at : ℕ) where
  pub drop_from : {k : ℕ} (n : ℕ) → k ≡ at + n → drop k s ≡ drop n (drop at s)
  drop_from n e = ap (λ (j : ℕ). drop j s) e ∙ sym (drop-drop n at s)

  pub part_from : {k : ℕ} (n m : ℕ) → k ≡ at + n → bytes_at s k m ≡ bytes_at (drop at s) n m
  unfolding bytes_at
  part_from n m e = ap (take m) (drop_from n e)

  pub first_from : {k : ℕ} (n : ℕ) → k ≡ at + n → first_byte (drop k s) ≡ get_or (drop at s) n 0
  first_from {k} n e =
      let f : k + 0 ≡ at + n = omega arith in
      get_or-drop k s 0 0 ∙ ap (λ (j : ℕ). get_or s j 0) f ∙ sym (get_or-drop at s n 0)

-- ---- n zeros at the front are the blank

module _ (n : ℕ) (d : List ℕ) (h : n ≤ length d) (z : zeros (take n d) ≡ true) where
  noughts : take n d ≡ replicate n 0
  noughts = zeros-only (take n d) z ∙ ap (λ (k : ℕ). replicate k 0) (length-take-le n d h)

  nought : (i : ℕ) → i < n → get_or d i 0 ≡ 0
  nought i k = sym (get_or-take n d i 0 k) ∙ ap (λ (x : List ℕ). get_or x i 0) noughts ∙ get_or-replicate n i 0 0 k

  nought-part : (p m : ℕ) → p + m ≤ n → bytes_at d p m ≡ replicate m 0
  unfolding bytes_at
  nought-part p m k =
      let l : length (take n d) ≡ n = length-take-le n d h in
      ap (λ (x : List ℕ). take m (drop p x)) (sym (take-append-drop n d))
      ∙ ap (take m) (drop-append-le p (take n d) (drop n d) (omega arith))
      ∙ take-append-le m (drop p (take n d)) (drop n d) (omega (arith, lib.ListN.length-drop p (take n d)))
      ∙ ap (λ (x : List ℕ). take m (drop p x)) noughts
      ∙ part-zeros n p m k

  pub blank-stamp : stamp_size ≤ n → stamp_at_def d ≡ blank_stamp
  unfolding stamp_at_def
  blank-stamp k =
      rw (
        nought 0 (omega arith),
        nought 1 (omega arith),
        nought 2 (omega arith),
        nought 3 (omega arith),
        nought 4 (omega arith),
        nought-part 5 tag_size (omega arith),
      )

  pub blank-candidate : (c : Config) → candidate_size_def c ≤ n → candidate_at c d ≡ blank_candidate c
  unfolding candidate_at
  blank-candidate c k =
      rw (blank-stamp (omega arith), nought-part stamp_size nonce_size (omega arith), nought-part (stamp_size + nonce_size) (tags_size_def c) (omega arith))
