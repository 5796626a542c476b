-- The latest candidate made blank: one equation for each way, and the bytes. A blank candidate's bytes are zeros. Assumes nothing.
use mathlib.Core.Path.{◌≡◌, sym, ap, ◌∙◌, subst}
use Rattle.std.specs.Prelude.{Option, Some, None, Ok, Err, MatchOption, ok_or}
use mathlib.Core.List.{List}
use mathlib.Core.Option.{none}
use Prim.Native.Nat.{ℕ, ◌+◌, ◌*◌, ◌≤◌}
use native.Mathlib.Omega.{arith}
use lib.ListN.{length, replicate, length-replicate}
use borrow.Author.Tests.{eq-eqb, ne_eqb}
use Rattle.cluster.specs.Config.{shelf}
use Rattle.cluster.specs.Ranges.{top_faults, most_servers, memory_size}
use Rattle.hmac.specs.Hmac.{tag_size}
use Rattle.format.specs.Format.{Bytes}
use Rattle.protocol.specs.Values.{blank_candidate, stamp_size, nonce_size, candidate_size_def}
use Rattle.protocol.specs.Packet.{any_candidate_f}
use Rattle.protocol.specs.Memory.{decode_memory, encode_memory, no_record, latest_place}
use Rattle.format.specs.Reading.{bytes_at, put}
use Rattle.protocol.proofs.Changes.{raised, latest-bytes, blank-print}
use Rattle.protocol.proofs.Packets.{any-candidate-length}
use Rattle.format.proofs.Places.{part-zeros}
use Rattle.wire.specs.Make.{Placed, placed}
use Rattle.server.specs.declared.memory.Opened.{Opened}
use Rattle.server.specs.Reads.{OpenedAs}
use Rattle.server.specs.Answers.{memory_in}
use Rattle.server.specs.Blank.{blanked, unraised, latest_refusal, blank_latest_def}
use Rattle.server.proofs.Raising.{placed_put, size_few}
use Rattle.server.proofs.Standing.{memory-bytes, memory-size_of, memory-fields}

-- the longest candidate
candidate-most : (t : ℕ) → t ≤ top_faults → candidate_size_def (shelf t) ≤ stamp_size + nonce_size + tag_size * most_servers
unfolding shelf
candidate-most t h = omega arith

-- what an answer that is there or not says, where none is made a refusal
module _ {A E : Type 0} (P : Type 0) (Q : A → Type 0) where
  pub ok_or-err : (o : Option A) (e y : E) → ok_or o e ≡ Err y → MatchOption o P Q → P × (y ≡ e)
  ok_or-err None e y q h = (h, cc)
  ok_or-err (Some a) e y q h = absurd (cc)

  pub ok_or-ok : (o : Option A) (e : E) (x : A) → ok_or o e ≡ Ok x → MatchOption o P Q → Q x
  ok_or-ok None e x q h = absurd (cc)
  ok_or-ok (Some a) e x q h = let s : a ≡ x = cc in subst Q s h

module _ (d : List ℕ) where
  pub latest-size : (length d ≡ memory_size → ⊥) → blanked 1 d ≡ blank_latest_def d
  unfolding blank_latest_def latest_refusal
  latest-size h = rw (ne_eqb (length d) memory_size h)

  module _ (size : length d ≡ memory_size) where
    pub latest_broken : decode_memory d ≡ none → blanked no_record d ≡ blank_latest_def d
    unfolding blank_latest_def latest_refusal
    latest_broken e = rw (eq-eqb (length d) memory_size size, e)

    module _ (bs : Bytes d) {told : Opened} (o : OpenedAs d told) where
      abbrev t : ℕ
      t = told.t

      abbrev zeros : ℕ → List ℕ
      zeros k = replicate k 0

      made : put d latest_place (zeros (candidate_size_def (shelf t))) ≡ encode_memory (raised (memory_in o) (blank_candidate (shelf t)))
      made =
          let old : length ((any_candidate_f (shelf t)).print (memory_in o).latest) ≡ candidate_size_def (shelf t) = any-candidate-length (shelf t)
          (memory_in o).latest (memory-fields o).latest in
          let new : length ((any_candidate_f (shelf t)).print (blank_candidate (shelf t))) ≡ candidate_size_def (shelf t) = ap length (blank-print (shelf t)) ∙
          length-replicate {A = ℕ} (candidate_size_def (shelf t)) 0 in
          (λ i. put (sym (memory-bytes o bs) i) latest_place (sym (blank-print (shelf t)) i)) ∙ latest-bytes (memory_in o) (blank_candidate (shelf t))
          (old ∙ sym new)

      pub latest-blanked : {k : ℕ} {x : List ℕ} {j : ℕ} {out : List ℕ} → k ≡ candidate_size_def (shelf t) → x ≡ bytes_at
          (zeros (stamp_size + nonce_size + tag_size * most_servers)) 0 k
          → record { next = j; output = out } ≡ placed d latest_place x → blanked 0 out ≡ blank_latest_def d
      unfolding blank_latest_def latest_refusal unraised
      latest-blanked {k} {x} p q r =
          let t-few : t ≤ top_faults = (memory-fields o).t_range.1 in
          let c : ℕ = candidate_size_def (shelf t) in
          let z : x ≡ zeros c = q ∙ ap (bytes_at (zeros (stamp_size + nonce_size + tag_size * most_servers)) 0) p ∙ part-zeros
          (stamp_size + nonce_size + tag_size * most_servers) 0 c (omega (arith, candidate-most t t-few)) in
          let l : latest_place + length (zeros c) ≤ length d = omega (arith, length-replicate {A = ℕ} c 0, memory-size_of o bs, size_few t t-few) in
          rw (eq-eqb (length d) memory_size size, o.decoded)
          (ap (blanked 0) (ap (λ (y : Placed). y.output) r ∙ ap (λ (y : List ℕ). (placed d latest_place y).output) z ∙ placed_put d latest_place
          (zeros c) l ∙ made))
