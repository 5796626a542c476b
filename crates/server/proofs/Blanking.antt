-- Making a blank server: one equation for each way through its refusals, and the bytes of the blank memory.
-- The refusals are an ordered list, so each test that was passed strikes its entry out. Assumes nothing.
use mathlib.Core.Path.{◌≡◌, sym, ap, ◌∙◌}
use mathlib.Core.Bool.{true, false, not}
use mathlib.Core.List.{List}
use Prim.Native.Nat.{ℕ, ◌<◌}
use native.Mathlib.Omega.{arith}
use lib.ListN.{length, set, replicate}
use borrow.Author.Tests.{not-false, eq-eqb, ne_eqb}
use Rattle.cluster.specs.Config.{shelf}
use Rattle.cluster.specs.Ranges.{within, top_faults, memory_size}
use Rattle.cluster.proofs.Tests.{within_bounds}
use Rattle.protocol.specs.Values.{candidate_size_def}
use Rattle.protocol.specs.Memory.{encode_memory, blank_memory}
use Rattle.protocol.specs.ServerBytes.{blank_refusal, blank_step}
use Rattle.protocol.proofs.Changes.{blank_rest, blank-bytes}
use Rattle.server.specs.Blank.{blanked}

-- t and a server's number are bytes
pub faults-byte : (t : ℕ) → not (within 1 top_faults t) ≡ false → t < 256
faults-byte t h = omega (arith, (within_bounds 1 top_faults t (not-false _ h)).1)

pub server-byte : (t b : ℕ) → not (within 1 top_faults t) ≡ false → not (within 1 (shelf t).servers b) ≡ false → b < 256
unfolding shelf
server-byte t b h k = omega (arith, (within_bounds 1 top_faults t (not-false _ h)).1, (within_bounds 1 (shelf t).servers b (not-false _ k)).1)

module _ (m : List ℕ) (t b : ℕ) where
  pub blank-size : (length m ≡ memory_size → ⊥) → blanked 1 m ≡ blank_step m t b
  unfolding blank_step blank_refusal
  blank-size h = rw (ne_eqb _ _ h)

  module _ (s : length m ≡ memory_size) where
    pub blank-faults : not (within 1 top_faults t) ≡ true → blanked 3 m ≡ blank_step m t b
    unfolding blank_step blank_refusal
    blank-faults h = rw (eq-eqb _ _ s, h)

    module _ (h : not (within 1 top_faults t) ≡ false) where
      pub blank-server : not (within 1 (shelf t).servers b) ≡ true → blanked 4 m ≡ blank_step m t b
      unfolding blank_step blank_refusal
      blank-server k = rw (eq-eqb _ _ s, h, k)

      blank-accepted : not (within 1 (shelf t).servers b) ≡ false → blank_step m t b ≡ blanked 0 (encode_memory (blank_memory t b))
      unfolding blank_step blank_refusal
      blank-accepted k = rw (eq-eqb _ _ s, h, k)

      small : candidate_size_def (shelf t) < blank_rest
      unfolding shelf
      small = omega (arith, (within_bounds 1 top_faults t (not-false _ h)).1)

      -- a cleared memory with its first two bytes set
      pub blank-made : not (within 1 (shelf t).servers b) ≡ false → {z : List ℕ} → z ≡ replicate (length m) 0 → blanked 0 (set (set z 0 t) 1 b) ≡
          blank_step m t b
      blank-made k {z} e =
          let c : z ≡ replicate memory_size 0 = e ∙ ap (λ (j : ℕ). replicate j 0) s in
          ap (λ (y : List ℕ). blanked 0 (set (set y 0 t) 1 b)) c ∙ ap (blanked 0) (sym (blank-bytes t b small)) ∙ sym (blank-accepted k)
