-- The two exports on weights together, whatever stood in the buffers: the servers told are those that restoring uses, and their fragments, with the
-- rows as they were left, are restored to what restoring gives. Only the first k * k bytes of rows count. Assumes nothing.
use mathlib.Core.Path.{◌≡◌, refl, sym, ap, ◌∙◌}
use mathlib.Core.List.{List, ◌++◌, map}
use Prim.Native.Nat.{ℕ, ◌-◌, ◌*◌, ◌<◌, ◌≤◌}
use native.Mathlib.Omega.{arith}
use lib.ListN.{length, get_or, take, drop, replicate, length-append, length-drop, get_or-append}
use lib.Seq.{take_at, get_or-take}
use borrow.Author.Tests.{le-ltb}
use Rattle.cluster.specs.Config.{shelf}
use Rattle.cluster.specs.Refusals.{on_refusal}
use Rattle.cluster.specs.declared.Outcome.{Outcome}
use Rattle.format.specs.Reading.{over}
use Rattle.erasure.specs.Weights.{WeightsOutcome}
use Rattle.erasure.specs.Choice.{servers_at, first_different}
use Rattle.erasure.specs.Fragments.{fragment_size_def}
use Rattle.erasure.specs.Steps.{restore_refusal_def, restore_step}
use Rattle.erasure.specs.System.{width}
use Rattle.erasure.specs.Weights.{rows_room, weights_refusal_def, used_servers, used_weights, weights_step, weighed_refusal_def, weighed_bytes, weighed_step}
use Rattle.erasure.proofs.ByWeights.{weights-serve, same_as_restoring}
use Rattle.erasure.proofs.Rebuilt.{rows-counted}
use Rattle.erasure.proofs.Round.{joined}
use Rattle.erasure.proofs.WeightTests.{weights-accepted}
use Rattle.embed.specs.Packing.{written_by}
use Rattle.embed.specs.Weights.{weights_export_refusal, weights_out, weighed_by}
use Rattle.embed.proofs.Weighing.{weights-number, weights-refusal, used-count, weights-count, square-fits}

-- what restoring by weights gives depends on the sums alone
by_bytes : (t n : ℕ) (rows others fragments out : List ℕ)
    → weighed_bytes (shelf t).threshold n rows fragments ≡ weighed_bytes (shelf t).threshold n others fragments
    → weighed_step t n rows fragments out ≡ weighed_step t n others fragments out
unfolding weighed_step
by_bytes t n rows others fragments out e =
    let number : ℕ = weighed_refusal_def t n (length fragments) (length out) in
    ap (λ (l : List ℕ). on_refusal {A = Outcome × List ℕ} number (record { number = 0; count = n }, l ++ drop n out)
    (record { number = number; count = 0 }, out)) e

module _ (t n : ℕ) (servers fragments out : List ℕ) (accepts : restore_refusal_def t n servers (length fragments) (length out) ≡ 0) (used rows : List ℕ)
    (room : width ≤ length used) (rows-room : rows_room ≤ length rows) where
  abbrev k : ℕ
  k = (shelf t).threshold

  abbrev f : ℕ
  f = fragment_size_def k n

  none : weights_refusal_def t servers ≡ 0
  none = sym (weights-number t servers (weights_step t servers) refl) ∙ (weights-serve t n servers fragments out accepts).0

  not-refused : weights_export_refusal t servers used rows ≡ 0
  not-refused =
      weights-refusal t servers (weights_step t servers) refl used rows room rows-room ∙ (weights-serve t n servers fragments out accepts).0

  -- the servers told are those used
  pub servers-told : take k (weights_out t servers used rows).used ≡ servers_at servers (first_different k servers)
  unfolding weights_out over used_servers
  servers-told =
      ap (λ (q : ℕ). take k (written_by q (used_servers t servers) used)) not-refused
      ∙ take_at (used_servers t servers) (drop (length (used_servers t servers)) used) k (used-count t servers none)

  -- the rows as they are left
  left : List ℕ
  left = (weights_out t servers used rows).rows

  left_is : left ≡ used_weights t servers ++ drop (length (used_weights t servers)) rows
  unfolding left weights_out over
  left_is = ap (λ (q : ℕ). written_by q (used_weights t servers) rows) not-refused

  long : length left ≡ length rows
  long =
      let fits : length (used_weights t servers) ≤ length rows = omega (arith, weights-count t servers none, square-fits t servers none, rows-room) in
      ap length left_is ∙ length-append (used_weights t servers) (drop (length (used_weights t servers)) rows)
      ∙ omega (arith, fits, length-drop (length (used_weights t servers)) rows)

  same_rows : (i : ℕ) → i < k * k → get_or (take rows_room left) i 0 ≡ get_or (weights_step t servers).rows i 0
  same_rows i h =
      let here : i < length (used_weights t servers) = omega (arith, h, weights-count t servers none) in
      get_or-take rows_room left i 0 (omega (arith, h, square-fits t servers none))
      ∙ ap (λ (l : List ℕ). get_or l i 0) left_is
      ∙ get_or-append (used_weights t servers) (drop (length (used_weights t servers)) rows) 0 i here
      ∙ sym (ap (λ (w : WeightsOutcome). get_or w.rows i 0) (weights-accepted t servers none)
      ∙ get_or-append (used_weights t servers) (replicate (rows_room - k * k) 0) 0 i here)

  k_pos : 0 < k
  unfolding shelf
  k_pos = omega arith

  -- restoring by what the one export left is restoring
  pub restored_by_exports : ((i : ℕ) → get_or fragments i 0 < 256)
      → weighed_by t n (weights_out t servers used rows).rows (joined (map (λ p. take f (drop (p * f) fragments)) (first_different k servers))) out
      ≡ restore_step t n servers fragments out
  unfolding weighed_by left
  restored_by_exports small =
      let given : List ℕ = joined (map (λ p. take f (drop (p * f) fragments)) (first_different k servers)) in
      rw (le-ltb (length (weights_out t servers used rows).rows) rows_room (omega (arith, long, rows-room)))
      (by_bytes t n (take rows_room left) (weights_step t servers).rows given out
      (rows-counted k n (take rows_room left) (weights_step t servers).rows given k_pos same_rows)
      ∙ sym (same_as_restoring t n servers fragments out accepts small))
