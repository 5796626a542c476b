-- The weights for other languages go to two output buffers, which must have room for the most servers and their rows, so that their refusal depends on
-- their lengths alone; then come the operation's own refusals. Restoring by weights reads as many bytes of the rows that it is lent.
use Rattle.std.specs.Prelude.{List, [], ◌∷◌, ℕ, ltb, length, take}
use Rattle.cluster.specs.declared.Outcome.{Outcome}
use Rattle.cluster.specs.Refusals.{wrong_size, refuse, first_of, on_refusal}
use Rattle.erasure.specs.System.{width}
use Rattle.erasure.specs.Weights.{rows_room, weights_refusal_def, used_servers, used_weights, weighed_step}
use Rattle.embed.specs.Packing.{answer, written_by}

unfoldable pub weights_export_refusal : (t : ℕ) (servers used rows : List ℕ) → ℕ
weights_export_refusal t servers used rows =
    let size = first_of (refuse wrong_size (ltb (length used) width) ∷ refuse wrong_size (ltb (length rows) rows_room) ∷ []) in
    on_refusal size (weights_refusal_def t servers) size

-- the answer, and both output buffers
pub record WeightsOut : Type 0 where
  pub answer : ℕ
  pub used : List ℕ
  pub rows : List ℕ

-- the servers used are counted
unfoldable pub weights_out : (t : ℕ) (servers used rows : List ℕ) → WeightsOut
weights_out t servers used rows =
    let refusal = weights_export_refusal t servers used rows in
    record {
      answer = answer refusal (used_servers t servers);
      used = written_by refusal (used_servers t servers) used;
      rows = written_by refusal (used_weights t servers) rows;
    }

-- the outcome, and the output buffer
unfoldable pub weighed_by : (t n : ℕ) (rows fragments out : List ℕ) → Outcome × List ℕ
weighed_by t n rows fragments out =
    on_refusal (first_of (refuse wrong_size (ltb (length rows) rows_room) ∷ [])) (weighed_step t n (take rows_room rows) fragments out)
    (record { number = wrong_size; count = 0 }, out)
