-- The weights of restoring (document 02, W-203): what each given byte counts for in a plain run. They depend only on which servers answered, so they
-- are made once for a record. `Steps` says what restoring gives; that it is the sum of weights times given bytes is a law, not a definition.
use Rattle.std.specs.Prelude.{not, cond, Result, Ok, Err, List, [], ◌∷◌, ◌++◌, map, ℕ, ◌+◌, ◌-◌, ◌*◌, ◌/◌, ◌%◌, eqb, ltb, length, get_or, drop, replicate}
use Rattle.gf256.specs.Gf.{times}
use Rattle.gf256.specs.Poly.{through}
use Rattle.gf256.specs.Bytes.{bytes}
use Rattle.cluster.specs.Config.{shelf, point_of}
use Rattle.cluster.specs.Ranges.{within, top_faults}
use Rattle.cluster.specs.Refusals.{Check, refuse, first_of, on_refusal, refusal_number}
use Rattle.cluster.specs.declared.Outcome.{Outcome}
use Rattle.cluster.specs.declared.Refusal.{Refusal}
use Rattle.erasure.specs.declared.WeightRows.{WeightRows}
use Rattle.erasure.specs.Fragments.{table, fragment_size_def}
use Rattle.erasure.specs.Choice.{servers_at, first_different}
use Rattle.erasure.specs.Steps.{each, length_checks}
use Rattle.erasure.specs.System.{width, sum_to}

-- ---- the weights

-- 1 at place j of k, and 0 at the others
abbrev pub unit_at : (k j : ℕ) → List ℕ
unit_at k j = table k (λ i. cond (eqb i j) 1 0)

-- what the value at the j-th of the points xs counts for at z: the value at z of the one polynomial of degree below their number that is 1 at
-- this point and 0 at the others
unfoldable pub weight_of : (xs : List ℕ) (z j : ℕ) → ℕ
weight_of xs z j = through bytes xs (unit_at (length xs) j) z

-- k rows of k weights, one after the other: row i, from 0, has those of plain run i, at its point
unfoldable pub weight_rows : (points : List ℕ) (k : ℕ) (xs : List ℕ) → List ℕ
weight_rows points k xs = table (k * k) (λ m. weight_of xs (point_of points (m / k + 1)) (m % k))

-- room for the most rows of the most weights
abbrev pub rows_room : ℕ
rows_room = width * width

-- ---- the operation that gives them

-- what is asked of the arguments, as restoring asks it
unfoldable pub weights_checks : (t : ℕ) (servers : List ℕ) → List Check
weights_checks t servers = refuse 3 (not (within 1 top_faults t)) ∷ refuse 4 (not (each (within 1 (shelf t).servers) servers)) ∷ []

-- and of the choice: k different servers
unfoldable pub weights_refusal_def : (t : ℕ) (servers : List ℕ) → ℕ
weights_refusal_def t servers =
    first_of
    (weights_checks t servers
    ++ (refuse 16 (ltb (length (first_different (shelf t).threshold servers)) (shelf t).threshold) ∷ []))

-- the servers that restoring uses: the first k different ones, in the order given
unfoldable pub used_servers : (t : ℕ) (servers : List ℕ) → List ℕ
used_servers t servers = servers_at servers (first_different (shelf t).threshold servers)

unfoldable pub used_weights : (t : ℕ) (servers : List ℕ) → List ℕ
used_weights t servers = weight_rows (shelf t).points (shelf t).threshold (map (point_of (shelf t).points) (used_servers t servers))

-- k, the servers used and their weights, padded with 00h to their room; or a refusal, with nothing
pub record WeightsOutcome : Type 0 where
  pub number : ℕ
  pub count : ℕ
  pub servers : List ℕ
  pub rows : List ℕ

-- what a result says
abbrev pub weights_told : Result WeightRows Refusal → WeightsOutcome
weights_told (Ok w) = record { number = 0; count = w.count; servers = w.servers; rows = w.rows }
weights_told (Err why) = record { number = refusal_number why; count = 0; servers = replicate width 0; rows = replicate rows_room 0 }

-- k, the servers used and their weights, padded with 00h to their room; or a refusal
unfoldable pub weights_step : (t : ℕ) (servers : List ℕ) → WeightsOutcome
weights_step t servers =
    let number = weights_refusal_def t servers in
    let k = (shelf t).threshold in
    on_refusal number
    (record {
      number = 0;
      count = k;
      servers = used_servers t servers ++ replicate (width - k) 0;
      rows = used_weights t servers ++ replicate (rows_room - k * k) 0;
    })
    (record { number = number; count = 0; servers = replicate width 0; rows = replicate rows_room 0 })

-- ---- restoring with weights at hand

-- the content of n bytes from k fragments, one after the other: byte m stands at place m % f of run m / f, and is the sum over the fragments
-- of their byte at this place, times the weight in the run's row
unfoldable pub weighed_bytes : (k n : ℕ) (rows fragments : List ℕ) → List ℕ
weighed_bytes k n rows fragments =
    let f = fragment_size_def k n in table n (λ m. sum_to k (λ j. times (get_or fragments (j * f + m % f) 0) (get_or rows (m / f * k + j) 0)))

-- no server is named, and the fragments are those of the k servers used
unfoldable pub weighed_refusal_def : (t n given room : ℕ) → ℕ
weighed_refusal_def t n given room =
    first_of
    (refuse 3 (not (within 1 top_faults t)) ∷ length_checks t n (shelf t).threshold given room)

-- the answer and the output buffer, as restoring gives them
unfoldable pub weighed_step : (t n : ℕ) (rows fragments output : List ℕ) → Outcome × List ℕ
weighed_step t n rows fragments output =
    let number = weighed_refusal_def t n (length fragments) (length output) in
    on_refusal number (record { number = 0; count = n }, weighed_bytes (shelf t).threshold n rows fragments ++ drop n output)
    (record { number = number; count = 0 }, output)
