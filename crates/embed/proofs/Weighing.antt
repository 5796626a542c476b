-- What the exports of weights and of restoring by them rest on: the operations' answers by cases on their refusal, and how large a count can be.
-- As many servers are told as are used, and a count of bytes belongs to a legal content. Assumes nothing.
use mathlib.Core.Path.{◌≡◌, refl, sym, ap, subst, ◌∙◌}
use mathlib.Core.List.{List, ◌++◌}
use Prim.Native.Nat.{ℕ, zero, suc, ◌*◌, ◌≤◌, ◌<◌}
use native.Mathlib.Nat.{mul-le-mul, suc-ne-zero}
use native.Mathlib.Decide.{ℕ_discrete}
use native.Mathlib.Omega.{arith}
use lib.ListN.{length, take, drop, length-map}
use lib.Seq.{take_at}
use borrow.Author.Tests.{le-ltb}
use Rattle.cluster.specs.Config.{shelf}
use Rattle.cluster.specs.Ranges.{top_length}
use Rattle.cluster.specs.Refusals.{on_refusal, first_of}
use Rattle.cluster.specs.declared.Outcome.{Outcome}
use Rattle.erasure.specs.Weights.{WeightsOutcome}
use Rattle.erasure.specs.Choice.{first_different}
use Rattle.erasure.specs.System.{width}
use Rattle.erasure.specs.Weights.{rows_room, weight_rows, weights_checks, weights_refusal_def, used_servers, used_weights, weights_step}
use Rattle.erasure.specs.Weights.{weighed_refusal_def, weighed_step}
use Rattle.erasure.proofs.Choosing.{chosen-most}
use Rattle.erasure.proofs.Lists.{length-table}
use Rattle.erasure.proofs.Refused.{first_of_first}
use Rattle.erasure.proofs.WeightTests.{named, refused_as-few, sums}
use Rattle.embed.specs.Packing.{packed}
use Rattle.embed.proofs.Laws.{carried-out}
use Rattle.embed.proofs.Coded.{by_count}
use Rattle.embed.specs.Weights.{weights_export_refusal, weights_out}

-- ---- the weights

by_number : (q k : ℕ) (us rs vs ws : List ℕ) → (on_refusal {A = WeightsOutcome} q (record { number = 0; count = k; servers = us; rows = rs })
    (record { number = q; count = 0; servers = vs; rows = ws })).number ≡ q
by_number zero k us rs vs ws = refl
by_number (suc q) k us rs vs ws = refl

module _ (t : ℕ) (servers : List ℕ) (none : weights_refusal_def t servers ≡ 0) where
  abbrev k : ℕ
  k = (shelf t).threshold

  tested : first_of (weights_checks t servers) ≡ 0
  unfolding weights_refusal_def
  tested = go (ℕ_discrete (first_of (weights_checks t servers)) 0)
    where
      go : Dec (first_of (weights_checks t servers) ≡ 0) → first_of (weights_checks t servers) ≡ 0
      go (yes e) = e
      go (no some) = absurd (some (sym (first_of_first (weights_checks t servers) _ some) ∙ none))

  pub threshold-most : k ≤ width
  unfolding shelf
  threshold-most = omega (arith, (named t servers tested).faults.1)

  pub square-fits : k * k ≤ rows_room
  square-fits = mul-le-mul {n₁ = k} {m₁ = k} {n₂ = width} {m₂ = width} threshold-most threshold-most

  -- k servers are used
  pub used-count : length (used_servers t servers) ≡ k
  unfolding used_servers first_different
  used-count =
      length-map (first_different k servers) _ ∙ go (ℕ_discrete (length (first_different k servers)) k)
    where
      go : Dec (length (first_different k servers) ≡ k) → length (first_different k servers) ≡ k
      go (yes e) = e
      go (no ne) =
          let few : length (first_different k servers) < k = omega (arith, ne, chosen-most k servers (length servers)) in
          absurd (suc-ne-zero 15 (sym (refused_as-few t servers tested few) ∙ none))

  pub weights-count : length (used_weights t servers) ≡ k * k
  unfolding used_weights weight_rows
  weights-count = length-table (k * k) _

-- what the operation made, where it equals its definition's step
module _ (t : ℕ) (servers : List ℕ) (made : WeightsOutcome) (is : made ≡ weights_step t servers) where
  pub weights-number : made.number ≡ weights_refusal_def t servers
  unfolding weights_step
  weights-number = rw is (by_number (weights_refusal_def t servers) _ _ _ _ _)

  module _ (none : made.number ≡ 0) where
    accepted : weights_refusal_def t servers ≡ 0
    accepted = sym weights-number ∙ none

    count_is : made.count ≡ (shelf t).threshold
    unfolding weights_step
    count_is = rw is (rw accepted refl)

    told-servers : take made.count made.servers ≡ used_servers t servers
    unfolding weights_step
    told-servers = rw is (rw accepted (take_at _ _ _ (used-count t servers accepted)))

    told-weights : take (made.count * made.count) made.rows ≡ used_weights t servers
    unfolding weights_step
    told-weights = rw is (rw accepted (take_at _ _ _ (weights-count t servers accepted)))

    servers-long : length (used_servers t servers) ≡ made.count
    servers-long = used-count t servers accepted ∙ sym count_is

    weights-long : length (used_weights t servers) ≡ made.count * made.count
    weights-long = weights-count t servers accepted ∙ ap (λ (x : ℕ). x * x) (sym count_is)

    pub count_most : made.count ≤ width
    count_most = omega (arith, count_is, threshold-most t servers accepted)

  -- where the outputs have room, the refusal is the operation's own
  pub weights-refusal : (used rows : List ℕ) → width ≤ length used → rows_room ≤ length rows → weights_export_refusal t servers used rows ≡ made.number
  unfolding weights_export_refusal
  weights-refusal used rows h g = rw (le-ltb _ _ h) (rw (le-ltb _ _ g) (sym weights-number))

-- and an accepted one, of what the operation made
pub weights-given : (t : ℕ) (servers used rows : List ℕ) (made : WeightsOutcome) (is : made ≡ weights_step t servers) → made.number ≡ 0
    → width ≤ length used → rows_room ≤ length rows → (r : ℕ) (used-after rows-after : List ℕ) → r ≡ packed 0 0 0 made.count
    → used-after ≡ take made.count made.servers ++ drop made.count used
    → rows-after ≡ take (made.count * made.count) made.rows ++ drop (made.count * made.count) rows
    → record { answer = r; used = used-after; rows = rows-after } ≡ weights_out t servers used rows
unfolding weights_out
weights-given t servers used rows made is none h g r used-after rows-after gives put-used put-rows =
    let n : ℕ = made.count in
    let q : ℕ = weights_export_refusal t servers used rows in
    let e : q ≡ 0 = weights-refusal t servers made is used rows h g ∙ none in
    let one = carried-out n q r (used_servers t servers) made.servers used used-after e gives (told-servers t servers made is none)
    (servers-long t servers made is none) put-used in
    let two = carried-out (n * n) q (packed 0 0 0 (n * n)) (used_weights t servers) made.rows rows rows-after e refl
    (told-weights t servers made is none) (weights-long t servers made is none) put-rows in
    λ i. record { answer = one.0 i; used = one.1 i; rows = two.1 i }

-- ---- restoring by weights

module _ (t n : ℕ) (rows fragments out : List ℕ) where
  most : (r : List ℕ) → (weighed_step t n r fragments out).0.count ≤ top_length
  unfolding weighed_step
  most r =
      by_count (weighed_refusal_def t n (length fragments) (length out)) n top_length _ _
      (λ none. (sums t n (length fragments) (length out) none).bytes)

  pub weighed-count : (r : List ℕ) (o : Outcome) (after : List ℕ) → (o, after) ≡ weighed_step t n r fragments out → o.count ≤ top_length
  weighed-count r o after e = subst (λ (p : Outcome × List ℕ). p.0.count ≤ top_length) (sym e) (most r)
