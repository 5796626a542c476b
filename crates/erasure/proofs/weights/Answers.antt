-- Refused: no weights. Accepted: the rows are those of the first k different servers.
use Rattle.std.proofs.Common.{◌≡◌, ◌-◌, ◌*◌, ◌++◌, ℕ, List, length, map, replicate, take, sym, ap, ap₂, ◌∙◌, arith, rules}
use native.Mathlib.Nat.{suc-ne-zero}
use lib.Seq.{length-take-le}
use Rattle.std.proofs.lemmas.Result.{err_from_is_err_and}
use Rattle.cluster.specs.Config.{shelf, point_of}
use Rattle.cluster.specs.Refusals.{first_of}
use Rattle.erasure.specs.Choice.{servers_at, first_different}
use Rattle.erasure.specs.System.{width}
use Rattle.erasure.specs.Weights.{WeightsOutcome, weight_rows, rows_room, weights_checks, used_servers, used_weights}
use Rattle.erasure.proofs.Refused.{refused-number}
use Rattle.erasure.proofs.Answers.{lent}
use Rattle.erasure.proofs.Chosen.{counted, few_are, enough_are, ready, threshold-is}
use Rattle.erasure.proofs.WeightTests.{Named, named, weights-refused, weights-accepted, refused-servers, refused_as-few, not-refused}
use Rattle.erasure.proofs.weights.Goals as goal

pub returns-in_err-weights_refusal : goal.returns-in_err-weights_refusal
returns-in_err-weights_refusal c =
    let a = c.args in
    let p = err_from_is_err_and c.from_residual.result c.from_residual.ensures.1 in
    rw (p.1, p.2)
    (sym (weights-refused a.t a.servers.now _ (refused-servers a.t a.servers.now _ c.in_err-weights_refusal.ensures (refused-number _)) (refused-number _)))

-- what is known of arguments that are not refused
passed : (t : ℕ) (servers : List ℕ) → 0 ≡ first_of (weights_checks t servers) → Named t servers
passed t servers e = named t servers (sym e)

pub threshold_of-k-requires : goal.threshold_of-k-requires
threshold_of-k-requires c = (passed c.args.t c.args.servers.now c.in_ok-weights_refusal.ensures).faults.1

pub select-c-requires : goal.select-c-requires
unfolding shelf
select-c-requires c =
    let is = threshold-is c.args.t c.threshold_of-k.result c.threshold_of-k.ensures in
    let ok = passed c.args.t c.args.servers.now c.in_ok-weights_refusal.ensures in
    (omega (arith, is, ok.faults.1), λ i h. omega (arith, ok.faults.1, (ok.numbers i h).1))

pub returns-then-c-k : goal.returns-then-c-k
returns-then-c-k c =
    let a = c.args in
    let servers = a.servers.now in
    let ok = passed a.t servers c.in_ok-weights_refusal.ensures in
    let k = c.threshold_of-k.result in
    let is = threshold-is a.t k c.threshold_of-k.ensures in
    let chosen = c.select-c.result in
    let la : length chosen.at ≡ width = search rules in
    let ls : length chosen.servers ≡ width = search rules in
    sym (weights-refused a.t servers 16
    (refused_as-few a.t servers (sym c.in_ok-weights_refusal.ensures)
    (few_are a.t k chosen.count servers c.threshold_of-k.ensures (counted k servers chosen c.select-c.ensures (omega (arith, is, ok.faults.1)) la ls) c.if-c-k.true))
    (suc-ne-zero 15))

pub servers_of-s-requires : goal.servers_of-s-requires
servers_of-s-requires c = (passed c.args.t c.args.servers.now c.in_ok-weights_refusal.ensures).faults.1

pub used-requires : goal.used-requires
used-requires c =
    let is = threshold-is c.args.t c.threshold_of-k.result c.threshold_of-k.ensures in
    let ok = passed c.args.t c.args.servers.now c.in_ok-weights_refusal.ensures in
    omega (arith, is, ok.faults.1, c.select-c.ensures.room)

pub slice_bounds-points-end : goal.slice_bounds-points-end
slice_bounds-points-end c =
    (lent c.args.t _ _ (passed c.args.t c.args.servers.now c.in_ok-weights_refusal.ensures).faults c.servers_of-s.ensures c.numbered-points.ensures).enough

pub slice_bounds-of_chosen-end : goal.slice_bounds-of_chosen-end
slice_bounds-of_chosen-end c =
    sym (length-take-le _ _
    (lent c.args.t _ _ (passed c.args.t c.args.servers.now c.in_ok-weights_refusal.ensures).faults c.servers_of-s.ensures c.numbered-points.ensures).enough)

pub of_chosen-requires : goal.of_chosen-requires
of_chosen-requires c =
    let a = c.args in
    let servers = a.servers.now in
    let ok = passed a.t servers c.in_ok-weights_refusal.ensures in
    let chosen = c.select-c.result in
    let la : length chosen.at ≡ width = search rules in
    let ls : length chosen.servers ≡ width = search rules in
    let r = ready a.t _ _ servers _ chosen ok.faults ok.numbers c.threshold_of-k.ensures c.select-c.ensures la ls c.if-c-k.false
    (lent a.t _ _ ok.faults c.servers_of-s.ensures c.numbered-points.ensures) in
    (r.some, r.most, r.there, r.table, r.apart, r.numbers)

pub returns : goal.returns
unfolding used_servers used_weights
returns c =
    let a = c.args in
    let t = a.t in
    let servers = a.servers.now in
    let ok = passed t servers c.in_ok-weights_refusal.ensures in
    let k = c.threshold_of-k.result in
    let threshold = c.threshold_of-k.ensures in
    let is = threshold-is t k threshold in
    let chosen = c.select-c.result in
    let held = c.select-c.ensures in
    let la : length chosen.at ≡ width = search rules in
    let ls : length chosen.servers ≡ width = search rules in
    let lends = lent t _ _ ok.faults c.servers_of-s.ensures c.numbered-points.ensures in
    let r = ready t k _ servers _ chosen ok.faults ok.numbers threshold held la ls c.if-c-k.false lends in
    let points = take c.servers_of-s.result c.numbered-points.result in
    let answer : List ℕ → ℕ → List ℕ → WeightsOutcome = λ all m used. record {
      number = 0;
      count = k;
      servers = used ++ replicate (width - m) 0;
      rows = weight_rows all m (map (point_of all) used) ++ replicate (rows_room - m * m) 0;
    } in
    let final : ℕ → WeightsOutcome = λ m. record {
      number = 0;
      count = m;
      servers = servers_at servers (first_different m servers) ++ replicate (width - m) 0;
      rows = weight_rows (shelf t).points m (map (point_of (shelf t).points) (servers_at servers (first_different m servers)))
          ++ replicate (rows_room - m * m) 0;
    } in
    ap₂ (λ (u v : List ℕ). record { number = 0; count = k; servers = u; rows = v }) c.used.ensures c.of_chosen.ensures
    ∙ ap₂ (λ (m : ℕ) (l : List ℕ). answer points m l) r.all held.servers_is
    ∙ ap (λ (all : List ℕ). answer all k (servers_at servers (first_different k servers))) lends.points
    ∙ ap final threshold
    ∙ sym (weights-accepted t servers
    (not-refused t servers (sym c.in_ok-weights_refusal.ensures)
    (enough_are t k chosen.count servers threshold (counted k servers chosen held (omega (arith, is, ok.faults.1)) la ls) c.if-c-k.false)))
