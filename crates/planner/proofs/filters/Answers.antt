-- Each count up to S has its length, and those above keep their 0. Assumes nothing.
use Rattle.std.proofs.Common.{◌+◌, ◌*◌, ◌≤◌, refl, arith}
use Rattle.std.proofs.lemmas.List.{get_or-replicate}
use Rattle.cluster.specs.Ranges.{most_servers}
use Rattle.erasure.proofs.Fill.{filled_none}
use Rattle.planner.proofs.Entries.{one_filter, filters-made}
use Rattle.planner.proofs.Bounds.{plenty, servers-most, candidate-most, product-most}
use Rattle.planner.proofs.filters.Goals as goal

pub loop-count-init : goal.loop-count-init
loop-count-init c = record { made = filled_none refl; others = λ i h b. get_or-replicate (most_servers + 1) i 0 0 b }

-- in the loop the count is S at most
few : (c : goal.In-loop-count) → c.loop-count.count ≤ most_servers
few c = omega (arith, c.servers-count-end.ensures, servers-most _ c.requires)

product : (c : goal.In-loop-count) → c.loop-count.count * c.candidate_size-candidate.result ≤ plenty * plenty
product c = product-most _ _ (omega (arith, few c)) (omega (arith, c.candidate_size-candidate.ensures, candidate-most _ c.requires))

pub overflow_mul-out : goal.overflow_mul-out
overflow_mul-out c = omega (arith, product c)

pub overflow_add-out : goal.overflow_add-out
overflow_add-out c = omega (arith, product c)

pub overflow_add-out-in-loop-count : goal.overflow_add-out-in-loop-count
overflow_add-out-in-loop-count c = omega (arith, product c)

pub bounds-out-count : goal.bounds-out-count
bounds-out-count c = omega (arith, few c)

pub loop-count-preserved : goal.loop-count-preserved
loop-count-preserved c = one_filter c.loop-count.invariant (omega (arith, c.servers-count-end.ensures, servers-most _ c.requires))

pub returns-2 : goal.returns-2
returns-2 c =
    filters-made c.args.t c.candidate_size-candidate.ensures c.servers-count-end.ensures (omega arith)
    (one_filter c.loop-count.invariant (omega (arith, c.servers-count-end.ensures, servers-most _ c.requires)))
