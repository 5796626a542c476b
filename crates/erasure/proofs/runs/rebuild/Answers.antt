-- The rows are those of the chosen servers' points, so each byte is the value at its run's point; it depends on the first k starts alone.
use Rattle.std.proofs.Common.{◌≡◌, ◌<◌, ◌+◌, ◌-◌, ◌*◌, ◌++◌, ℕ, List, length, get_or, map, take, drop, replicate, refl, sym, ap, ap₂, ◌∙◌, arith, rules}
use lib.ListN.{length-map}
use Rattle.cluster.specs.Config.{point_of}
use Rattle.erasure.specs.System.{width, AllDifferent}
use Rattle.erasure.specs.Lanes.{weighed_of}
use Rattle.erasure.specs.Weights.{weight_of, rows_room}
use Rattle.erasure.proofs.Laws.{take-map}
use Rattle.erasure.proofs.Lists.{get_d_map}
use Rattle.erasure.proofs.Rebuilt.{row-entry, weighed_rebuilt, rebuilt_as}
use Rattle.erasure.proofs.Chosen.{points-differ, points-small}
use Rattle.erasure.proofs.runs.rebuild.Goals as goal

pub returns : goal.returns
returns c =
    let args = c.args in
    let pre = c.requires in
    let runs = c.runs_at in
    let rows = c.of_chosen-rows in
    let k = args.c.count in
    let all = args.points.now in
    let fragments = args.fragments.now in
    let servers = args.c.servers in
    let places = args.c.at in
    let given : List ℕ = map (point_of all) servers in
    let ls : length servers ≡ width = search rules in
    let la : length places ≡ width = search rules in
    let lg : length given ≡ width = length-map servers (point_of all) ∙ ls in
    let apart : AllDifferent k given = points-differ k all servers given pre.3 pre.4 pre.5
    (λ j b. get_d_map (point_of all) servers j 0 0 (omega (arith, ls, pre.1))) in
    let are : (i j : ℕ) → i < k → j < k → get_or rows.result (i * k + j) 0 ≡ weight_of (take k given) (get_or all i 0) j =
    λ i j hi hj.
    ap (λ (l : List ℕ). get_or l (i * k + j) 0) rows.ensures ∙ row-entry all (map (point_of all) (take k servers)) (replicate (rows_room - k * k) 0) k i
    j hi hj
    ∙ ap (λ (xs : List ℕ). weight_of xs (get_or all i 0) j) (sym (take-map (point_of all) k servers)) in
    c.write_runs.ensures
    ∙ ap (λ (l : List ℕ). l ++ drop args.n args.out.now)
    (ap₂ (λ (x y : ℕ). weighed_of x y args.n rows.result fragments runs.result.starts) runs.ensures.0 runs.ensures.1
    ∙ weighed_rebuilt k args.f args.n rows.result all given fragments runs.result.starts pre.6 (omega (arith, lg, pre.1)) apart
    (points-small all servers pre.3) pre.3.bytes (λ j. (c.type_inv.fragments j).fits) are
    ∙ rebuilt_as k args.f args.n all given given fragments runs.result.starts (map (λ p. p * args.f) places) pre.6 refl
    (λ j b. runs.ensures.2 j b ∙ sym (get_d_map (λ p. p * args.f) places j 0 0 (omega (arith, la, pre.1)))))
