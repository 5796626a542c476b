-- The points of different servers are different, and the rows are those of their first k.
use Rattle.std.proofs.Common.{◌≡◌, ◌++◌, ◌-◌, ◌*◌, ℕ, List, length, map, take, replicate, sym, ap, ◌∙◌, arith, rules}
use lib.ListN.{length-map}
use lib.Seq.{get_or-take, length-take-le}
use Rattle.cluster.specs.Config.{point_of}
use Rattle.erasure.specs.System.{width}
use Rattle.erasure.specs.Weights.{weight_rows, rows_room}
use Rattle.erasure.proofs.Lists.{get_d_map, take_is}
use Rattle.erasure.proofs.Chosen.{points-differ}
use Rattle.erasure.proofs.weighing.of_chosen.Goals as goal

pub made-requires : goal.made-requires
made-requires c =
    let pre = c.requires in (
      pre.0,
      pre.1,
      pre.2,
      points-differ c.args.c.count c.args.points.now c.args.c.servers c.points_of.result pre.3 pre.4 pre.5 c.points_of.ensures,
    )

pub returns : goal.returns
returns c =
    let pre = c.requires in
    let k = c.args.c.count in
    let all = c.args.points.now in
    let servers = c.args.c.servers in
    let given = c.points_of in
    let long : length given.result ≡ width = search rules in
    let ls : length servers ≡ width = search rules in
    let full : length (take k servers) ≡ k = length-take-le k servers (omega (arith, ls, pre.1)) in
    c.made.ensures
    ∙ ap (λ (xs : List ℕ). weight_rows all k xs ++ replicate (rows_room - k * k) 0)
    (take_is k given.result (map (point_of all) (take k servers)) (omega (arith, long, pre.1)) (length-map (take k servers) (point_of all) ∙ full)
    (λ j b. given.ensures j b
    ∙ sym (get_d_map (point_of all) (take k servers) j 0 0 (omega (arith, full, b)) ∙ ap (point_of all) (get_or-take k servers j 0 b))))
