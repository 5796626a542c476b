-- A plain run is the fragment of its server, and the value from the plain runs that of every other.
use Rattle.std.proofs.Common.{◌≤◌, ◌<◌, ◌+◌, ◌-◌, ◌*◌, ◌++◌, ℕ, List, length, replicate, sym, ap, ap₂, subst, ◌∙◌, arith}
use Rattle.cluster.specs.Config.{point_of}
use Rattle.erasure.specs.Steps.{fragment_room}
use Rattle.erasure.specs.System.{width}
use Rattle.erasure.specs.Lanes.{value_from, plain_of}
use Rattle.erasure.proofs.Placed.{plain_end}
use Rattle.erasure.proofs.Answers.{value_made, run-made}
use Rattle.erasure.proofs.runs.make.Goals as goal

pub returns-then-server-k : goal.returns-then-server-k
returns-then-server-k c =
    let args = c.args in
    let pre = c.requires in
    let content = args.content.now in
    c.plain.ensures
    ∙ ap (λ (l : List ℕ). l ++ replicate (fragment_room - args.f) 0)
    (ap (λ (x : ℕ). plain_of x (args.server - 1) content) pre.6
    ∙ run-made args.points.now args.k content args.server pre.3 pre.2 pre.4 c.if-server-k.true (λ j. (c.type_inv.content j).fits))

pub value-requires : goal.value-requires
value-requires c =
    let args = c.args in
    let pre = c.requires in
    let content = args.content.now in
    let runs = c.plain_runs in
    let many = runs.ensures.0 in (
      omega (arith, many, pre.1),
      omega (arith, many, pre.2),
      λ i j hi hj. pre.3.different i j (omega (arith, many, hi, pre.2)) (omega (arith, many, hj, pre.2)),
      omega (arith, runs.ensures.1, pre.7),
      λ j h.
          let b : j < args.k = omega (arith, many, h) in
          let end : j * args.f + args.f ≤ length content + width =
          subst (λ (x : ℕ). j * x + x ≤ length content + width) (sym pre.6) (plain_end args.k (length content) j pre.1 b) in
          omega (arith, runs.ensures.2 j b, runs.ensures.1, end),
      omega (arith, many, pre.0),
    )

pub returns : goal.returns
unfolding point_of
returns c =
    let args = c.args in
    let pre = c.requires in
    let points = args.points.now in
    let content = args.content.now in
    let runs = c.plain_runs in
    let starts = runs.result.starts in
    let z = point_of points args.server in
    c.value.ensures
    ∙ ap₂ (λ (x y : ℕ). value_from x y points content starts z ++ replicate (fragment_room - y) 0) runs.ensures.0 runs.ensures.1
    ∙ ap (λ (l : List ℕ). l ++ replicate (fragment_room - args.f) 0)
    (ap (λ (x : ℕ). value_from args.k x points content starts z) pre.6
    ∙ value_made points args.k content starts args.server (λ j h. runs.ensures.2 j h ∙ ap (λ (x : ℕ). j * x) pre.6))
