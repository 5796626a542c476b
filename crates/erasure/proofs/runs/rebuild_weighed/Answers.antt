-- The fragments stand one after the other, so that fragment j begins at j times f.
use Rattle.std.proofs.Common.{◌++◌, ℕ, List, drop, ap, ap₂, ◌∙◌}
use Rattle.erasure.specs.Lanes.{weighed_of}
use Rattle.erasure.proofs.Rebuilt.{weighed-bytes}
use Rattle.erasure.proofs.runs.rebuild_weighed.Goals as goal

pub returns : goal.returns
returns c =
    let args = c.args in
    let runs = c.plain_runs in
    let fragments = args.fragments.now in
    c.write_runs.ensures
    ∙ ap (λ (l : List ℕ). l ++ drop args.n args.out.now)
    (ap₂ (λ (x y : ℕ). weighed_of x y args.n args.rows fragments runs.result.starts) runs.ensures.0 runs.ensures.1
    ∙ weighed-bytes args.k args.f args.n args.rows fragments runs.result.starts c.requires.1 runs.ensures.2)
