use Rattle.std.proofs.Common.{◌≡◌, ◌+◌, ◌<◌, sym, ◌∙◌, get_or, arith, rules}
use lib.Seq.{ext_get_or}
use Rattle.cluster.specs.Config.{up_to}
use Rattle.cluster.specs.Ranges.{most_servers}
use Rattle.cluster.proofs.Legal.{up_to-length, up_to_at}
use Rattle.erasure.proofs.points.numbered.Goals as goal

pub returns : goal.returns
returns c =
    let e = c.from_fn.ensures.items.long in
    ext_get_or 0 c.from_fn.result (up_to most_servers) (e ∙ sym (up_to-length most_servers))
    (λ i h. let b : i < most_servers = omega (arith, e) in
    let v : get_or c.from_fn.result i 0 ≡ i + 1 = search rules in
    v ∙ sym (up_to_at most_servers i b))
