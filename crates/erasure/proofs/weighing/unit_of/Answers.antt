use Rattle.std.proofs.Common.{◌≡◌, length, sym, ◌∙◌, arith, rules}
use Rattle.erasure.specs.System.{width}
use Rattle.erasure.proofs.Units.{beside}
use Rattle.erasure.proofs.weighing.unit_of.Goals as goal

pub returns-then-blank : goal.returns-then-blank
returns-then-blank c =
    let long : length c.args.row ≡ width = search rules in
    let b = beside c.args.row c.args.k c.in_ok-p.p (omega arith) (sym c.first_weight.ensures ∙ c.in_ok-p.was) (sym c.blank.ensures ∙ c.if-blank.true) in
    (b.0, search rules, b.1)
