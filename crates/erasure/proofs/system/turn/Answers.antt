-- The pivot's row begins as a unit row; then all rows are turned alike.
use Rattle.std.proofs.Common.{ℕ, subst, arith, rules}
use Rattle.erasure.specs.System.{SystemTurned}
use Rattle.erasure.proofs.Rows.{system_turned}
use Rattle.erasure.proofs.system.turn.Goals as goal

pub returns : goal.returns
returns c =
    let args = c.args in
    let unit = c.unit_row in
    let d = c.inverse-d in
    subst (λ (x : ℕ). SystemTurned args.k args.a args.p x c.loop-r.out) d.ensures
    (system_turned args.k args.a c.loop-r.out args.p d.result unit.result (search rules) (search rules) unit.ensures.0
    unit.ensures.1 (search rules) (search rules)
    (λ j h. c.loop-r.invariant.turned.each j (omega arith)))
