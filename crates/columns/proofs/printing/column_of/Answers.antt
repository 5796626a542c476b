-- Digit by digit from the end.
use Rattle.std.proofs.Common.{◌≡◌, ℕ, suc, ◌-◌, subst, arith}
use Rattle.columns.proofs.Printed.{Printing, printing_more, printing_last, printing_full}
use Rattle.columns.proofs.printing.column_of.Goals as goal

pub loop-i-preserved : goal.loop-i-preserved
loop-i-preserved c =
    let l = c.loop-i in
    let e : l.i ≡ suc (l.i - 1) = omega arith in
    printing_more c.args.v (l.i - 1) l.rest l.column (subst (λ (k : ℕ). Printing c.args.v k l.rest l.column) e l.invariant) c.if-rest-eq0.false

pub returns-after-loop-i : goal.returns-after-loop-i
returns-after-loop-i c =
    let l = c.loop-i in
    let e : l.i ≡ 0 = omega arith in
    printing_full c.args.v l.rest l.column (rw e at l.invariant)

pub returns-then-rest-eq0 : goal.returns-then-rest-eq0
returns-then-rest-eq0 c =
    let l = c.loop-i in
    let e : l.i ≡ suc (l.i - 1) = omega arith in
    printing_last c.args.v (l.i - 1) l.rest l.column (subst (λ (k : ℕ). Printing c.args.v k l.rest l.column) e l.invariant) c.if-rest-eq0.true
