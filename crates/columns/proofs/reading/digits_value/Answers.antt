use Rattle.std.proofs.Common.{◌≡◌, ◌-◌, get_or, sym, ◌∙◌, arith}
use Rattle.columns.proofs.Numbers.{tens_more, digits_more, digits_low, digits-high, digits-end}
use Rattle.columns.proofs.reading.digits_value.Goals as goal

pub returns-in_default : goal.returns-in_default
returns-in_default c =
    let l = c.loop-b in
    sym (l.invariant.left ∙ digits_low c.args.s.now l.b-index (omega arith) l.v (omega arith))

pub returns-in_default-2 : goal.returns-in_default-2
returns-in_default-2 c =
    let l = c.loop-b in
    sym (l.invariant.left ∙ digits-high c.args.s.now l.b-index (omega arith) l.v (omega arith) (omega arith))

pub loop-b-preserved : goal.loop-b-preserved
loop-b-preserved c =
    let l = c.loop-b in
    let s = c.args.s.now in
    let e : c.from.result ≡ get_or s l.b-index 0 - 48 = c.from.ensures in
    record {
      left = l.invariant.left ∙ digits_more s l.b-index (omega arith) l.v (omega arith) (omega arith) ∙ rw e;
      small = tens_more l.v l.b-index c.from.result l.invariant.small (omega arith);
    }

pub returns : goal.returns
returns c = let l = c.loop-b in sym (l.invariant.left ∙ digits-end c.args.s.now l.b-index l.v (omega arith))
