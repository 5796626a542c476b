use Rattle.std.proofs.Common.{◌≡◌, refl, sym, ◌∙◌, arith}
use Rattle.erasure.specs.System.{direct_at}
use Rattle.erasure.proofs.Weighed.{product_to_none, product_to_more}
use Rattle.erasure.proofs.direct.weight.Goals as goal

pub loop-m-init : goal.loop-m-init
loop-m-init c = record { above = sym (product_to_none _); under = sym (product_to_none _) }

pub loop-m-preserved : goal.loop-m-preserved
loop-m-preserved c =
    let l = c.loop-m in
    record {
      above = c.mul-top.ensures ∙ product_to_more l.m _ l.top c.factor.result l.invariant.above c.factor.ensures;
      under = c.mul-own.ensures ∙ product_to_more l.m _ l.own c.factor-in-loop-m.result l.invariant.under c.factor-in-loop-m.ensures;
    }

pub returns : goal.returns
unfolding direct_at
returns c =
    let l = c.loop-m in
    let e : l.m ≡ c.args.k = omega arith in
    rw (c.mul.ensures, c.inverse.ensures, l.invariant.above, l.invariant.under, e) refl
