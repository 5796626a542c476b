use Rattle.std.proofs.Common.{◌≡◌, ◌&&◌, ℕ, List, eqb, length, sym, ap, ap₂, arith, ◌∙◌}
use mathlib.Core.Logic.{⊎_elim}
use Rattle.protocol.specs.Values.{same_list}
use Rattle.wire.proofs.Joined.{lengths_differ, same_more, same_end}
use Rattle.wire.proofs.bytes.same_throughout.Goals as goal

pub returns-then-a-b : goal.returns-then-a-b
returns-then-a-b c = sym (lengths_differ c.args.a.now c.args.b.now c.if-a-b.true)

pub loop-x-init : goal.loop-x-init
loop-x-init c =
    let a : c.into_iter-x-iterator.result.a.rest.now ≡ c.args.a.now = cc (c.zip-x-items.ensures.first, c.iter.ensures.rest) in
    let b : c.into_iter-x-iterator.result.b.rest.now ≡ c.args.b.now = cc (c.zip-x-items.ensures.second.0) in
    record { same = ap₂ same_list (sym a) (sym b); level = omega (arith, ap length a, ap length b) }

pub loop-x-preserved : goal.loop-x-preserved
loop-x-preserved c =
    let (a, b) = c.in-Some.ensures.steps in
    record {
      same =
          c.loop-x.invariant.same
          ∙ ap₂ (λ (u v : List ℕ). eqb c.loop-x.all 0 && same_list u v) a b
          ∙ same_more c.in-Some.x.now c.in-Some.y.now c.next.new.self.a.rest.now c.next.new.self.b.rest.now c.loop-x.all;
      level = omega (arith, ap length a, ap length b, c.loop-x.invariant.level);
    }

pub returns : goal.returns
returns c =
    let i = c.loop-x.invariant in
    let ended : length c.loop-x.x-iterator.a.rest.now ≡ 0 = ⊎_elim (λ h. h.1.0) (λ h. i.level ∙ h.1.0) c.in-None.ensures.steps in
    sym (i.same ∙ same_end c.loop-x.x-iterator.a.rest.now c.loop-x.x-iterator.b.rest.now ended (sym i.level ∙ ended) (eqb c.loop-x.all 0))
