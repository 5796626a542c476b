-- The arguments are tested one after the other. Nothing is assumed.
use Rattle.std.proofs.Common.{◌≡◌, ◌∙◌, sym, ap, refl, ltb, true, false, not, suc, ◌-◌, arith}
use borrow.Author.Tests.{lt-ltb, le-ltb, ltb-true, ltb-false, not-true, not-false}
use mathlib.Core.Bool.{and-false}
use Rattle.cluster.specs.Config.{shelf}
use Rattle.cluster.specs.Ranges.{within}
use Rattle.cluster.proofs.Tests.{within_bounds}
use Rattle.decide.specs.Decided.{same_tags_at, same_tags_def}
use Rattle.decide.proofs.Arguments.{is-usable, unusable, one_answer}
use Rattle.decide.proofs.same_tags.Goals as goal
use Rattle.decide.proofs.same_tags.Goals.{then-is_usable, else-is_usable, then-i-servers, else-i-servers}

pub returns-then-not-outside : goal.returns-then-not-outside
unfolding same_tags_def
returns-then-not-outside c =
    let a = c.args in
    elim c.if-i-servers.branch [
      | then-i-servers v ↦ elim c.if-is_usable.branch [
        | then-is_usable w ↦
            let i : ltb a.i w.servers.result ≡ true = sym w.value-is ∙ v.if-i-servers.true in
            let k : not (within 1 (shelf a.t).servers a.b) ≡ false =
            rw (← v.servers-then-i-servers.ensures.0) (sym v.outside.ensures ∙ not-true _ (sym v.value-is ∙ c.if-not-outside.true)) in
            let b = within_bounds 1 (shelf a.t).servers a.b (not-false _ k) in
            let e : suc (a.b - 1) ≡ a.b = omega (arith, b) in
            rw (
              is-usable c.is_usable.ensures w.if-is_usable.true,
              lt-ltb a.i (shelf a.t).servers (omega (arith, ltb-true _ _ i, w.servers.ensures.0)),
              not-false _ k,
            ) (c.tags_alike.ensures ∙ ap (same_tags_at a.t a.kept.now a.i) e)
        | else-is_usable w ↦ one_answer v.if-i-servers.true (w.value-is ∙ w.if-is_usable.false)
      ]
      | else-i-servers v ↦ one_answer c.if-not-outside.true (v.value-is ∙ v.if-i-servers.false)
    ]

pub returns-else-not-outside : goal.returns-else-not-outside
unfolding same_tags_def
returns-else-not-outside c =
    let a = c.args in
    c.if-not-outside.false ∙ sym (elim c.if-is_usable.branch [
      | then-is_usable w ↦ elim c.if-i-servers.branch [
        | then-i-servers v ↦
            let k : not (within 1 (shelf a.t).servers a.b) ≡ true =
            rw (← v.servers-then-i-servers.ensures.0) (sym v.outside.ensures ∙ not-false _ (sym v.value-is ∙ c.if-not-outside.false)) in
            rw (is-usable c.is_usable.ensures w.if-is_usable.true, not-true _ k, and-false (ltb a.i (shelf a.t).servers)) refl
        | else-i-servers v ↦
            let i : ltb a.i w.servers.result ≡ false = sym w.value-is ∙ v.if-i-servers.false in
            rw (is-usable c.is_usable.ensures w.if-is_usable.true, le-ltb a.i (shelf a.t).servers (omega (arith, ltb-false _ _ i, w.servers.ensures.0)))
            refl
      ]
      | else-is_usable w ↦ rw (unusable c.is_usable.ensures w.if-is_usable.false) refl
    ])
