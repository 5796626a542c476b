-- Each way out is the first test that applies. Assumes nothing.
use Rattle.std.proofs.Common.{refl, sym, ◌∙◌, true, false}
use borrow.Author.Tests.{lt-ltb, le-ltb}
use Rattle.planner.proofs.Refused.{plan_tests}
use Rattle.planner.proofs.accept.Goals as goal

pub returns-then-outside : goal.returns-then-outside
returns-then-outside c = sym (plan_tests _ _ _ _ true _ _ _ (sym c.outside.ensures ∙ c.if-outside.true) refl refl refl)

pub returns-then-outside-2 : goal.returns-then-outside-2
returns-then-outside-2 c =
    sym (plan_tests _ _ _ _ false true _ _ (sym c.outside.ensures ∙ c.if-outside.false) (sym c.outside-2.ensures ∙ c.if-outside-2.true) refl refl)

pub returns-then-length-gt-TOP_LENGTH : goal.returns-then-length-gt-TOP_LENGTH
returns-then-length-gt-TOP_LENGTH c =
    sym (plan_tests _ _ _ _ false false true _ (sym c.outside.ensures ∙ c.if-outside.false) (sym c.outside-2.ensures ∙ c.if-outside-2.false)
    (lt-ltb _ _ c.if-length-gt-TOP_LENGTH.true) refl)

pub returns-then-stores-gt-CAPACITY : goal.returns-then-stores-gt-CAPACITY
returns-then-stores-gt-CAPACITY c =
    sym (plan_tests _ _ _ _ false false false true (sym c.outside.ensures ∙ c.if-outside.false) (sym c.outside-2.ensures ∙ c.if-outside-2.false)
    (le-ltb _ _ c.if-length-gt-TOP_LENGTH.false) (lt-ltb _ _ c.if-stores-gt-CAPACITY.true))

pub returns : goal.returns
returns c =
    sym (plan_tests _ _ _ _ false false false false (sym c.outside.ensures ∙ c.if-outside.false) (sym c.outside-2.ensures ∙ c.if-outside-2.false)
    (le-ltb _ _ c.if-length-gt-TOP_LENGTH.false) (le-ltb _ _ c.if-stores-gt-CAPACITY.false))
