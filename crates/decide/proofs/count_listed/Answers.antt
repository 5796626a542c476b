-- The list has as many as enter it. Nothing is assumed.
use Rattle.std.proofs.Common.{◌≡◌, ◌∙◌, sym, ap, refl, ℕ, arith}
use Rattle.cluster.specs.Config.{shelf}
use Rattle.protocol.specs.Rules.{count_to}
use Rattle.protocol.specs.View.{candidates_in}
use Rattle.protocol.proofs.Marks.{count-le}
use Rattle.decide.specs.Listing.{enters, listed_count}
use Rattle.decide.proofs.Arguments.{unusable, known, is-usable}
use Rattle.decide.proofs.Counted.{count_in, count_out, count_none}
use Rattle.decide.proofs.Gathered.{gather-count}
use Rattle.decide.proofs.count_listed.Goals as goal
use Rattle.decide.proofs.count_listed.Goals.{then-entry, else-entry}

pub returns-then-not-is_usable : goal.returns-then-not-is_usable
unfolding listed_count
returns-then-not-is_usable c = rw (unusable c.is_usable.ensures c.if-not-is_usable.true) refl

pub loop-i-init : goal.loop-i-init
loop-i-init c = sym (count_none (enters (candidates_in (shelf c.args.t) c.args.kept.now)))

pub overflow_add-n : goal.overflow_add-n
overflow_add-n c =
    let u = known c.is_usable.ensures c.if-not-is_usable.false in
    omega (arith, c.loop-i.invariant, count-le c.loop-i.i (enters (candidates_in (shelf c.args.t) c.args.kept.now)), c.servers-i-end.ensures.1, u.high)

pub loop-i-preserved : goal.loop-i-preserved
loop-i-preserved c =
    let p = enters (candidates_in (shelf c.args.t) c.args.kept.now) in
    elim c.if-entry.branch [
      | then-entry w ↦ omega (arith, c.loop-i.invariant, count_in c.loop-i.i p (sym c.entry.ensures ∙ w.if-entry.true))
      | else-entry w ↦ omega (arith, c.loop-i.invariant, count_out c.loop-i.i p (sym c.entry.ensures ∙ w.if-entry.false))
    ]

pub returns : goal.returns
unfolding listed_count
returns c =
    let a = c.args in
    let e : c.loop-i.i ≡ (shelf a.t).servers = omega arith in
    rw (is-usable c.is_usable.ensures c.if-not-is_usable.false)
    (c.loop-i.invariant ∙ ap (λ (k : ℕ). count_to k (enters (candidates_in (shelf a.t) a.kept.now))) e
    ∙ sym (gather-count (candidates_in (shelf a.t) a.kept.now) (shelf a.t).servers))
