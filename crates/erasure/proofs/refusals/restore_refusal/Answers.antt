-- The weights' tests come first, and then those of lengths.
use Rattle.std.proofs.Common.{length, sym, ◌∙◌}
use native.Mathlib.Nat.{suc-ne-zero}
use Rattle.std.proofs.lemmas.Result.{err_from_is_err_and}
use Rattle.erasure.specs.Steps.{argument_checks, length_checks}
use Rattle.erasure.specs.Weights.{weights_checks}
use Rattle.erasure.proofs.Refused.{first_of_first, first_of_second, refused-number}
use Rattle.erasure.proofs.WeightTests.{named}
use Rattle.erasure.proofs.refusals.restore_refusal.Goals as goal

pub returns-in_err-weights_refusal : goal.returns-in_err-weights_refusal
unfolding argument_checks weights_checks
returns-in_err-weights_refusal c =
    let a = c.args in
    let e = c.in_err-weights_refusal.ensures in
    let p = err_from_is_err_and c.from_residual.result c.from_residual.ensures.1 in
    rw (p.1, p.2)
    (e ∙ sym (first_of_first (weights_checks a.t a.servers.now) (length_checks a.t a.n (length a.servers.now) a.given a.room)
    (λ q. refused-number _ (e ∙ q))))

pub lengths_refusal-requires : goal.lengths_refusal-requires
lengths_refusal-requires c = (named c.args.t c.args.servers.now (sym c.in_ok-weights_refusal.ensures)).faults

pub returns : goal.returns
unfolding argument_checks weights_checks
returns c =
    let a = c.args in
    c.lengths_refusal.ensures
    ∙ sym (first_of_second (weights_checks a.t a.servers.now) (length_checks a.t a.n (length a.servers.now) a.given a.room)
    (suc-ne-zero 2, (suc-ne-zero 3, tt)) (sym c.in_ok-weights_refusal.ensures))
