-- Refused: nothing is written. Accepted: what the rows weigh.
use Rattle.std.proofs.Common.{◌≡◌, ◌≤◌, ◌*◌, ◌++◌, ℕ, List, length, drop, sym, ap, subst, ◌∙◌, arith}
use Rattle.std.proofs.lemmas.Result.{err_from_is_err_and}
use Rattle.erasure.specs.Fragments.{fragment_size_def}
use Rattle.erasure.specs.Steps.{fragment_room}
use Rattle.erasure.specs.Weights.{weighed_refusal_def, weighed_bytes}
use Rattle.erasure.proofs.Laws.{runs_cover}
use Rattle.erasure.proofs.Answers.{size_fits}
use Rattle.erasure.proofs.Chosen.{threshold-is}
use Rattle.erasure.proofs.Refused.{refused-number}
use Rattle.erasure.proofs.WeightTests.{Sums, sums, weighed-refused, weighed-accepted}
use Rattle.erasure.proofs.restore_weighed.Goals as goal

pub returns-in_err-weighed_refusal : goal.returns-in_err-weighed_refusal
returns-in_err-weighed_refusal c =
    let a = c.args in
    let p = err_from_is_err_and c.from_residual.result c.from_residual.ensures.1 in
    rw (p.1, p.2)
    (sym (weighed-refused a.t a.length a.rows a.fragments.now a.out.now _ c.in_err-weighed_refusal.ensures (refused-number _)))

-- what is known of arguments that are not refused
passed : (t n : ℕ) (fragments out : List ℕ) → 0 ≡ weighed_refusal_def t n (length fragments) (length out) → Sums t n (length fragments) (length out)
passed t n fragments out e = sums t n (length fragments) (length out) (sym e)

pub threshold_of-k-requires : goal.threshold_of-k-requires
threshold_of-k-requires c = (passed c.args.t c.args.length c.args.fragments.now c.args.out.now c.in_ok-weighed_refusal.ensures).faults.1

pub size-requires : goal.size-requires
size-requires c =
    let is = threshold-is c.args.t c.threshold_of-k.result c.threshold_of-k.ensures in
    let ok = passed c.args.t c.args.length c.args.fragments.now c.args.out.now c.in_ok-weighed_refusal.ensures in
    (omega (arith, is), omega (arith, is, ok.faults.1), ok.bytes)

pub rebuild_weighed-requires : goal.rebuild_weighed-requires
rebuild_weighed-requires c =
    let k = c.threshold_of-k in
    let n = c.args.length in
    let is = threshold-is c.args.t k.result k.ensures in
    let ok = passed c.args.t n c.args.fragments.now c.args.out.now c.in_ok-weighed_refusal.ensures in (
      omega (arith, is, ok.faults.1),
      c.size.ensures,
      subst (λ (x : ℕ). x ≤ fragment_room) (sym c.size.ensures) (size_fits k.result n (omega (arith, is, ok.faults.0)) ok.bytes),
      subst (λ (x : ℕ). n ≤ k.result * x) (sym c.size.ensures) (runs_cover k.result n (omega (arith, is))),
      omega (arith, ok.bytes, ok.fits),
      ok.whole ∙ sym (ap (λ (x : ℕ). k.result * x) c.size.ensures ∙ ap (λ (x : ℕ). x * fragment_size_def x n) k.ensures),
    )

pub returns : goal.returns
returns c =
    let a = c.args in
    ap (λ (l : List ℕ). (record { number = 0; count = a.length }, l))
    (c.rebuild_weighed.ensures
    ∙ ap (λ (x : ℕ). weighed_bytes x a.length a.rows a.fragments.now ++ drop a.length a.out.now) c.threshold_of-k.ensures)
    ∙ sym (weighed-accepted a.t a.length a.rows a.fragments.now a.out.now (sym c.in_ok-weighed_refusal.ensures))
