-- The arguments, the highest rank that stays, and what is found among its slots, one after the other. Nothing is assumed.
use Rattle.std.proofs.Common.{◌≡◌, ◌∙◌, sym, ap, subst, ℕ, List, length, arith, add-one}
use Rattle.std.proofs.lemmas.Result.{err_from_is_err_and}
use Rattle.std.proofs.Math.Option.{none}
use Rattle.cluster.specs.Refusals.{refusal_number}
use Rattle.cluster.specs.Config.{shelf}
use Rattle.decide.specs.declared.leading.Choice.{Choice}
use Rattle.decide.specs.Decided.{Decided, decision_answer}
use Rattle.decide.specs.declared.Decision.TheVariants as decisions
use Rattle.decide.specs.Steps.{top_at, first_proven, Hit}
use Rattle.decide.proofs.Outcomes.{decided-refused, decided-blank, decided_none, hit-small, hit_full, hit_rises, decided-found}
use Rattle.decide.proofs.Arguments.{allowed}
use Rattle.erasure.proofs.Refused.{refused-number}
use Rattle.decide.proofs.decide.Goals as goal

-- the answer and the output, out of what is decided
told : {d r : Decided} → d ≡ r → (r.answer ≡ d.answer) × (r.output ≡ d.output)
told e = (sym (ap (λ (x : Decided). x.answer) e), sym (ap (λ (x : Decided). x.output) e))

-- what was found, at the rank of the definition
hit : (t : ℕ) (marks kept : List ℕ) (key : ℕ) (r : Choice) → key ≡ top_at t marks kept (shelf t).servers → Hit t marks kept key r
    → Hit t marks kept (top_at t marks kept (shelf t).servers) r
hit t marks kept key r e k = subst (λ (x : ℕ). Hit t marks kept x r) e k

pub returns-in_err-decide_refusal : goal.returns-in_err-decide_refusal
returns-in_err-decide_refusal c =
    let a = c.args in
    let p = err_from_is_err_and c.from_residual.result c.from_residual.ensures.1 in
    rw (p.1, p.2) (told (decided-refused a.t a.marks a.kept.now a.out.now (refusal_number c.in_err-decide_refusal.field-0.0)
    c.in_err-decide_refusal.ensures (refused-number c.in_err-decide_refusal.field-0.0)))

pub overflow_add-result : goal.overflow_add-result
overflow_add-result c =
    let a = c.args in
    let u = allowed a.t a.kept.now (length a.out.now) (sym (c.in_ok-decide_refusal.ensures)) in
    let key : ℕ = top_at a.t a.marks a.kept.now (shelf a.t).servers in
    omega (
      arith,
      hit-small a.t a.marks a.kept.now u.0 key c.in-Some.choice (hit a.t a.marks a.kept.now c.top-key.result c.in-Some.choice
          c.top-key.ensures c.in-Some.ensures),
    )

pub top-key-requires : goal.top-key-requires
top-key-requires c = (allowed c.args.t c.args.kept.now (length c.args.out.now) (sym (c.in_ok-decide_refusal.ensures))).0

pub returns-then-key-le-BLANK_RANK : goal.returns-then-key-le-BLANK_RANK
returns-then-key-le-BLANK_RANK c =
    let a = c.args in
    told (decided-blank a.t a.marks a.kept.now a.out.now (sym c.in_ok-decide_refusal.ensures) (λ k. (c.type_inv.kept k).fits)
    (omega (arith, c.top-key.ensures)))

pub find-requires : goal.find-requires
find-requires c = (allowed c.args.t c.args.kept.now (length c.args.out.now) (sym (c.in_ok-decide_refusal.ensures))).0

pub returns-in_default : goal.returns-in_default
returns-in_default c =
    let a = c.args in
    let n : first_proven a.t a.marks a.kept.now (top_at a.t a.marks a.kept.now (shelf a.t).servers) (shelf a.t).servers ≡ none =
    ap (λ (x : ℕ). first_proven a.t a.marks a.kept.now x (shelf a.t).servers) (sym c.top-key.ensures) ∙ c.in_default.ensures in
    told (decided_none a.t a.marks a.kept.now a.out.now (sym c.in_ok-decide_refusal.ensures) (λ k. (c.type_inv.kept k).fits)
    (omega (arith, c.top-key.ensures)) n)

pub rebuild-count-requires : goal.rebuild-count-requires
rebuild-count-requires c =
    let a = c.args in
    let u = allowed a.t a.kept.now (length a.out.now) (sym (c.in_ok-decide_refusal.ensures)) in
    let r = c.in-Some.choice in
    let key : ℕ = top_at a.t a.marks a.kept.now (shelf a.t).servers in
    let k = hit a.t a.marks a.kept.now c.top-key.result r c.top-key.ensures c.in-Some.ensures in (
      u.0,
      hit-small a.t a.marks a.kept.now u.0 key r k,
      hit_full a.t a.marks a.kept.now u.0 key r k,
      hit_rises a.t a.marks a.kept.now u.0 key r k,
      u.1,
    )

pub returns : goal.returns
returns c =
    let a = c.args in
    let u = allowed a.t a.kept.now (length a.out.now) (sym (c.in_ok-decide_refusal.ensures)) in
    let r = c.in-Some.choice in
    let k = hit a.t a.marks a.kept.now c.top-key.result r c.top-key.ensures c.in-Some.ensures in
    let d = told (decided-found a.t a.marks a.kept.now a.out.now (sym c.in_ok-decide_refusal.ensures) (λ k. (c.type_inv.kept k).fits) u.0 r
    (omega (arith, c.top-key.ensures)) k) in
    let w = c.rebuild-count.ensures in
    ((λ i. decision_answer (decisions.Found r.slot (add-one r.group.leader i) (w.0 i))) ∙ d.0, w.1 ∙ d.1)
