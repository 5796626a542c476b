-- A decision in document 01's numbers determines which one it is, and a refusal's which one: the table has an inverse, by the result. Assumes nothing.
use Rattle.std.specs.Prelude.{Result, Ok, Err}
use mathlib.Core.Path.{◌≡◌, refl, sym, ap, ◌∙◌}
use mathlib.Core.Bool.{cond}
use Prim.Native.Nat.{◌≤◌}
use native.Mathlib.Omega.{arith}
use lib.Dec.{eqb}
use Rattle.cluster.specs.declared.Refusal.{Refusal}
use Rattle.cluster.specs.Refusals.{refusal_number}
use Rattle.protocol.specs.declared.Taken.{Taken}
use Rattle.protocol.specs.Answers.{refused_answer}
use Rattle.protocol.proofs.Told.{taken_injective}
use Rattle.decide.specs.declared.Decision.{Decision}
use Rattle.decide.specs.declared.Decision.TheVariants as decisions
use Rattle.decide.specs.Decided.{Verdict, decision_answer, decision_told}

decision_by : Verdict → Decision
decision_by v =
    let n = v.result in
    cond (eqb n (decision_answer decisions.Wait).result) decisions.Wait (cond (eqb n (decision_answer decisions.Blank).result) decisions.Blank
    (decisions.Found v.slot v.server v.length))

decision_back : (x : Decision) → decision_by (decision_answer x) ≡ x
unfolding decision_by
decision_back decisions.Wait = refl
decision_back decisions.Blank = refl
decision_back (decisions.Found i b n) = refl

-- a decision's result is none of a refusal's
few : (x : Decision) → (decision_answer x).result ≤ 3
few decisions.Wait = omega arith
few decisions.Blank = omega arith
few (decisions.Found i b n) = omega arith

same-refusal : (u v : Refusal) → ◌≡◌ {A = Result Taken Refusal} (Err u) (Err v) → ◌≡◌ {A = Result Decision Refusal} (Err u) (Err v)
same-refusal u v e = let f : u ≡ v = cc in ap Err f

pub decision_injective : (x y : Result Decision Refusal) → decision_told x ≡ decision_told y → x ≡ y
decision_injective (Ok x) (Ok y) e = ap Ok (sym (decision_back x) ∙ ap decision_by e ∙ decision_back y)
decision_injective (Ok x) (Err v) e = absurd (omega (arith, few x, ap (λ (z : Verdict). z.result) e))
decision_injective (Err u) (Ok y) e = absurd (omega (arith, few y, ap (λ (z : Verdict). z.result) e))
decision_injective (Err u) (Err v) e =
    let n : refusal_number u ≡ refusal_number v = omega (arith, ap (λ (z : Verdict). z.result) e) in
    same-refusal u v (taken_injective (Err u) (Err v) (ap refused_answer n))
