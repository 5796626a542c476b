-- The marks that are not 0 are those of the servers that replied. Nothing is assumed.
use Rattle.std.proofs.Common.{◌≡◌, ◌∙◌, sym, refl, ℕ, zero, suc, ◌+◌, ◌≤◌, List, not, eqb, length, take, arith, rules, Bool, true, false, get_or, add-one}
use Rattle.std.specs.List.{count_by}
use Rattle.std.proofs.lemmas.List.Sums.{count_by_more_yes, count_by_more_no}
use Rattle.protocol.specs.Rules.{count_to}
use Rattle.protocol.specs.View.{marked}
use Rattle.decide.proofs.Counted.{count_in, count_out, count_none}
use Rattle.client.proofs.rounds.count.Goals as goal

-- so many of the first marks are those of servers that replied
marks_counted : (ms : List ℕ) (n : ℕ) → n ≤ length ms → count_by (λ (m : ℕ). not (eqb m 0)) (take n ms) ≡ count_to n (marked ms)
unfolding marked
marks_counted ms zero h = sym (count_none (marked ms))
marks_counted ms (suc n) h = rw (← add-one n) (go (not (eqb (get_or ms n 0) 0)) refl (marks_counted ms n (omega arith)))
  where
    go : (b : Bool) → not (eqb (get_or ms n 0) 0) ≡ b → count_by (λ (m : ℕ). not (eqb m 0)) (take n ms) ≡ count_to n (marked ms)
        → count_by (λ (m : ℕ). not (eqb m 0)) (take (n + 1) ms) ≡ count_to (n + 1) (marked ms)
    go true e f = omega (arith, f, count_by_more_yes (λ (m : ℕ). not (eqb m 0)) ms n 0 (omega arith) e, count_in n (marked ms) e)
    go false e f = omega (arith, f, count_by_more_no (λ (m : ℕ). not (eqb m 0)) ms n 0 (omega arith) e, count_out n (marked ms) e)

pub returns : goal.returns
returns c =
    let z : length c.args.marks ≡ 13 = search rules in
    let e : c.count.result ≡ count_by (λ (m : ℕ). not (eqb m 0)) (take c.args.n c.args.marks) = search rules in
    e ∙ marks_counted c.args.marks c.args.n (omega (arith, z, c.requires))
