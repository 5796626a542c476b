-- Entry k of the table, which is the logarithm of k + 1, stands at k + 1, and 0 before them.
use Rattle.std.proofs.Common.{◌≡◌, ℕ, zero, suc, ◌+◌, ◌<◌, List, length, get_or, refl, ◌∙◌, arith}
use borrow.Author.Count.{below_more}
use native.Mathlib.Numerals.{add-one}
use lib.ListN.{set, length-set, length-replicate}
use lib.Seq.{get_or-set_same, get_or-set_other}
use Rattle.gf256.specs.Gf.{power}
use Rattle.gf256.proofs.Tables.{logs, logs_at, logs-lt}
use Rattle.gf256.proofs.logarithms.logs.Goals as goal

pub loop-k-init : goal.loop-k-init
loop-k-init c = record { size = length-replicate {A = ℕ} 256 0; first = refl; each = λ j h. absurd (omega arith) }

pub loop-k-preserved : goal.loop-k-preserved
unfolding logs
loop-k-preserved c =
    let out = c.loop-k.out in
    let k = c.loop-k.k in
    let v : ℕ = get_or logs k 0 in
    let p = c.loop-k.invariant in
    record {
      size = length-set out (k + 1) v ∙ p.size;
      first = get_or-set_other out (k + 1) 0 v 0 (λ z. omega arith) ∙ p.first;
      each =
          below_more (λ (j : ℕ). get_or (set out (k + 1) v) (j + 1) 0 ≡ get_or logs j 0) k
          (λ j l. get_or-set_other out (k + 1) (j + 1) v 0 (λ z. omega arith) ∙ p.each j l)
          (get_or-set_same out (k + 1) v 0 (omega (arith, p.size)));
    }

-- the rule, of all of them
rule : (out : List ℕ) → ((j : ℕ) → j < 255 → get_or out (j + 1) 0 ≡ get_or logs j 0) → (a : ℕ) → 0 < a → a < 256
    → (get_or out a 0 < 255) × (power 3 (get_or out a 0) ≡ a)
rule out each zero h b = absurd (omega arith)
rule out each (suc k) h b =
    let e : get_or out (suc k) 0 ≡ get_or logs k 0 = rw add-one at (each k (omega arith)) in
    rw e (logs-lt k (omega arith), logs_at k (omega arith))

pub returns : goal.returns
returns c = (rule c.loop-k.out (λ j h. c.loop-k.invariant.each j (omega arith)), c.loop-k.invariant.first)
