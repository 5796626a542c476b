use Rattle.std.proofs.Common.{◌≡◌, ◌<◌, ℕ, get_or}
use Rattle.gf256.specs.Gf.{times}
use Rattle.erasure.specs.System.{system_row, entry, sum_to}
use Rattle.erasure.proofs.system.sum_rows.Given as goal

abbrev pub invariant-loop-c : goal.invariant-loop-c
invariant-loop-c l = (j : ℕ) → j < system_row → get_or l.sum j 0 ≡ sum_to l.c (λ i. times (get_or l.powers i 0) (entry l.a i j))
