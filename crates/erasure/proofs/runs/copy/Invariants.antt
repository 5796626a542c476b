use Rattle.std.proofs.Common.{◌≡◌, ℕ, ◌<◌, length, get_or}
use Rattle.erasure.proofs.runs.copy.Given as goal

-- the first i bytes are those of from
abbrev pub invariant-loop-i : goal.invariant-loop-i
invariant-loop-i l = record { size : length l.to ≡ length l.initial.to; each : (k : ℕ) → k < l.i → get_or l.to k 0 ≡ get_or l.from k 0 }
