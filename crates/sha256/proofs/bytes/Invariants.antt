use Rattle.std.proofs.Common.{◌≡◌, ◌*◌, length, take}
use Rattle.sha256.specs.Sha256.{tab}
use Rattle.sha256.proofs.Quads.{byte_of}
use Rattle.sha256.proofs.bytes.Given as goal

-- the first 4 i bytes are those of i words
abbrev pub invariant-loop-i : goal.invariant-loop-i
invariant-loop-i l = (length l.out ≡ 32) × (take (4 * l.i) l.out ≡ tab (4 * l.i) (byte_of l.h))
