use Rattle.std.proofs.Common.{◌≡◌, take}
use Rattle.hmac.specs.Hmac.{masked_of}
use Rattle.hmac.proofs.masked.Given as goal

-- the array is the block of the key's first i bytes
abbrev pub invariant-loop-i : goal.invariant-loop-i
invariant-loop-i l = l.out ≡ masked_of (take l.i l.fn.key) l.x
