use Rattle.std.proofs.Common.{◌≡◌}
use Rattle.sha256.specs.Sha256.{hashed}
use Rattle.sha256.proofs.blocks.absorb.Given as goal

-- j blocks are taken in
abbrev pub invariant-loop-j : goal.invariant-loop-j
invariant-loop-j l = l.v ≡ hashed l.fn.h l.j l.m
