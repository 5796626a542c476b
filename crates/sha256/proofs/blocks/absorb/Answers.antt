use Rattle.std.proofs.Common.{refl, add-one}
use Rattle.sha256.specs.Sha256.{hashed}
use Rattle.sha256.proofs.blocks.absorb.Goals as goal

pub loop-j-init : goal.loop-j-init
unfolding hashed
loop-j-init c = refl

pub loop-j-preserved : goal.loop-j-preserved
unfolding hashed
loop-j-preserved c = rw add-one (cc)
