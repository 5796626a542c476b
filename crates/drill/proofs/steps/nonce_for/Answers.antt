-- The number's four bytes over the end of zeros, by computation. Assumes nothing.
use Rattle.std.proofs.Common.{◌≡◌, ℕ, refl, ◌∙◌, replicate, arith}
use Rattle.cluster.specs.Ranges.{key_size}
use Rattle.format.specs.Format.{print4}
use Rattle.format.specs.Reading.{put}
use Rattle.wire.proofs.Put.{placed-wrote}
use Rattle.drill.specs.Steps.{nonce_for_def}
use Rattle.drill.proofs.steps.nonce_for.Goals as goal

number-last : (k : ℕ) → put (replicate key_size 0) 28 (print4 k) ≡ nonce_for_def k
unfolding put nonce_for_def
number-last k = refl

pub returns : goal.returns
returns c = (placed-wrote c.put_number4.ensures (omega arith)).bytes ∙ number-last _
