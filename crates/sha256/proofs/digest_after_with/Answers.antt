-- A block came before the message, and the digest ends it.
use Rattle.std.proofs.Common.{rules, ◌≡◌, ℕ, ◌+◌, ◌++◌, length, arith, append_assoc, length-append}
use Rattle.sha256.specs.Sha256.{padding}
use Rattle.sha256.specs.FirstBlock.{digest_after_def}
use Rattle.sha256.proofs.digest_after_with.Goals as goal

pub returns : goal.returns
unfolding digest_after_def
returns c =
    let m = c.args.m.now in
    let d = c.args.d in
    let n : ℕ = 64 + length m + 32 in
    let l : length d ≡ 32 = search rules in
    let e : 64 + length (m ++ d) ≡ n = omega (arith, length-append m d) in
    cc (append_assoc m d (padding n))
