-- The mask lets 27 through where the top bit is set.
use Rattle.std.proofs.Common.{ℕ, ◌*◌, ◌%◌, bit_xor, bit_and, ap, ◌∙◌, arith}
use Rattle.gf256.proofs.Doubling.{double_all}
use Rattle.gf256.proofs.double.Goals as goal

pub returns : goal.returns
returns c =
    let a = c.args.a in
    ap (λ (m : ℕ). bit_xor (a * 2 % 256) (bit_and m 27)) c.mask.ensures ∙ double_all a (omega arith)
