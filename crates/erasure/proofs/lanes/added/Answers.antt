-- At each place the mask lets x through, or 0.
use Rattle.std.proofs.Common.{get_or, ap, ◌∙◌, arith, rules}
use mir.Val.{Fits}
use mir.Syntax.{w8}
use Rattle.std.specs.Int.Bits.{bit_xor, bit_and}
use Rattle.gf256.proofs.Doubling.{masked}
use Rattle.erasure.specs.Lanes.{bit_of}
use Rattle.erasure.proofs.Horner.{bit-lt}
use Rattle.erasure.proofs.lanes.added.Goals as goal

pub returns : goal.returns
returns c i h =
    let args = c.args in
    let x = get_or args.x i 0 in
    let f : Fits w8 x = search rules in
    c.loop-i.invariant.each i (omega arith)
    ∙ ap (bit_xor (get_or args.sum i 0)) (ap (bit_and x) c.mask-m.ensures ∙ masked (bit_of args.w args.b) x (bit-lt args.w args.b) f.fits)
