-- Four pieces are put into zeros, one behind the other.
use Rattle.std.proofs.Common.{◌≡◌, ◌+◌, ◌-◌, ◌*◌, ◌/◌, length, refl, arith}
use Rattle.sha256.proofs.Padding.{tail-made}
use Rattle.sha256.proofs.tail.Goals as goal

pub returns : goal.returns
returns c =
    let a = c.args in
    let i = length a.rest.now in
    let k = i + length a.d.now in
    let at = (k + 8) / 64 * 64 + 56 in
    let e : k - i ≡ length a.d.now = omega arith in
    let f : at + 8 - at ≡ 8 = omega arith in
    cc (
      tail-made a.rest.now a.d.now a.n i k at refl refl (omega arith) (omega arith) refl,
      c.copy_from_slice.ensures.after,
      c.copy_from_slice-2.ensures.after,
      c.copy_from_slice-3.ensures.after,
      c.to_be_bytes.ensures,
    )
