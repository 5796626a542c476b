-- The weights at z make the sum at each place a value of the polynomial.
use Rattle.std.proofs.Common.{◌≡◌, ℕ, List, length, get_or, take, refl, ap, ◌∙◌, arith, rules}
use lib.Seq.{length-take-le}
use Rattle.erasure.specs.Steps.{fragment_room}
use Rattle.erasure.specs.System.{direct_at}
use Rattle.erasure.specs.Lanes.{sum_at}
use Rattle.erasure.proofs.Lists.{length-table, get_or-table, put_written}
use Rattle.erasure.proofs.Placed.{made}
use Rattle.erasure.proofs.Weighed.{direct}
use Rattle.erasure.proofs.runs.value.Goals as goal

pub returns : goal.returns
returns c =
    let args = c.args in
    let pre = c.requires in
    let runs = args.runs in
    let xs = args.points.now in
    let src = args.src.now in
    let w = c.weights-weights in
    let blank = c.blank-bytes in
    let g : ℕ → ℕ = sum_at runs.count (λ j. get_or w.result j 0) src runs.starts in
    let room : length blank.result ≡ fragment_room = search rules in
    let long : length (take runs.size blank.result) ≡ runs.size = length-take-le runs.size blank.result (omega (arith, room, pre.3)) in
    made runs.count runs.size fragment_room args.z (λ j. get_or w.result j 0) (direct_at runs.count xs args.z) src runs.starts xs blank.result _
    blank.ensures pre.3 (direct runs.count xs (λ j. (c.type_inv.points j).fits) pre.1 pre.2 args.z c.ranges.z.fits) w.ensures
    (λ j. (c.type_inv.src j).fits)
    (put_written blank.result c.combine.new.out 0 runs.size runs.size g
    (ap length c.combine.ensures ∙ length-table _ g ∙ long) refl (omega (arith, room, pre.3))
    (λ i h. ap (λ (l : List ℕ). get_or l i 0) c.combine.ensures ∙ get_or-table _ g i 0 (omega (arith, long, h))))
