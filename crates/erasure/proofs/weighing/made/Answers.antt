-- Row after row is written behind the last; each is that of its run.
use Rattle.std.proofs.Common.{◌≡◌, ◌<◌, ◌*◌, ℕ, length, List, get_or, replicate, refl, ap, subst, ◌∙◌, arith, rules}
use mir.Val.{Fits}
use mir.Syntax.{w8}
use lib.Seq.{length-take-le, get_or-take}
use Rattle.erasure.specs.System.{width}
use Rattle.erasure.specs.Lanes.{RunWritten}
use Rattle.erasure.specs.Weights.{rows_room}
use Rattle.erasure.proofs.Lists.{put_written}
use Rattle.erasure.proofs.RowsMade.{row_below, made_at, row_more, rows_made}
use Rattle.erasure.proofs.Standing.{place-stands, one_missing}
use Rattle.erasure.proofs.weighing.made.Goals as goal

pub loop-i-preserved : goal.loop-i-preserved
loop-i-preserved c =
    let l = c.loop-i in
    let k = c.args.k in
    let row = c.row_of-row.result in
    let copied = c.copy_from_slice.ensures in
    let wide : length row ≡ width = search rules in
    row_more k l.i c.system_of-a.result c.places_of-places.result c.args.points.now row (replicate rows_room 0) l.out _ (omega arith) c.row_of-row.ensures
    l.invariant
    (put_written l.out c.copy_from_slice.new.self (l.i * k) k _ (λ j. get_or row j 0) (ap length copied.after ∙ length-take-le k row (omega arith)) (omega arith)
    (omega (arith, row_below k l.i c.requires.1 (omega arith), l.invariant.long))
    (λ j h. ap (λ (r : List ℕ). get_or r j 0) copied.after ∙ get_or-take k row j 0 h))

pub returns : goal.returns
returns c =
    let k = c.args.k in
    let pre = c.requires in
    let points = c.args.points.now in
    let a = c.system_of-a in
    let places = c.places_of-places in
    let given-small : (j : ℕ) → get_or c.args.given j 0 < 256 = λ j. (let f : Fits w8 (get_or c.args.given j 0) = search rules in f.fits) in
    let long : length c.args.given ≡ width = search rules in
    let wide : length places.result ≡ width = search rules in
    let full = length-take-le k c.args.given (omega (arith, long, pre.1)) in
    let end : c.loop-i.i ≡ k = omega arith in
    rows_made k a.result places.result points c.args.given (replicate rows_room 0) c.loop-i.out refl pre.0 pre.1 (omega (arith, long, pre.1))
    pre.3 given-small (λ j. (c.type_inv.points j).fits) (place-stands k points c.args.given places.result full places.ensures)
    (λ i h past. a.ensures.solved (one_missing k places.result (omega (arith, wide, pre.1)) i h past))
    (subst (λ (x : ℕ). RunWritten (replicate rows_room 0) c.loop-i.out 0 (x * k) (made_at k a.result places.result points)) end c.loop-i.invariant)
