-- Lane after lane is written behind the last, and each place holds its sum.
use Rattle.std.proofs.Common.{◌≡◌, ◌<◌, ◌+◌, ◌*◌, ℕ, List, length, get_or, ap, ◌∙◌, arith, rules}
use lib.Seq.{length-take-le, get_or-take}
use Rattle.gf256.specs.Gf.{times}
use Rattle.erasure.specs.System.{entry}
use Rattle.erasure.specs.Lanes.{lane, byte_at, sum_at}
use Rattle.erasure.proofs.Lists.{table_is, written_at, written_step}
use Rattle.erasure.proofs.Sums.{sum_to_ext}
use Rattle.erasure.proofs.lanes.combine.Goals as goal

pub loop-i-preserved : goal.loop-i-preserved
unfolding sum_at
loop-i-preserved c =
    let l = c.loop-i in
    let k = c.args.runs.count in
    let starts = c.args.runs.starts in
    let src = c.args.src.now in
    let q = l.i * lane in
    let n = c.min-n.result in
    let sum = c.lane_sum-sum in
    let copied = c.copy_from_slice in
    let w = l.invariant.written in
    let wide : length sum.result ≡ lane = search rules in
    record {
      room = c.gather.ensures.1;
      written = written_step c.args.out.now l.out copied.new.self q n _ _ _ (sum_at k (λ j. get_or c.args.weights j 0) src starts) w (omega arith)
          (ap length copied.ensures.after ∙ length-take-le n sum.result (omega arith)) (omega arith) (omega (arith, w.long))
          (λ j h.
          let b : j < lane = omega arith in
          ap (λ (x : List ℕ). get_or x j 0) copied.ensures.after ∙ get_or-take n sum.result j 0 h ∙ sum.ensures j b
          ∙ sum_to_ext k (λ m. times (entry c.gather.new.out m j) (get_or c.args.weights m 0))
          (λ m. times (byte_at src starts (q + j) m) (get_or c.args.weights m 0))
          (λ m hm. ap (λ (x : ℕ). times x (get_or c.args.weights m 0)) (c.gather.ensures.0 m hm j b)))
          (omega arith);
    }

pub returns : goal.returns
returns c =
    let w = c.loop-i.invariant.written in
    table_is _ c.loop-i.out _ w.long (λ j h. written_at _ _ _ _ w j (omega arith))
