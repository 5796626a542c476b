-- Run after run is written behind the last; a run begins at a multiple of its length.
use Rattle.std.proofs.Common.{◌≡◌, ◌≤◌, ◌+◌, ◌-◌, ◌*◌, ℕ, List, length, get_or, min, refl, sym, ap, subst, ◌∙◌, arith}
use Rattle.erasure.specs.Lanes.{RunWritten, weighed_of}
use Rattle.erasure.proofs.Lists.{length-table, get_or-table, written_first, written_step, part_long}
use Rattle.erasure.proofs.Rebuilt.{byte_of, run_byte}
use Rattle.erasure.proofs.runs.write_runs.Goals as goal

pub loop-i-preserved : goal.loop-i-preserved
loop-i-preserved c =
    let l = c.loop-i in
    let runs = c.args.runs in
    let k = runs.count in
    let f = runs.size in
    let from : ℕ = l.i * f in
    let m = c.min-m.result in
    let row = c.row_at-row in
    let g : ℕ → ℕ = byte_of k f c.args.rows c.args.fragments.now runs.starts in
    let fits : from + m ≤ length l.out = omega (arith, l.invariant.long, c.requires.2) in
    let long = part_long l.out _ from m (from + m - from) refl (omega arith) fits in
    written_step c.args.out.now l.out c.run.new.out from m _ _ _ g l.invariant (omega (arith, c.if-n-from.false))
    (ap length c.run.ensures ∙ length-table _ _ ∙ long) (omega arith) fits
    (λ q h.
    let at : l.i * f + q ≡ from + q = omega arith in
    ap (λ (x : List ℕ). get_or x q 0) c.run.ensures ∙ get_or-table _ _ q 0 (omega (arith, long, h))
    ∙ run_byte k f l.i q c.args.rows row.result c.args.fragments.now runs.starts (omega arith) row.ensures ∙ ap g at)
    (omega arith)

-- past the content
pub returns-then-n-from : goal.returns-then-n-from
unfolding weighed_of
returns-then-n-from c =
    let runs = c.args.runs in
    let g : ℕ → ℕ = byte_of runs.count runs.size c.args.rows c.args.fragments.now runs.starts in
    let all : min c.args.n (c.loop-i.i * runs.size) ≡ c.args.n = omega (arith, c.if-n-from.true) in
    written_first c.args.out.now c.loop-i.out c.args.n g c.requires.2
    (subst (λ (x : ℕ). RunWritten c.args.out.now c.loop-i.out 0 x g) all c.loop-i.invariant)

pub returns-after-loop-i : goal.returns-after-loop-i
unfolding weighed_of
returns-after-loop-i c =
    let runs = c.args.runs in
    let g : ℕ → ℕ = byte_of runs.count runs.size c.args.rows c.args.fragments.now runs.starts in
    let i = c.loop-i.i in
    let end : i ≡ runs.count = omega arith in
    let all : min c.args.n (i * runs.size) ≡ c.args.n = rw end (omega (arith, c.requires.1)) in
    written_first c.args.out.now c.loop-i.out c.args.n g c.requires.2
    (subst (λ (x : ℕ). RunWritten c.args.out.now c.loop-i.out 0 x g) all c.loop-i.invariant)
