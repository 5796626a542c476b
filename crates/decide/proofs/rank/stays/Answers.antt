-- The lower replies are counted. Nothing is assumed.
use Rattle.std.proofs.Common.{◌≡◌, ◌∙◌, sym, ap, ℕ, ◌-◌, ◌<◌, ltb, arith}
use Rattle.cluster.specs.Config.{shelf}
use Rattle.cluster.specs.Ranges.{most_servers}
use Rattle.protocol.specs.Rules.{count_to}
use Rattle.protocol.specs.View.{marked, replies_in}
use Rattle.protocol.proofs.Marks.{count-le}
use Rattle.decide.specs.Steps.{ranks_below, stays}
use Rattle.decide.proofs.Ranks.{below-slot}
use Rattle.decide.proofs.Counted.{count_in, count_out, count_none, quorum_of}
use Rattle.decide.proofs.rank.stays.Goals as goal
use Rattle.decide.proofs.rank.stays.Goals.{then-is_lower, else-is_lower}

pub loop-j-init : goal.loop-j-init
loop-j-init c =
    let a = c.args in
    sym (count_none (ranks_below (marked a.replied.marks) (replies_in (shelf a.replied.t) a.replied.marks a.kept.now) a.key))

pub overflow_add-n : goal.overflow_add-n
overflow_add-n c =
    let a = c.args in
    omega (
      arith,
      c.loop-j.invariant,
      count-le c.loop-j.j (ranks_below (marked a.replied.marks) (replies_in (shelf a.replied.t) a.replied.marks a.kept.now) a.key),
      c.servers-s.ensures.1,
      c.requires.high,
    )

pub loop-j-preserved : goal.loop-j-preserved
loop-j-preserved c =
    let a = c.args in
    let p = ranks_below (marked a.replied.marks) (replies_in (shelf a.replied.t) a.replied.marks a.kept.now) a.key in
    let j : c.loop-j.j < most_servers = omega (arith, c.servers-s.ensures.1, c.requires.high) in
    let b = below-slot (shelf a.replied.t) a.kept.now a.replied.marks a.key c.loop-j.j j in
    elim c.if-is_lower.branch [
      | then-is_lower w ↦ omega (arith, c.loop-j.invariant, count_in c.loop-j.j p (b ∙ sym c.is_lower.ensures ∙ w.if-is_lower.true))
      | else-is_lower w ↦ omega (arith, c.loop-j.invariant, count_out c.loop-j.j p (b ∙ sym c.is_lower.ensures ∙ w.if-is_lower.false))
    ]

pub returns : goal.returns
unfolding stays
returns c =
    let a = c.args in
    let p = ranks_below (marked a.replied.marks) (replies_in (shelf a.replied.t) a.replied.marks a.kept.now) a.key in
    let e : c.loop-j.j ≡ (shelf a.replied.t).servers = omega (arith, c.servers-s.ensures.0) in
    let n : c.loop-j.n ≡ count_to (shelf a.replied.t).servers p = c.loop-j.invariant ∙ ap (λ (k : ℕ). count_to k p) e in
    ap (λ (x : ℕ). ltb x (c.servers-s.result - a.replied.t)) n
    ∙ ap (λ (x : ℕ). ltb (count_to (shelf a.replied.t).servers p) x) (quorum_of a.replied.t c.servers-s.result c.servers-s.ensures.1)
