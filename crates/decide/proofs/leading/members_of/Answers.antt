-- Slots are passed in order, and each member is put behind those found. Nothing is assumed.
use Rattle.std.proofs.Common.{◌≡◌, refl, ◌∙◌, sym, ap, ℕ, ◌+◌, ◌≤◌, List, length, take, arith, length-set}
use lib.ListN.{length-take}
use Rattle.cluster.specs.Config.{shelf}
use Rattle.decide.specs.Steps.{servers_of_def, agrees_at_def, members_at, Members}
use Rattle.decide.proofs.Counted.{servers_first, servers_in, servers_out}
use Rattle.decide.proofs.leading.members_of.Goals as goal
use Rattle.decide.proofs.leading.members_of.Goals.{then-agrees, else-agrees}

-- as many as are needed
enough : (t : ℕ) (marks kept : List ℕ) (i b : ℕ) (r : List ℕ) (j : ℕ) → j ≤ (shelf t).servers
    → (shelf t).threshold ≡ length (servers_of_def j (agrees_at_def t marks kept i b))
    → take (shelf t).threshold r ≡ servers_of_def j (agrees_at_def t marks kept i b) → Members t marks kept i b r
unfolding members_at
enough t marks kept i b r j h k f =
    let m : take (shelf t).threshold (servers_of_def (shelf t).servers (agrees_at_def t marks kept i b)) ≡ servers_of_def j (agrees_at_def t marks kept i b) =
    ap (λ (x : ℕ). take x (servers_of_def (shelf t).servers (agrees_at_def t marks kept i b))) k ∙ servers_first (agrees_at_def t marks kept i b) j
    (shelf t).servers h in
    record { enough = omega (arith, ap length m, k); these = f ∙ sym m }

pub loop-j-init : goal.loop-j-init
unfolding servers_of_def
loop-j-init c = record { few = omega (arith, c.threshold-k.ensures.1); room = refl; count = refl; these = refl }

pub returns-then-n-k : goal.returns-then-n-k
returns-then-n-k c =
    let q = c.args.sought in
    let p = agrees_at_def q.replied.t q.replied.marks c.args.kept.now q.slot c.args.b in
    let v = c.loop-j.invariant in
    elim c.if-agrees.branch [
      | then-agrees w ↦
          let s = servers_in p c.loop-j.j c.loop-j.n c.loop-j.members v.count v.these (omega (arith, v.few, v.room, c.threshold-k.ensures, c.requires.0.high))
          (sym c.agrees.ensures ∙ w.if-agrees.true) in
          let k : (shelf q.replied.t).threshold ≡ c.loop-j.n + 1 = omega (arith, c.threshold-k.ensures.0, c.if-n-k.true, w.n-is) in
          enough q.replied.t q.replied.marks c.args.kept.now q.slot c.args.b c.if-agrees.members (c.loop-j.j + 1) (omega arith) (k ∙ s.0)
          (rw (k, w.members-is) s.1)
      | else-agrees w ↦ absurd (omega arith)
    ]

pub loop-j-preserved : goal.loop-j-preserved
loop-j-preserved c =
    let q = c.args.sought in
    let p = agrees_at_def q.replied.t q.replied.marks c.args.kept.now q.slot c.args.b in
    let v = c.loop-j.invariant in
    elim c.if-agrees.branch [
      | then-agrees w ↦
          let s = servers_in p c.loop-j.j c.loop-j.n c.loop-j.members v.count v.these (omega (arith, v.few, v.room, c.threshold-k.ensures, c.requires.0.high))
          (sym c.agrees.ensures ∙ w.if-agrees.true) in
          record {
            few = omega arith;
            room = rw w.members-is (length-set c.loop-j.members c.loop-j.n (c.loop-j.j + 1) ∙ v.room);
            count = w.n-is ∙ s.0;
            these = rw (w.n-is, w.members-is) s.1;
          }
      | else-agrees w ↦
          let s = servers_out p c.loop-j.j (sym c.agrees.ensures ∙ w.if-agrees.false) in
          record {
            few = omega arith;
            room = rw w.members-is v.room;
            count = w.n-is ∙ v.count ∙ sym (ap length s);
            these = rw (w.n-is, w.members-is) (v.these ∙ sym s);
          }
    ]

pub returns : goal.returns
unfolding members_at
returns c =
    let q = c.args.sought in
    let p = agrees_at_def q.replied.t q.replied.marks c.args.kept.now q.slot c.args.b in
    let e : c.loop-j.j ≡ (shelf q.replied.t).servers = omega arith in
    omega (
      arith,
      length-take (shelf q.replied.t).threshold (servers_of_def (shelf q.replied.t).servers p),
      c.loop-j.invariant.count,
      c.loop-j.invariant.few,
      ap (λ (x : ℕ). length (servers_of_def x p)) e,
      c.threshold-k.ensures.0,
    )
