-- By the verb. Assumes nothing.
use Rattle.std.proofs.Common.{◌≡◌, ℕ, arith}
use Rattle.drill.proofs.Parsed.{has_verb, no_shelf}
use Rattle.drill.proofs.Turning.{write-fill, step_write, step_read, step-visit, step-blank, step-stop}
use Rattle.drill.proofs.steps.step.Goals as goal

pub unwrap-requires : goal.unwrap-requires
unwrap-requires c = has_verb _ _ c.of.ensures c.requires.1

pub overflow_cast-l-in-Write : goal.overflow_cast-l-in-Write
overflow_cast-l-in-Write c =
    let e : c.args.l.verb ≡ 1 = rw c.in-Write.ensures at c.of.ensures in
    let h = write-fill c.args.l e c.requires.1 in
    omega arith

pub unreachable-requires : goal.unreachable-requires
unreachable-requires c =
    let e : c.args.l.verb ≡ 0 = rw c.in-Shelf.ensures at c.of.ensures in
    let h = no_shelf c.args.l e in
    let k = c.requires.1 in
    let z : ◌≡◌ {A = ℕ} 0 1 = cc in
    omega arith

pub returns-in-Write : goal.returns-in-Write
returns-in-Write c = let e : c.args.l.verb ≡ 1 = rw c.in-Write.ensures at c.of.ensures in rw c.begun.ensures (step_write _ _ _ _ _ e c.write.ensures)

pub returns-in-Read : goal.returns-in-Read
returns-in-Read c = let e : c.args.l.verb ≡ 2 = rw c.in-Read.ensures at c.of.ensures in rw c.begun-in-Read.ensures (step_read _ _ _ _ _ e c.read.ensures)

pub returns-in-Visit : goal.returns-in-Visit
returns-in-Visit c = let e : c.args.l.verb ≡ 3 = rw c.in-Visit.ensures at c.of.ensures in step-visit _ _ _ _ _ e c.visit_line.ensures

pub returns-in-Unlatest : goal.returns-in-Unlatest
returns-in-Unlatest c = let e : c.args.l.verb ≡ 4 = rw c.in-Unlatest.ensures at c.of.ensures in rw c.begun-in-Unlatest.ensures (step-blank _ _ _ _ _ e c.blank_line.ensures)

pub returns-in-Stop : goal.returns-in-Stop
returns-in-Stop c = let e : c.args.l.verb ≡ 5 = rw c.in-Stop.ensures at c.of.ensures in rw c.given_up.ensures (step-stop _ _ _ _ _ e c.stop.ensures)
