-- By the verb. Assumes nothing.
use mathlib.Core.Logic.{⊎_elim}
use Rattle.std.proofs.Common.{◌≡◌, sym}
use Rattle.drill.specs.Sheet.{is_step_def}
use Rattle.drill.proofs.Parsed.{no-step}
use Rattle.drill.proofs.lines.is_step.Goals as goal

pub returns-in_default : goal.returns-in_default
returns-in_default c = sym (no-step _ c.in_default.ensures)

pub returns-in-Write : goal.returns-in-Write
unfolding is_step_def
returns-in-Write c = let e : c.args.l.verb ≡ 1 = rw c.in-Write.is at c.in-Some.ensures in rw e c.is_write.ensures

pub returns-in-Read : goal.returns-in-Read
unfolding is_step_def
returns-in-Read c =
    ⊎_elim (λ q. let e : c.args.l.verb ≡ 2 = rw q at c.in-Some.ensures in rw e c.is_alone.ensures)
    (λ q. let e : c.args.l.verb ≡ 5 = rw q at c.in-Some.ensures in rw e c.is_alone.ensures) c.in-Read.is

pub returns-in-Visit : goal.returns-in-Visit
unfolding is_step_def
returns-in-Visit c = let e : c.args.l.verb ≡ 3 = rw c.in-Visit.is at c.in-Some.ensures in rw e c.no_content.ensures

pub returns-in-Unlatest : goal.returns-in-Unlatest
unfolding is_step_def
returns-in-Unlatest c = let e : c.args.l.verb ≡ 4 = rw c.in-Unlatest.is at c.in-Some.ensures in rw e c.is_blanking.ensures

pub returns-in-Shelf : goal.returns-in-Shelf
unfolding is_step_def
returns-in-Shelf c = let e : c.args.l.verb ≡ 0 = rw c.in-Shelf.is at c.in-Some.ensures in rw e
