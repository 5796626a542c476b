-- The write where it is higher or the first, else top as it is. Assumes nothing.
use Rattle.std.proofs.Common.{refl, sym}
use Rattle.server.specs.Reads.{raised_top}
use Rattle.server.proofs.Finding.{raised-higher, raised-same}
use Rattle.server.proofs.memory.raised.Goals as goal

pub returns-in-Some : goal.returns-in-Some
returns-in-Some c = rw c.in-Some.is (sym (raised-same c.in-Some.top c.args.key c.args.at c.if-key-top.true))

pub returns-in_default : goal.returns-in_default
returns-in_default c = rw c.in-Some.is (sym (raised-higher c.in-Some.top c.args.key c.args.at c.if-key-top.false))

pub returns-in_default-2 : goal.returns-in_default-2
unfolding raised_top
returns-in_default-2 c = rw c.in_default.is refl
