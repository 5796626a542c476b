-- Raised where it is valid, else left. Assumes nothing.
use Rattle.server.proofs.Repairing.{raised-valid, left_invalid}
use Rattle.server.proofs.repair.raise_valid.Goals as goal

pub returns-then-valid : goal.returns-then-valid
returns-then-valid c =
    raised-valid c.args.memory.now c.args.key c.args.opened c.args.candidate.now c.valid.ensures c.if-valid.true c.raise.ensures

pub returns-else-valid : goal.returns-else-valid
returns-else-valid c = left_invalid c.args.memory.now c.args.key c.args.opened c.args.candidate.now c.valid.ensures c.if-valid.false
