-- None stored, above all stamps, the highest of them, or searched for by its bytes. Assumes nothing.
use Rattle.server.proofs.Finding.{find_none, find-above, find-highest}
use Rattle.server.proofs.memory.find_ranked.Goals as goal

pub returns-in_err-top : goal.returns-in_err-top
returns-in_err-top c =
    rw c.from_residual.ensures (find_none c.args.memory.now c.args.opened c.args.bytes.now c.part-stamp.ensures c.in_err-top.was)

pub returns-then-top-key : goal.returns-then-top-key
returns-then-top-key c =
    find-above c.args.memory.now c.args.opened c.args.bytes.now c.part-stamp.ensures c.in_ok-top.was c.requires c.if-top-key.true

pub returns-then-stands_at : goal.returns-then-stands_at
returns-then-stands_at c =
    find-highest c.args.memory.now c.args.opened c.args.bytes.now c.part-stamp.ensures c.in_ok-top.was c.stands_at.ensures c.if-stands_at.true
