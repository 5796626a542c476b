use Rattle.std.proofs.Common.{arith}
use Rattle.wire.proofs.Leaf.{run_past, run_in}
use Rattle.wire.proofs.fields.run_field.Goals as goal

pub returns-then-s-c : goal.returns-then-s-c
returns-then-s-c c = run_past _ (omega arith)

pub returns : goal.returns
returns c = run_in _ (omega arith)
