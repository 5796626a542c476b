use Rattle.std.proofs.Common.{◌*◌, min}
use Rattle.erasure.specs.Lanes.{RunWritten}
use Rattle.erasure.proofs.Rebuilt.{byte_of}
use Rattle.erasure.proofs.runs.write_runs.Given as goal

abbrev pub invariant-loop-i : goal.invariant-loop-i
invariant-loop-i l = RunWritten l.initial.out l.out 0 (min l.n (l.i * l.f)) (byte_of l.k l.f l.rows l.fragments l.runs.starts)
