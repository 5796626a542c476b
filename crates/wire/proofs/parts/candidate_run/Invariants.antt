-- So many candidates were let through, from the place of the first on.
use Rattle.std.proofs.Common.{◌*◌, drop}
use Rattle.cluster.specs.Config.{shelf}
use Rattle.format.specs.Format.{many}
use Rattle.protocol.specs.Values.{candidate_size_def}
use Rattle.protocol.specs.Packet.{candidate_f}
use Rattle.wire.specs.Places.{candidate_list}
use Rattle.wire.specs.Reads.{Past}
use Rattle.wire.proofs.parts.candidate_run.Given as goal

abbrev pub invariant-loop : goal.invariant-loop
invariant-loop l =
    Past (many l.counter (candidate_f (shelf l.t))) l.s l.initial.at (candidate_list (shelf l.t) l.counter (drop l.initial.at l.s)) l.at
    (candidate_size_def (shelf l.t) * l.counter)
