-- The candidates of the slots passed that are listed are written.
use Rattle.cluster.specs.Config.{shelf}
use Rattle.format.specs.Format.{print_many}
use Rattle.format.specs.Reading.{Wrote}
use Rattle.protocol.specs.Packet.{candidate_f}
use Rattle.protocol.specs.Rules.{gather}
use Rattle.protocol.specs.View.{candidates_in}
use Rattle.client.proofs.list.put_list.Given as goal

abbrev pub invariant-loop-i : goal.invariant-loop-i
invariant-loop-i l =
    Wrote l.fn.out l.at (print_many (candidate_f (shelf l.t)) (gather (candidates_in (shelf l.t) l.kept) l.i)) l.out l.next
