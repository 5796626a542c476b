-- The fragments of the servers passed stand in their places.
use Rattle.std.proofs.Common.{◌≡◌, ℕ, ◌*◌, ◌<◌, length, get_or}
use Rattle.format.specs.Reading.{bytes_at}
use Rattle.decide.specs.Steps.{fragment_of}
use Rattle.decide.proofs.Restoring.{fragments_room}
use Rattle.decide.proofs.content.fragments_of.Given as goal

abbrev pub invariant-loop-p : goal.invariant-loop-p
invariant-loop-p l = record {
  room : length l.out ≡ fragments_room;
  each : (q : ℕ) → q < l.p → bytes_at l.out (q * l.f) l.f ≡ (fragment_of l.kept l.f (get_or l.servers q 0)).bytes;
}
