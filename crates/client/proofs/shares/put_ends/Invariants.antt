-- The shares of the servers passed have their ends.
use Rattle.std.proofs.Common.{◌≡◌, length}
use Rattle.protocol.specs.View.{reply_slot, kept_size}
use Rattle.client.specs.Steps.{slot_run}
use Rattle.client.proofs.shares.put_ends.Given as goal

abbrev pub invariant-loop-i : goal.invariant-loop-i
invariant-loop-i l = record {
  ends : l.kept ≡ slot_run reply_slot l.fn.kept l.at (λ _. l.common) l.i;
  size : length l.kept ≡ kept_size;
}
