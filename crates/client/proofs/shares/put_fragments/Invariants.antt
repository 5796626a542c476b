-- The shares of the servers passed have their starts, and their digests are written.
use Rattle.std.proofs.Common.{◌≡◌}
use Rattle.format.specs.Reading.{put}
use Rattle.protocol.specs.View.{replies_place, reply_slot, content_of}
use Rattle.client.specs.Steps.{digest_run, slot_run, start_of}
use Rattle.client.proofs.shares.put_fragments.Given as goal

abbrev pub invariant-loop-i : goal.invariant-loop-i
invariant-loop-i l = record {
  starts : l.kept ≡ slot_run reply_slot l.fn.kept replies_place (start_of l.t (content_of l.call l.fn.kept)) l.i;
  digests : l.digests ≡ put l.fn.digests 0 (digest_run l.t (content_of l.call l.fn.kept) l.i);
}
