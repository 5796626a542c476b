-- The tags of the servers passed are written.
use Rattle.std.proofs.Common.{◌≡◌}
use Rattle.format.specs.Reading.{put}
use Rattle.client.specs.Steps.{tag_run}
use Rattle.client.proofs.stamps.put_tags.Given as goal

abbrev pub invariant-loop-i : goal.invariant-loop-i
invariant-loop-i l = l.tags ≡ put l.fn.tags 0 (tag_run l.keys l.stamp l.digest l.i)
