use Rattle.std.proofs.Common.{◌∙◌}
use Rattle.protocol.specs.View.{stamp_at_def}
use Rattle.wire.proofs.Runs.{stamp-padded}
use Rattle.wire.proofs.values.stamp_at.Goals as goal

pub returns : goal.returns
unfolding stamp_at_def
returns c = c.new.ensures ∙ rw (c.label_at-label.ensures, c.first_bytes.ensures, c.rest.ensures) (stamp-padded c.args.s.now)
