use Rattle.embed.proofs.Planned.{copied}
use Rattle.embed.proofs.plans.put_at.Goals as goal

pub returns : goal.returns
returns c = copied c.args.dst.now c.args.at c.args.src.now c.copy_from_slice.ensures.after
