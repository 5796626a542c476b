-- The table is that of the powers, entry by entry.
use Rattle.gf256.proofs.Tables.{powers, powers_at}
use Rattle.gf256.proofs.logarithms.power_of.Goals as goal

pub returns : goal.returns
unfolding powers
returns c = powers_at c.args.i c.requires
