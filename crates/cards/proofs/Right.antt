-- Every bench card marked P is right: each line of the table is computed from the definitions that the contracts cite.
-- Assumes nothing.
use mathlib.Core.Path.{refl}
use Rattle.cluster.specs.Config.{shelf, quorum, point_of, up_to}
use Rattle.gf256.specs.Gf.{times, times_bits, xtime, power, inverse}
use Rattle.gf256.specs.Poly.{through, vanish}
use Rattle.erasure.specs.Fragments.{table, fragment_size_def, across, fragment}
use Rattle.protocol.specs.Values.{below}
use Rattle.format.specs.Format.{All}
use Rattle.cards.specs.Cards.{cards, Right}

pub all_right : All Right cards
unfolding cards times times_bits xtime power inverse through vanish table fragment_size_def across fragment shelf quorum point_of up_to below
all_right = (refl, (refl, (refl, (refl, (refl, (refl, (refl, (refl, (refl, tt)))))))))
