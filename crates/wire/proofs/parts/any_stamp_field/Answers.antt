use mathlib.Core.Logic.{⊎_elim}
use Rattle.format.proofs.Leaves.{stops_short, stops-blank}
use Rattle.protocol.specs.Packet.{any_stamp_f}
use Rattle.wire.proofs.Through.{any-stamp-took, blank-stamp-took}
use Rattle.wire.proofs.parts.any_stamp_field.Goals as goal

pub returns-in-Some : goal.returns-in-Some
returns-in-Some c = any-stamp-took c.in-Some.ensures

pub returns-in_err-next : goal.returns-in_err-next
unfolding any_stamp_f
returns-in_err-next c =
    rw c.from_residual.ensures
    (⊎_elim (λ h. stops_short _ _ _ c.in_default.ensures h) (λ h. stops-blank _ _ _ c.in_default.ensures h.0 h.1) c.in_err-next.ensures)

pub returns : goal.returns
returns c = let z = c.in_ok-next.ensures in blank-stamp-took c.in_default.ensures z.within z.zero z.place
