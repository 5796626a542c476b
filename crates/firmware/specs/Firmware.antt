-- The claims of firmware that links the library: demand 3, page 41, and that its packets are as planned, of every list of steps done through the
-- exported functions (crates/embed/specs/Exports.antt), from client states of 00h and servers made blank, on a shelf whose keys have 32 bytes.
use Rattle.std.specs.Prelude.{◌≤◌}
use Rattle.cluster.specs.Ranges.{top_faults}
use Rattle.runs.specs.Runs.{Shelf}
use Rattle.atomicity.specs.Claim.{EveryRun, OneServer, system_of_def}
use Rattle.atomicity.specs.Page41.{Page41Of}
use Rattle.planned.specs.Planned.{RequestsPlanned}
use Rattle.planned.specs.Counted.{CountsPlanned}
use Rattle.embed.specs.Exports.{KeysSized, by_exports}

unfoldable pub Demand3OfExports : Type 0
Demand3OfExports = (s : Shelf) → 1 ≤ s.t → s.t ≤ top_faults → KeysSized s → OneServer (system_of_def s) (by_exports s)

unfoldable pub Page41OfExports : Type 0
Page41OfExports =
    (s : Shelf) → 1 ≤ s.t → s.t ≤ top_faults → KeysSized s → EveryRun (system_of_def s) (by_exports s) (Page41Of (system_of_def s) (by_exports s))

unfoldable pub PlannedOfExports : Type 0
PlannedOfExports =
    (s : Shelf) → 1 ≤ s.t → s.t ≤ top_faults → KeysSized s → RequestsPlanned (system_of_def s) (by_exports s) × CountsPlanned (system_of_def s) (by_exports s)
