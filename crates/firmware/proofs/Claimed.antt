-- Demand 3 and page 41 of the exported functions, and that their packets are as planned: their account of every run is the account by bytes, of which
-- all this is proved, so each goes over by one path. Assumes nothing.
use mathlib.Core.List.{List}
use Prim.Native.Nat.{ℕ}
use lib.ListN.{replicate, length-replicate}
use Rattle.protocol.specs.View.{kept_size}
use Rattle.runs.specs.Runs.{StepOn}
use Rattle.atomicity.specs.Lists.{Always}
use Rattle.atomicity.specs.Premises.{Premise}
use Rattle.atomicity.specs.Claim.{OneServer, system_of_def, Demand3}
use Rattle.atomicity.specs.Page41.{Page41Of, Page41}
use Rattle.atomicity.proofs.Real.{atomic-and-live}
use Rattle.atomicity.proofs.InWords.{page-41}
use Rattle.planned.specs.Planned.{RequestsPlanned}
use Rattle.planned.specs.Counted.{CountsPlanned}
use Rattle.planned.proofs.RequestSizes.{requests-planned}
use Rattle.planned.proofs.Counts.{counts-planned}
use Rattle.embed.proofs.ExportRuns.{claimed_of_exports}
use Rattle.firmware.specs.Firmware.{Demand3OfExports, Page41OfExports, PlannedOfExports}

pub firmware_atomic-and-live : Demand3OfExports
unfolding Demand3OfExports Demand3
firmware_atomic-and-live s lo hi keyed =
    claimed_of_exports s (lo, hi) keyed (λ c. replicate kept_size 0) (λ c. length-replicate {A = ℕ} kept_size 0) (OneServer (system_of_def s))
    (atomic-and-live s lo hi (λ c. replicate kept_size 0) (λ c. length-replicate {A = ℕ} kept_size 0))

pub firmware_page-41 : Page41OfExports
unfolding Page41OfExports Page41
firmware_page-41 s lo hi keyed correct parties =
    claimed_of_exports s (lo, hi) keyed (λ c. replicate kept_size 0) (λ c. length-replicate {A = ℕ} kept_size 0)
    (λ A. (l : List (StepOn s)) → Always (Premise (system_of_def s) A correct) l → Page41Of (system_of_def s) A correct l)
    (page-41 s lo hi (λ c. replicate kept_size 0) (λ c. length-replicate {A = ℕ} kept_size 0) correct parties)

pub firmware-planned : PlannedOfExports
unfolding PlannedOfExports
firmware-planned s lo hi keyed =
    claimed_of_exports s (lo, hi) keyed (λ c. replicate kept_size 0) (λ c. length-replicate {A = ℕ} kept_size 0)
    (λ A. RequestsPlanned (system_of_def s) A × CountsPlanned (system_of_def s) A) (
      requests-planned s lo hi (λ c. replicate kept_size 0) (λ c. length-replicate {A = ℕ} kept_size 0),
      counts-planned s lo hi (λ c. replicate kept_size 0) (λ c. length-replicate {A = ℕ} kept_size 0),
    )
