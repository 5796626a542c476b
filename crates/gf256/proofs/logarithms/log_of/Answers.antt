-- The table is that of the logarithms, entry by entry; entry a - 1 is that of a.
use Rattle.std.proofs.Common.{◌≡◌, get_or, ◌-◌, ◌<◌, ◌∙◌, arith}
use Rattle.gf256.proofs.Tables.{logs, logs_at, logs-lt}
use Rattle.gf256.proofs.logarithms.log_of.Goals as goal

pub returns : goal.returns
unfolding logs
returns c =
    let k = c.args.a - 1 in
    let small : k < 255 = omega arith in
    let v : c.from-2.result ≡ get_or logs k 0 = rw c.from.ensures at c.from-2.ensures in
    (rw v (logs-lt k small), rw v (logs_at k small ∙ omega arith))
