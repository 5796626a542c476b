-- A row of eight values. Assumes nothing.
use Rattle.std.proofs.Common.{refl}
use Rattle.drill.specs.Listing.{last_row}
use Rattle.drill.proofs.Running.{row_put, row_past}
use Rattle.drill.proofs.rows.put_last.Goals as goal

pub returns : goal.returns
unfolding last_row
returns c =
    let e = rw (c.from-result.ensures, c.from.ensures) at c.put_row.ensures in
    (row_put c.args.out.now c.args.at _ refl c.requires e, row_past c.args.out.now c.args.at _ refl c.requires e)
