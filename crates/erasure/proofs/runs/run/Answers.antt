-- A row that copies gives the bytes of its one fragment.
use Rattle.std.proofs.Common.{length, get_or, sym, ◌∙◌, arith}
use Rattle.erasure.specs.Lanes.{sum_at}
use Rattle.erasure.proofs.Lists.{table_is, part_long, part_at}
use Rattle.erasure.proofs.Units.{copies}
use Rattle.erasure.proofs.runs.run.Goals as goal

pub returns-in-Some : goal.returns-in-Some
returns-in-Some c =
    let runs = c.args.runs in
    let fragments = c.args.fragments.now in
    let unit = c.in-Some.ensures in
    let j = c.in-Some.j in
    let from = get_or runs.starts j 0 in
    let copied = c.copy in
    table_is (length c.args.out.now) copied.new.to (sum_at runs.count (λ i. get_or c.args.row i 0) fragments runs.starts)
    (part_long fragments copied.new.to from _ _ copied.ensures (omega arith) (c.requires.1 j unit.0))
    (λ q h. part_at fragments copied.new.to from _ _ copied.ensures (omega arith) q h
    ∙ sym (copies runs.count (λ i. get_or c.args.row i 0) fragments runs.starts q j unit.0 unit.1 unit.2 (λ i. (c.type_inv.fragments i).fits)))
