-- Column after column.
use Rattle.std.proofs.Common.{◌≡◌, ◌+◌, ◌*◌, ◌-◌, length, ap, ◌∙◌, arith}
use Rattle.std.proofs.lemmas.Slice.{put_mid-paste}
use Rattle.columns.proofs.Printed.{put_none, put_one_more, justified-length}
use Rattle.columns.proofs.printing.put_columns.Goals as goal

pub loop-j-init : goal.loop-j-init
loop-j-init c = let a = c.args in put_none a.out.now a.at a.values.now

pub loop-j-preserved : goal.loop-j-preserved
loop-j-preserved c =
    let a = c.args in
    let l = c.loop-j in
    let n : 8 ≡ a.at + 8 * l.j + 8 - (a.at + 8 * l.j) = omega arith in
    let k : length c.column_of.result ≡ 8 = ap length c.column_of.ensures ∙ justified-length 8 _ in
    put_one_more a.out.now a.at a.values.now c.requires l.out l.j l.invariant (omega arith) c.column_of.ensures
    (put_mid-paste (a.at + 8 * l.j) _ l.out _ c.column_of.result 8 c.copy_from_slice.ensures.after n (omega arith))
