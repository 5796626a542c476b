-- A stamp is written as its number, its writer and its tag.
use Rattle.std.proofs.Common.{◌≡◌, length, arith}
use borrow.Author.Rules.{rules}
use Rattle.hmac.specs.Hmac.{tag_size}
use Rattle.wire.proofs.Put.{no-stamp, stamp-placed}
use Rattle.wire.proofs.make.put_stamp.Goals as goal
use Rattle.wire.proofs.make.put_stamp.Goals.{then-out-at-via-then-out-at, then-out-at-via-else-out-at+then-out-at-lt-STAMP}

pub returns-then-out-at : goal.returns-then-out-at
returns-then-out-at c =
    let a = c.args in
    let size : length a.stamp.tag ≡ tag_size = search rules in
    elim c.then-out-at.branch [
      | then-out-at-via-then-out-at w ↦ no-stamp a.stamp a.out.now a.at size (omega arith)
      | then-out-at-via-else-out-at+then-out-at-lt-STAMP w ↦ no-stamp a.stamp a.out.now a.at size (omega arith)
    ]

pub returns : goal.returns
returns c =
    let a = c.args in
    let size : length a.stamp.tag ≡ tag_size = search rules in
    stamp-placed a.stamp a.out.now a.at size (omega arith) c.put_number4-a.ensures c.put_byte-b.ensures c.put.ensures
