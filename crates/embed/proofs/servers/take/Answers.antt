-- The server takes the packet in what is lent of the output, and two parts of its memory tell whether that changed.
use Rattle.std.proofs.Common.{◌≡◌, length, refl, rules, arith}
use Rattle.std.proofs.lemmas.Grind.{common_steps}
use Rattle.std.proofs.lemmas.Result.{err_from_is_err_and}
use Rattle.cluster.specs.Ranges.{key_size}
use Rattle.format.specs.Format.{Bytes}
use Rattle.erasure.proofs.Refused.{refused-number}
use Rattle.embed.proofs.Rooms.{lent-same, served-count, served-out, served-refused, told_by, take-sized}
use Rattle.embed.proofs.servers.take.Goals as goal

pub returns-in_err-count : goal.returns-in_err-count
returns-in_err-count c =
    let a = c.args in
    let o = a.out.now in
    let n = c.min-n.result in
    let long : length a.key.now ≡ key_size = grind (arith, common_steps) in
    let same : c.in_ok-key.key ≡ a.key.now = grind (arith, common_steps) in
    let p = err_from_is_err_and c.from_residual-in_err-count.result c.from_residual-in_err-count.ensures.1 in
    rw (p.1, p.2)
    (take-sized a.memory.now a.key.now a.packet.now o _ _ long same
    (served-refused a.memory.now c.in_ok-key.key a.packet.now o n (omega arith) (omega arith) (lent-same (length o) n c.min-n.ensures) _ _ _
    c.in_err-count.ensures c.take.auto.out (refused-number _) refl))

pub overflow_cast-result : goal.overflow_cast-result
overflow_cast-result c =
    let a = c.args in
    let o = a.out.now in
    let n = c.min-n.result in
    omega (
      arith,
      served-count a.memory.now c.in_ok-key.key a.packet.now o n (omega arith) (omega arith) (lent-same (length o) n c.min-n.ensures) _ _ _
          c.in_ok-count.ensures c.take.auto.out,
    )

pub returns : goal.returns
returns c =
    let a = c.args in
    let o = a.out.now in
    let n = c.min-n.result in
    let long : length a.key.now ≡ key_size = grind (arith, common_steps) in
    let same : c.in_ok-key.key ≡ a.key.now = grind (arith, common_steps) in
    let bs : Bytes a.memory.now = search rules in
    take-sized a.memory.now a.key.now a.packet.now o _ _ long same
    (served-out a.memory.now c.in_ok-key.key a.packet.now o n (omega arith) (omega arith) (lent-same (length o) n c.min-n.ensures) _ _ _
    c.in_ok-count.ensures c.take.auto.out bs _ _
    (told_by a.memory.now c.take.new.memory c.byte_at-writes.ensures c.latest_rank-latest.ensures c.changed.ensures c.from.ensures) refl)
