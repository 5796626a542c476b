-- The core makes the packet in what is lent of the output.
use Rattle.std.proofs.Common.{◌≡◌, length, take, refl, ◌∙◌, arith}
use Rattle.std.proofs.lemmas.Grind.{common_steps}
use Rattle.std.proofs.lemmas.Result.{err_from_is_err_and}
use Rattle.state.specs.State.{call_at}
use Rattle.embed.specs.Clients.{client_size, kept_of_def}
use Rattle.embed.proofs.Sessions.{core-made, make-done}
use Rattle.embed.proofs.Rooms.{lent-same, made-count, made-out}
use Rattle.embed.proofs.clients.make.Goals as goal

pub returns-in_err-count : goal.returns-in_err-count
returns-in_err-count c =
    let a = c.args in
    let d = a.state.now in
    let o = a.out.now in
    let n = c.min-n.result in
    let size : length d ≡ client_size = grind (arith, common_steps) in
    let p = err_from_is_err_and c.from_residual-in_err-count.result c.from_residual-in_err-count.ensures.1 in
    let e = c.in_err-count.ensures ∙ core-made d size _ c.read.ensures a.party.t a.party.client a.server (take n o) in
    rw (p.1, p.2) (make-done d size _ c.read.ensures a.party.t a.party.client a.server o
    (made-out o n (omega arith) (omega arith) (lent-same (length o) n c.min-n.ensures) a.party.t a.party.client a.server (call_at d) (kept_of_def d) _ _ e
    c.make_in.auto.out _ refl))

pub overflow_cast-count : goal.overflow_cast-count
overflow_cast-count c =
    let a = c.args in
    let d = a.state.now in
    let o = a.out.now in
    let n = c.min-n.result in
    let size : length d ≡ client_size = grind (arith, common_steps) in
    let e = c.in_ok-count.ensures ∙ core-made d size _ c.read.ensures a.party.t a.party.client a.server (take n o) in
    omega (
      arith,
      made-count o n (omega arith) (omega arith) (lent-same (length o) n c.min-n.ensures) a.party.t a.party.client a.server (call_at d)
          (kept_of_def d) _ _ e c.make_in.auto.out,
    )

pub returns : goal.returns
returns c =
    let a = c.args in
    let d = a.state.now in
    let o = a.out.now in
    let n = c.min-n.result in
    let size : length d ≡ client_size = grind (arith, common_steps) in
    let e = c.in_ok-count.ensures ∙ core-made d size _ c.read.ensures a.party.t a.party.client a.server (take n o) in
    rw c.counted.ensures (make-done d size _ c.read.ensures a.party.t a.party.client a.server o
    (made-out o n (omega arith) (omega arith) (lent-same (length o) n c.min-n.ensures) a.party.t a.party.client a.server (call_at d) (kept_of_def d) _ _ e
    c.make_in.auto.out _ refl))
