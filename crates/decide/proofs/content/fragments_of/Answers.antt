-- Each fragment is copied behind the others. Nothing is assumed.
use Rattle.std.proofs.Common.{◌≡◌, length, ◌≤◌, refl, subst, ℕ, ◌+◌, ◌-◌, ◌*◌, ◌<◌, get_or, arith, take, drop}
use Rattle.cluster.specs.Config.{shelf}
use Rattle.protocol.specs.Values.{stamp_size}
use Rattle.protocol.specs.View.{replies_place, reply_slot}
use Rattle.format.specs.Reading.{bytes_at}
use Rattle.wire.proofs.Put.{placed-wrote}
use Rattle.decide.specs.Steps.{fragment_of}
use Rattle.decide.proofs.Restoring.{fragments-room, turn, source-length, fragments_more}
use Rattle.decide.proofs.content.fragments_of.Goals as goal

pub overflow_mul-at : goal.overflow_mul-at
overflow_mul-at c =
    let a = c.args in
    let p = c.requires in
    omega (
      arith,
      turn a.t a.kept.now a.servers a.n p.0 p.1 p.2 c.fragment_size-f.result c.loop-p.p c.fragment_size-f.ensures
          (omega (arith, c.threshold-k.ensures.0)),
    )

pub overflow_add-at : goal.overflow_add-at
overflow_add-at c =
    let a = c.args in
    let p = c.requires in
    omega (
      arith,
      turn a.t a.kept.now a.servers a.n p.0 p.1 p.2 c.fragment_size-f.result c.loop-p.p c.fragment_size-f.ensures
          (omega (arith, c.threshold-k.ensures.0)),
    )

pub overflow_add-at-in-loop-p : goal.overflow_add-at-in-loop-p
overflow_add-at-in-loop-p c =
    let a = c.args in
    let p = c.requires in
    omega (
      arith,
      turn a.t a.kept.now a.servers a.n p.0 p.1 p.2 c.fragment_size-f.result c.loop-p.p c.fragment_size-f.ensures
          (omega (arith, c.threshold-k.ensures.0)),
    )

pub overflow_mul-p : goal.overflow_mul-p
overflow_mul-p c =
    let a = c.args in
    let p = c.requires in
    omega (
      arith,
      turn a.t a.kept.now a.servers a.n p.0 p.1 p.2 c.fragment_size-f.result c.loop-p.p c.fragment_size-f.ensures
          (omega (arith, c.threshold-k.ensures.0)),
    )

pub overflow_add-at-in-loop-p-2 : goal.overflow_add-at-in-loop-p-2
overflow_add-at-in-loop-p-2 c =
    let a = c.args in
    let p = c.requires in
    omega (
      arith,
      turn a.t a.kept.now a.servers a.n p.0 p.1 p.2 c.fragment_size-f.result c.loop-p.p c.fragment_size-f.ensures
          (omega (arith, c.threshold-k.ensures.0)),
    )

pub slice_bounds-put-end-in-loop-p : goal.slice_bounds-put-end-in-loop-p
slice_bounds-put-end-in-loop-p c =
    let a = c.args in
    let p = c.requires in
    omega (
      arith,
      turn a.t a.kept.now a.servers a.n p.0 p.1 p.2 c.fragment_size-f.result c.loop-p.p c.fragment_size-f.ensures
          (omega (arith, c.threshold-k.ensures.0)),
    )

pub loop-p-preserved : goal.loop-p-preserved
loop-p-preserved c =
    let a = c.args in
    let p = c.requires in
    let f = c.fragment_size-f in
    let v = c.loop-p.invariant in
    let l : c.loop-p.p < (shelf a.t).threshold = omega (arith, c.threshold-k.ensures.0) in
    let at : ℕ = replies_place + reply_slot * (get_or a.servers c.loop-p.p 0 - 1) + (stamp_size + 3) in
    let room : c.loop-p.p * f.result + length (take (at + f.result - at) (drop at a.kept.now)) ≤ length c.loop-p.out =
    omega (
      arith,
      source-length a.t a.kept.now a.servers a.n p.0 p.1 p.2 f.result c.loop-p.p at f.ensures l refl,
      v.room,
      turn a.t a.kept.now a.servers a.n p.0 p.1 p.2 f.result c.loop-p.p f.ensures l,
    ) in
    let w =
    fragments_more a.t a.kept.now a.servers a.n p.0 p.1 p.2 c.loop-p.out c.put.new.out f.result c.loop-p.p at f.ensures l refl v.room v.each
    (placed-wrote c.put.ensures room).bytes in
    record { room = w.0; each = w.1 }

pub returns : goal.returns
returns c =
    let a = c.args in
    let p = c.requires in
    let v = c.loop-p.invariant in
    record {
      long = omega (arith, fragments-room a.t a.n p.0.high p.1, v.room);
      each = λ q l. subst (λ (f : ℕ). bytes_at c.loop-p.out (q * f) f ≡ (fragment_of a.kept.now f (get_or a.servers q 0)).bytes)
          c.fragment_size-f.ensures (v.each q (omega (arith, c.threshold-k.ensures.0)));
    }
