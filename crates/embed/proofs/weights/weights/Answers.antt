-- The operation's refusal, or its servers and rows, for which there is room.
use Rattle.std.proofs.Common.{ℕ, ◌*◌, ◌≤◌, List, ◌++◌, length, drop, sym, refl, ap, arith}
use Rattle.std.proofs.Math.Seq.{length-take-le}
use Rattle.std.proofs.lemmas.Grind.{common_steps}
use Rattle.erasure.specs.System.{width}
use Rattle.erasure.specs.Weights.{rows_room}
use Rattle.embed.specs.declared.pack.Told.{Told}
use Rattle.embed.specs.Packing.{packed}
use Rattle.embed.proofs.Weighing.{weights-given, count_most}
use Rattle.embed.proofs.weights.weights.Goals as goal

pub slice_bounds-copy_from_slice-end : goal.slice_bounds-copy_from_slice-end
slice_bounds-copy_from_slice-end c =
    let room : width ≤ length c.args.used.now = grind (arith, common_steps) in
    omega (arith, room, count_most c.args.t c.args.servers.now _ c.in_ok-made.ensures refl)

pub slice_bounds-copy_from_slice-end-2 : goal.slice_bounds-copy_from_slice-end-2
slice_bounds-copy_from_slice-end-2 c =
    let room : width ≤ length c.args.used.now = grind (arith, common_steps) in
    sym (length-take-le _ _ (omega (arith, room, count_most c.args.t c.args.servers.now _ c.in_ok-made.ensures refl)))

pub shared_ref_as_front-copy_from_slice : goal.shared_ref_as_front-copy_from_slice
shared_ref_as_front-copy_from_slice c = count_most c.args.t c.args.servers.now _ c.in_ok-made.ensures refl

pub returns : goal.returns
returns c =
    let a = c.args in
    let k = c.in_ok-made.made.count in
    let used-room : width ≤ length a.used.now = grind (arith, common_steps) in
    let rows-room : rows_room ≤ length a.rows.now = grind (arith, common_steps) in
    weights-given a.t a.servers.now a.used.now a.rows.now _ c.in_ok-made.ensures refl used-room rows-room _ _ _
    (ap (λ (t : Told). packed 0 t.result t.number t.count) c.counted.ensures)
    (ap (λ (z : List ℕ). z ++ drop k a.used.now) c.copy_from_slice.ensures.after)
    (ap (λ (z : List ℕ). z ++ drop (k * k) a.rows.now) c.copy_from_slice-2.ensures.after)
