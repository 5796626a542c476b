-- Head, list and count are written; the bytes of the list tell its count. Nothing is assumed.
use native.Mathlib.Omega.{arith}
use native.Mathlib.Nat.{div-eq_of_eq-mul_right}
use mathlib.Core.Path.{◌≡◌, sym, ap, ◌∙◌}
use mathlib.Core.List.{List}
use Prim.Native.Nat.{ℕ, ◌+◌, ◌*◌, ◌/◌, ◌-◌}
use lib.ListN.{length}
use Rattle.cluster.specs.Config.{shelf}
use Rattle.format.specs.Format.{print_many, via, seq, byte, many}
use Rattle.protocol.specs.Values.{Candidate, candidate_size_def}
use Rattle.protocol.specs.Packet.{candidate_f, candidates_f}
use Rattle.protocol.specs.Rules.{gather}
use Rattle.protocol.specs.View.{candidates_in}
use Rattle.client.proofs.ListBytes.{after-head, filter-made, list-room, list_counted, count-few}
use Rattle.client.proofs.Offered.{servers-few}
use Rattle.client.proofs.packets.make_filter.Goals as goal

pub overflow_add-b : goal.overflow_add-b
overflow_add-b c =
    let a = c.args in
    let p = c.requires in
    let h = after-head a.head a.out.now p.1.1.1 c.put_head-a.ensures in
    omega (arith, h.0)

pub put_list-n-requires : goal.put_list-n-requires
put_list-n-requires c =
    let a = c.args in
    let p = c.requires in
    let h = after-head a.head a.out.now p.1.1.1 c.put_head-a.ensures in
    (p.0, (p.1.0, (p.1.1.0, omega (arith, h.0, h.1, p.1.1.1))))

pub overflow_sub-n : goal.overflow_sub-n
overflow_sub-n c = omega (arith, c.put_list-n.ensures.place)

pub nonzero_div-n : goal.nonzero_div-n
nonzero_div-n c = omega (arith, c.candidate_size-size.ensures)

pub overflow_cast-n : goal.overflow_cast-n
overflow_cast-n c =
    let a = c.args in
    let p = c.requires in
    let listed : List Candidate = gather (candidates_in (shelf a.t) a.kept.now) (shelf a.t).servers in
    let l = list_counted a.t a.kept.now p.0 p.1.0 p.1.1.0 (shelf a.t).servers (omega arith) in
    let d : c.put_list-n.result - (c.put_head-a.result + 1) ≡ candidate_size_def (shelf a.t) * length listed =
    omega (arith, c.put_list-n.ensures.place, l) in
    let count : (c.put_list-n.result - (c.put_head-a.result + 1)) / c.candidate_size-size.result ≡ length listed =
    div-eq_of_eq-mul_right (omega (arith, c.candidate_size-size.ensures)) (d ∙ ap (λ (z : ℕ). z * length listed) (sym c.candidate_size-size.ensures)) in
    omega (arith, count, count-few a.t a.kept.now p.0 p.1.0 p.1.1.0 (shelf a.t).servers, servers-few a.t p.1.0)

pub returns : goal.returns
unfolding candidates_f via seq byte many shelf
returns c =
    let a = c.args in
    let p = c.requires in
    let listed : List Candidate = gather (candidates_in (shelf a.t) a.kept.now) (shelf a.t).servers in
    let l = list_counted a.t a.kept.now p.0 p.1.0 p.1.1.0 (shelf a.t).servers (omega arith) in
    let d : c.put_list-n.result - (c.put_head-a.result + 1) ≡ candidate_size_def (shelf a.t) * length listed =
    omega (arith, c.put_list-n.ensures.place, l) in
    let count : (c.put_list-n.result - (c.put_head-a.result + 1)) / c.candidate_size-size.result ≡ length listed =
    div-eq_of_eq-mul_right (omega (arith, c.candidate_size-size.ensures)) (d ∙ ap (λ (z : ℕ). z * length listed) (sym c.candidate_size-size.ensures)) in
    let r = list-room a.t a.kept.now p.0 p.1.0 p.1.1.0 (shelf a.t).servers (omega arith) in
    filter-made a.head a.out.now p.1.1.1 c.put_head-a.ensures (length listed) (print_many (candidate_f (shelf a.t)) listed) (omega (arith, r, p.1.0))
    c.put_list-n.ensures (rw count at c.put_byte.ensures)
