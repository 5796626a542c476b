-- The candidate is printed as it stands in its slot. Nothing is assumed.
use Rattle.std.proofs.Common.{◌≡◌, ◌∙◌, sym, ap, ℕ, List, [], ◌++◌, length, arith}
use Rattle.cluster.specs.Config.{shelf}
use Rattle.protocol.specs.Values.{candidate_size_def}
use Rattle.protocol.specs.Packet.{head_f, candidate_f}
use Rattle.protocol.specs.View.{chosen_of, chosen_place, candidate_slot, candidate_at}
use Rattle.format.specs.Reading.{bytes_at}
use Rattle.wire.proofs.Runs.{part-most}
use Rattle.client.specs.Steps.{whole_packet}
use Rattle.client.proofs.Printed.{packet-fits, candidate_back}
use Rattle.decide.proofs.Places.{bytes-part, part_length}
use Rattle.client.proofs.packets.make_chosen.Goals as goal

pub returns : goal.returns
unfolding chosen_of shelf
returns c =
    let a = c.args in
    let p = c.requires in
    let D : List ℕ = bytes_at a.kept.now chosen_place candidate_slot in
    let y = bytes-part a.kept.now chosen_place candidate_slot (λ k. (c.type_inv.kept k).fits) in
    let l : length D ≡ candidate_slot = part_length a.kept.now chosen_place candidate_slot (omega (arith, p.1.0)) in
    let e : bytes_at D 0 (candidate_size_def (shelf a.t)) ≡ (candidate_f (shelf a.t)).print (candidate_at (shelf a.t) D) = sym
    (candidate_back (shelf a.t) D y (omega (arith, l))) in
    let m = part-most D 0 (candidate_size_def (shelf a.t)) in
    c.make_packet.ensures ∙ rw (c.part.ensures, c.part-chosen.ensures, c.candidate_size.ensures)
    (packet-fits a.head (bytes_at D 0 (candidate_size_def (shelf a.t))) [] a.out.now p.1.1 (omega (arith, m, p.0))
    ∙ ap (λ (x : List ℕ). whole_packet (head_f.print a.head ++ (x ++ [])) a.out.now) e)
