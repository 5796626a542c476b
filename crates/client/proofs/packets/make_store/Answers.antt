-- Stamp and share are printed as they stand in their slots. Nothing is assumed.
use native.Mathlib.Omega.{arith}
use mathlib.Core.Path.{◌≡◌, sym, ap, ◌∙◌}
use mathlib.Core.List.{List, ◌++◌}
use Prim.Native.Nat.{ℕ, ◌-◌, ◌+◌, ◌*◌}
use lib.ListN.{length}
use Rattle.cluster.specs.Config.{shelf}
use Rattle.format.specs.Format.{Bytes}
use Rattle.protocol.specs.Values.{stamp_size}
use Rattle.protocol.specs.Packet.{head_f, stamp_f}
use Rattle.protocol.specs.View.{chosen_of, chosen_place, candidate_slot, candidate_at, stamp_at_def, reply_slot_of, replies_place, reply_slot}
use Rattle.format.specs.Reading.{bytes_at}
use Rattle.wire.specs.Places.{share_size_def, length_at}
use Rattle.wire.proofs.Runs.{part-most}
use Rattle.client.specs.Steps.{whole_packet}
use Rattle.decide.proofs.Places.{part_length, bytes-part, stamp-bytes}
use Rattle.client.proofs.Printed.{packet-fits, share_back, part_short}
use Rattle.client.proofs.packets.make_store.Goals as goal

pub returns : goal.returns
unfolding chosen_of reply_slot_of length_at candidate_at stamp_at_def
returns c =
    let a = c.args in
    let p = c.requires in
    let K : Bytes a.kept.now = λ k. (c.type_inv.kept k).fits in
    let i : ℕ = a.server - 1 in
    let D : List ℕ = bytes_at a.kept.now chosen_place candidate_slot in
    let E : List ℕ = bytes_at a.kept.now (replies_place + reply_slot * i) reply_slot in
    let ld : length D ≡ candidate_slot = part_length a.kept.now chosen_place candidate_slot (omega (arith, p.1.1.1.0)) in
    let le : length E ≡ reply_slot = part_length a.kept.now (replies_place + reply_slot * i) reply_slot
    (omega (arith, p.1.1.1.0, p.1.1.0, p.1.0)) in
    let s = stamp-bytes D (bytes-part a.kept.now chosen_place candidate_slot K) (omega (arith, ld)) in
    let h = share_back (shelf a.t) E (bytes-part a.kept.now (replies_place + reply_slot * i) reply_slot K) (omega (arith, le)) in
    let m = part-most D 0 stamp_size in
    let n = part_short E (share_size_def (shelf a.t) (length_at E)) in
    c.make_packet.ensures ∙ rw (
      c.part-stamp.ensures,
      c.part.ensures,
      c.share_size-size.ensures,
      c.number2.ensures,
      c.part-slot.ensures,
      c.part-chosen.ensures,
    )
    (packet-fits a.head (bytes_at D 0 stamp_size) (bytes_at E 0 (share_size_def (shelf a.t) (length_at E))) a.out.now p.1.1.1.1
    (omega (arith, m, n, le))
    ∙ (ap (λ (x : List ℕ). whole_packet (head_f.print a.head ++ (x ++ bytes_at E 0 (share_size_def (shelf a.t) (length_at E)))) a.out.now) (sym s)
    ∙ ap (λ (x : List ℕ). whole_packet (head_f.print a.head ++ (stamp_f.print (stamp_at_def D) ++ x)) a.out.now) (sym h)))
