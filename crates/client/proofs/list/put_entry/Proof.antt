-- A slot's candidate is written as it stands, or nothing is. Assumes nothing.
use native.Mathlib.Omega.{arith}
use mathlib.Core.Path.{◌≡◌, sym, ◌∙◌}
use mathlib.Core.Bool.{true, false}
use mathlib.Core.List.{List}
use Prim.Native.Nat.{ℕ, ◌≤◌, ◌+◌, ◌*◌}
use lib.ListN.{length}
use Rattle.cluster.specs.Config.{shelf}
use Rattle.format.specs.Format.{Bytes}
use Rattle.protocol.specs.Values.{candidate_size_def}
use Rattle.protocol.specs.View.{candidates_place, candidate_slot}
use Rattle.format.specs.Reading.{bytes_at}
use Rattle.wire.proofs.Put.{placed-wrote}
use Rattle.wire.proofs.Runs.{part-most}
use Rattle.decide.specs.Listing.{listed_in}
use Rattle.client.proofs.ListBytes.{wrote_none, slot_back}
use borrow.Author.Rules.{rules}
use Rattle.client.proofs.list.put_entry.Statement.{statement}
use Rattle.client.proofs.list.put_entry.Tie as tie

returns : tie.Need-returns-then-not-listed
returns c =
    let a = c.args in
    let e : listed_in a.t a.kept.now a.i ≡ false = sym c.listed.ensures ∙ c.if-not-listed.true in
    rw e (wrote_none a.out.now a.at)

returns-2 : tie.Need-returns
unfolding shelf
returns-2 c =
    let at-candidate-size = c.before.before.before.before.before in
    let at-shared-slice-known = at-candidate-size.before.before.before.before in
    let a = at-shared-slice-known.args in
    let p = at-shared-slice-known.requires in
    let K : Bytes a.kept.now = λ k. (at-shared-slice-known.shared_slice_known-1.given k).fits in
    let e : listed_in a.t a.kept.now a.i ≡ true = sym at-candidate-size.listed.ensures ∙
    at-candidate-size.if-not-listed.false in
    let D : List ℕ = bytes_at a.kept.now (candidates_place + candidate_slot * a.i) candidate_slot in
    let x : List ℕ = bytes_at D 0 (candidate_size_def (shelf a.t)) in
    let l : length x ≤ candidate_slot = omega (arith, part-most D 0 (candidate_size_def (shelf a.t)), p.0) in
    let q = rw (
      c.part.ensures,
      at-candidate-size.part-slot.ensures,
      at-candidate-size.candidate_size-size.ensures,
    ) at c.put.ensures in
    rw (e, slot_back (shelf a.t) a.kept.now a.i p.1.0 p.1.1.0 K) (placed-wrote {b = x} q (omega (arith, p.1.1.1)))

pub put_entry_spec : {M : Type 1} → statement M
put_entry_spec = tie.close (tie.spec (λ c κs. search rules) returns (λ c. search rules) (λ c. search rules) (λ c κs. search rules) (λ c. search rules)
    (λ c κs. search rules) (λ c κs. search rules) (λ c κs. search rules) (λ c. search rules) returns-2)
