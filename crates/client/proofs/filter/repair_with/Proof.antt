-- `client::filter::repair_with` meets its contract, by those of the functions that it calls. Assumes nothing.
use borrow.Author.Rules.{rules}
use native.Mathlib.Omega.{arith}
use mathlib.Core.Path.{◌≡◌, ap, ◌∙◌}
use mathlib.Core.List.{List}
use Prim.Native.Nat.{ℕ, ◌≤◌}
use lib.ListN.{length, replicate, length-replicate}
use Rattle.cluster.specs.Config.{shelf}
use Rattle.protocol.specs.Values.{candidate_size_def}
use Rattle.protocol.specs.View.{candidate_slot}
use Rattle.format.specs.Reading.{bytes_at, put}
use Rattle.wire.proofs.Runs.{part-most}
use Rattle.client.specs.Filter.{repair_bytes}
use Rattle.client.proofs.Repairs.{repair-cut}
use Rattle.client.proofs.filter.repair_with.Statement.{statement}
use Rattle.client.proofs.filter.repair_with.Tie as tie

-- Places far back, each named once: the place, and from where it is seen.
abbrev start-from-put-repair : tie.After-put_repair → tie.Start
start-from-put-repair c = c.before.before.before.before

write-at-requires-2 : tie.Need-write_at-requires-2
unfolding shelf
write-at-requires-2 c κs =
    let at-write-at = c.before.before.before.before.before.before.before in
    let at-put-repair = at-write-at.before.before.before in
    let at-start = start-from-put-repair at-put-repair in
    let n = c.candidate_size-size.result in
    let z : n ≡ candidate_size_def (shelf at-start.args.led.t) =
    c.candidate_size-size.ensures in
    let q : length c.part.result.now ≤ n = rw c.part.ensures (part-most at-put-repair.put_repair.new.bytes 0 n) in
    omega (
      arith,
      at-start.requires.0,
      at-start.requires.1.1.1.1.0,
    )

returns : tie.Need-returns
returns c =
    let at_part = c.before.before.before.before in
    let at-write-at = at_part.before.before.before.before.before.before.before in
    let at-put-repair = at-write-at.before.before.before in
    let at-start = start-from-put-repair at-put-repair in
    let a = at-start.args in
    let p = at-start.requires in
    let R : List ℕ = repair_bytes a.led.t a.kept.now a.led.slot a.led.server (length a.content.now) in
    let e : at-put-repair.put_repair.new.bytes ≡ put (replicate candidate_slot 0) 0 R =
    at-put-repair.put_repair.ensures in
    let l : length {A = ℕ} (replicate candidate_slot 0) ≡ candidate_slot = length-replicate {A = ℕ} candidate_slot 0 in
    let k : bytes_at at-put-repair.put_repair.new.bytes 0 (candidate_size_def (shelf a.led.t)) ≡ R =
    ap (λ (x : List ℕ). bytes_at x 0 (candidate_size_def (shelf a.led.t))) e
    ∙ repair-cut a.led.t a.kept.now a.led.slot a.led.server (length a.content.now) p.0 p.1.1.1.1.0 p.1.0
    p.1.1.0 p.1.1.1.0
    p.1.1.1.1.1 (replicate candidate_slot 0) (omega (arith, l)) in (
      c.repairing.ensures,
      c.write_at-2.ensures ∙ rw (
        at_part.part.ensures,
        at_part.candidate_size-size.ensures,
        at-write-at.write_at.ensures,
        k,
      ),
    )

pub repair_with_spec : {M : Type 1} → statement M
repair_with_spec = tie.close (tie.spec (λ c. search rules) (λ c κs. search rules) (λ c κs. search rules) (λ c. search rules) (λ c κs. search rules)
    (λ c. search rules) (λ c κs. search rules) write-at-requires-2 (λ c. search rules) (λ c κs. search rules) (λ c. search rules) returns)
