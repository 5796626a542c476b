-- What was decided leads to its case of the judgement. Nothing is assumed.
use Rattle.std.proofs.Common.{◌≡◌, ◌∙◌, sym, ap, List, ℕ, ◌≤◌, length, replicate, arith, rules}
use Rattle.std.specs.Prelude.{Ok}
use lib.ListN.{length-replicate}
use Rattle.cluster.specs.Ranges.{content_room}
use Rattle.format.specs.Reading.{bytes_at}
use Rattle.protocol.proofs.Room.{shelf-fits}
use Rattle.decide.specs.declared.Decision.TheVariants as decisions
use Rattle.decide.specs.Decided.{decision_answer, decision_told, decided}
use Rattle.client.proofs.Printed.{part_short}
use Rattle.client.proofs.Judged.{judged_wait, judged-blank, judged-found, found_range, decided-ok}
use Rattle.client.proofs.filter.judge.Goals as goal

pub unwrap-requires : goal.unwrap-requires
unwrap-requires c =
    let a = c.args in
    let p = c.requires in
    let l : length {A = ℕ} (replicate content_room 0) ≡ content_room = length-replicate {A = ℕ} content_room 0 in
    decided-ok a.t a.call.tally.marks a.kept.now (record { low = p.0; high = p.1.0; size = p.1.1.0 }) (λ k. search rules)
    (replicate content_room 0) (omega (arith, l)) c.decide.result c.decide.ensures.0

pub found-requires : goal.found-requires
found-requires c =
    let a = c.args in
    let p = c.requires in
    let d = c.in-Found in
    let F = (shelf-fits a.t p.0 p.1.0).few in
    let l : length {A = ℕ} (replicate content_room 0) ≡ content_room = length-replicate {A = ℕ} content_room 0 in
    let e : (decided a.t a.call.tally.marks a.kept.now (replicate content_room 0)).answer ≡ decision_answer (decisions.Found d.slot d.server d.n) =
    sym c.decide.ensures.0 ∙ ap decision_told (c.unwrap.ensures ∙ ap Ok d.is) in
    let r = found_range a.t a.call.tally.marks a.kept.now (record { low = p.0; high = p.1.0; size = p.1.1.0 }) (λ k. search rules)
    (replicate content_room 0) (omega (arith, l)) d.slot d.server d.n e in
    let z : length c.decide.new.out ≡ 1024 = search rules in
    let q : length c.part-content.result.now ≤ length c.decide.new.out = rw c.part-content.ensures (part_short c.decide.new.out d.n) in
    (p.1.0, (omega (arith, r.0), (r.1.0, (omega (arith, r.1.1), (p.1.1.0, (omega (arith, q, z), p.1.1.1))))))

pub returns-in-Wait : goal.returns-in-Wait
returns-in-Wait c =
    let a = c.args in
    rw c.more.ensures (judged_wait a.t a.call a.kept.now a.out.now (sym c.decide.ensures.0 ∙ ap decision_told (c.unwrap.ensures ∙ ap Ok c.in-Wait.is)))

pub returns-in-Blank : goal.returns-in-Blank
returns-in-Blank c =
    let a = c.args in
    rw c.enter.ensures (judged-blank a.t a.call a.kept.now a.out.now (sym c.decide.ensures.0 ∙ ap decision_told (c.unwrap.ensures ∙ ap Ok c.in-Blank.is)))

pub returns-in-Found : goal.returns-in-Found
returns-in-Found c =
    let a = c.args in
    let d = c.in-Found in
    c.found.ensures ∙ judged-found a.t a.call a.kept.now a.out.now d.slot d.server d.n c.part-content.result.now
    (sym c.decide.ensures.0 ∙ ap decision_told (c.unwrap.ensures ∙ ap Ok d.is))
    (c.part-content.ensures ∙ ap (λ (x : List ℕ). bytes_at x 0 d.n) c.decide.ensures.1)
