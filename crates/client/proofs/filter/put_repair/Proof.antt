-- `client::filter::put_repair` meets its contract, by those of the functions that it calls. Assumes nothing.
use borrow.Author.Rules.{rules}
use native.Mathlib.Omega.{arith}
use mathlib.Core.Path.{◌∙◌}
use Rattle.client.proofs.Repairs.{repair_put, name-fits, tags_fit}
use Rattle.client.proofs.filter.put_repair.Statement.{statement}
use Rattle.client.proofs.filter.put_repair.Tie as tie

-- Places far back, each named once: the place, and from where it is seen.
abbrev start-from-tags-at : tie.After-tags_at → tie.Start
start-from-tags-at c = c.before.before.before.before.before.before

write-at-requires : tie.Need-write_at-requires
write-at-requires c κs =
    let at-tags-at = c.before.before.before.before in
    let at-start = start-from-tags-at at-tags-at in
    let a = at-start.args in
    let p = at-start.requires in
    rw at-tags-at.part-name.ensures (name-fits a.led.t a.kept.now a.led.slot a.led.server a.n p.0
    p.1.1.1.1.1.0 p.1.0
    p.1.1.0 p.1.1.1.0 p.1.1.1.1.0 a.bytes.now p.1.1.1.1.1.1)

write-at-requires-2 : tie.Need-write_at-requires-2
write-at-requires-2 c κs =
    let at-write-at = c.before.before.before in
    let at-tags-at = at-write-at.before.before.before.before.before in
    let at-start = start-from-tags-at at-tags-at in
    let a = at-start.args in
    let p = at-start.requires in
    rw (
      at-write-at.part-tags.ensures,
      at-write-at.tags_size.ensures,
      at-tags-at.tags_at.ensures.0,
    )
    (omega (
      arith,
      tags_fit a.led.t a.kept.now a.led.slot a.led.server a.n p.0 p.1.1.1.1.1.0 p.1.0 p.1.1.0 p.1.1.1.0
          p.1.1.1.1.0 a.bytes.now p.1.1.1.1.1.1,
    ))

returns : tie.Need-returns
returns c =
    let at-write-at = c.before.before.before.before.before.before in
    let at-tags-at = at-write-at.before.before.before.before.before in
    let at-start = start-from-tags-at at-tags-at in
    let a = at-start.args in
    let p = at-start.requires in
    c.write_at-2.ensures
    ∙ rw (
      at-write-at.write_at.ensures,
      at-write-at.part-tags.ensures,
      at-write-at.tags_size.ensures,
      at-tags-at.tags_at.ensures.0,
      at-tags-at.part-name.ensures,
    )
    (repair_put a.led.t a.kept.now a.led.slot a.led.server a.n p.0 p.1.1.1.1.1.0 p.1.0 p.1.1.0
    p.1.1.1.0 p.1.1.1.1.0
    a.bytes.now p.1.1.1.1.1.1)

pub put_repair_spec : {M : Type 1} → statement M
put_repair_spec = tie.close (tie.spec (λ c. search rules) (λ c. search rules) (λ c κs. search rules) (λ c. search rules) (λ c. search rules)
    (λ c. search rules) (λ c κs. search rules) (λ c. search rules) (λ c. search rules) (λ c κs. search rules) (λ c κs. search rules)
    write-at-requires write-at-requires-2 (λ c. search rules) returns)
