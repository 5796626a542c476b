-- `client::prepare::put_candidate` meets its contract, by those of the functions that it calls. Assumes nothing.
use borrow.Author.Rules.{rules}
use native.Mathlib.Omega.{arith}
use mathlib.Core.Path.{◌∙◌}
use Rattle.protocol.specs.Values.{stamp_size, nonce_size}
use Rattle.protocol.specs.View.{chosen_place}
use Rattle.client.proofs.ShareBytes.{three_puts}
use Rattle.client.proofs.prepare.put_candidate.Statement.{statement}
use Rattle.client.proofs.prepare.put_candidate.Tie as tie

write-at-requires : tie.Need-write_at-requires
write-at-requires c κs = let p = c.requires in omega (arith, p.0, p.1.0)

-- Places far back, each named once: the place, and from where it is seen.
abbrev start-from-write-at : tie.After-write_at → tie.Start
start-from-write-at c = c.before.before.before.before.before.before

write-at-requires-2 : tie.Need-write_at-requires-2
write-at-requires-2 c κs = let p = (start-from-write-at c.before.before.before).requires in omega (arith, p.0, p.1.1.0)

write-at-requires-3 : tie.Need-write_at-requires-3
write-at-requires-3 c κs = let p =
    (start-from-write-at c.before.before.before.before.before.before.before).requires in omega (arith, p.0, p.1.1.1)

returns : tie.Need-returns
returns c =
    let at-write-at2 = c.before.before.before.before.before.before in
    let at-write-at = at-write-at2.before.before.before.before in
    let at-start = start-from-write-at at-write-at in
    let a = at-start.args in
    let p = at-start.requires in
    c.write_at-3.ensures ∙ rw (
      at-write-at2.write_at-2.ensures,
      at-write-at.write_at.ensures,
    )
    (three_puts a.kept.now chosen_place stamp_size nonce_size a.stamp.now a.nonce.now a.tags.now p.1.0 p.1.1.0
    (omega (arith, p.0, p.1.1.1)))

pub put_candidate_spec : {M : Type 1} → statement M
put_candidate_spec = tie.close (tie.spec write-at-requires (λ c. search rules) write-at-requires-2 (λ c. search rules) write-at-requires-3
    (λ c. search rules) returns)
