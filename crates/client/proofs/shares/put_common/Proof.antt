-- `client::shares::put_common` meets its contract, by those of the functions that it calls. Assumes nothing.
use borrow.Author.Rules.{rules}
use native.Mathlib.Omega.{arith}
use mathlib.Core.Path.{◌≡◌, ◌∙◌}
use lib.ListN.{length}
use Rattle.protocol.specs.Values.{digest_size}
use Rattle.format.proofs.Puts.{put_put}
use Rattle.client.proofs.shares.put_common.Statement.{statement}
use Rattle.client.proofs.shares.put_common.Tie as tie

write-at-requires : tie.Need-write_at-requires
write-at-requires c κs =
    let at-start = c.before.before.before.before in
    let z : length at-start.args.digest ≡ digest_size = search rules in omega (arith, z, at-start.requires)

-- Places far back, each named once: the place, and from where it is seen.
abbrev start-from-write-at : tie.After-write_at → tie.Start
start-from-write-at c = c.before.before.before.before.before

add-write-at : tie.Need-overflow_add-at
add-write-at c = omega (arith, (start-from-write-at c.before.before.before).requires)

write-at-requires-2 : tie.Need-write_at-requires-2
write-at-requires-2 c κs = omega (arith, (start-from-write-at c.before.before.before).requires)

returns : tie.Need-returns
returns c =
    let at-write-at = c.before.before.before.before.before.before in
    let at-start = start-from-write-at at-write-at in
    let a = at-start.args in
    let z : length a.digest ≡ digest_size = search rules in
    c.write_at-2.ensures ∙ rw at-write-at.write_at.ensures
    (put_put a.common.now a.at digest_size a.digest a.tags.now z at-start.requires)

pub put_common_spec : {M : Type 1} → statement M
put_common_spec = tie.close (tie.spec (λ c. search rules) write-at-requires add-write-at write-at-requires-2 (λ c. search rules) returns)
