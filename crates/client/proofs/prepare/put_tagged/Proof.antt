-- `client::prepare::put_tagged` meets its contract, by those of the functions that it calls. Assumes nothing.
use mathlib.Core.Path.{◌≡◌, ◌∙◌}
use native.Mathlib.Omega.{arith}
use lib.ListN.{length, replicate, length-replicate}
use Prim.Native.Nat.{ℕ, ◌*◌}
use Rattle.cluster.specs.Config.{shelf}
use mathlib.Core.List.{List}
use Rattle.hmac.specs.Hmac.{tag_size}
use Rattle.client.specs.Steps.{tag_run}
use Rattle.client.proofs.StampBytes.{tag-run-length}
use Rattle.client.proofs.Offered.{run_back, servers-few}
use borrow.Author.Rules.{rules}
use Rattle.cluster.specs.Ranges.{most_servers}
use Rattle.client.proofs.prepare.put_tagged.Statement.{statement}
use Rattle.client.proofs.prepare.put_tagged.Tie as tie

put-tags-requires : tie.Need-put_tags-requires
put-tags-requires c κs =
    let at-start = c.before.before.before.before.before in
    let a = at-start.args in
    let p = at-start.requires in
    (p.1.0, omega (arith, servers-few a.t p.1.0))

-- Places far back, each named once: the place, and from where it is seen.
abbrev start-from-put-tags : tie.After-put_tags → tie.Start
start-from-put-tags c = c.before.before.before.before.before.before

mul-part : tie.Need-overflow_mul-servers
mul-part c =
    let at-put-tags = c.before.before.before in
    let at-start = start-from-put-tags at-put-tags in
    let a = at-start.args in
    let p = at-start.requires in
    omega (arith, c.servers.ensures, servers-few a.t p.1.0)

abbrev put-tags-from-part : tie.After-part-made → tie.After-put_tags
put-tags-from-part c = c.before.before.before.before

-- the tags are read back from their array
abbrev run : tie.After-part-made → List ℕ
run c =
    let at-put-tags = c.before.before.before.before in
    let a = at-put-tags.args in
    tag_run a.keys.now a.stamp.now at-put-tags.digest-digest.result (shelf a.t).servers

tags-back : (c : tie.After-part-made) →
    (length (run c) ≡ tag_size * (shelf (start-from-put-tags (put-tags-from-part c)).args.t).servers) × (c.part-made.result.now ≡ run c)
tags-back c =
    let at-put-tags = put-tags-from-part c in
    let at-start = start-from-put-tags at-put-tags in
    let a = at-start.args in
    let l = tag-run-length a.keys.now a.stamp.now at-put-tags.digest-digest.result (shelf a.t).servers in (
      l,
      run_back (replicate (tag_size * most_servers) 0) (run c) (tag_size * c.servers.result) c.part-made.ensures
          at-put-tags.put_tags.ensures (omega (arith, l, c.servers.ensures)) (omega (
            arith,
            l,
            servers-few a.t at-start.requires.1.0,
            length-replicate {A = ℕ} (tag_size * most_servers) 0,
          )),
    )

put-write-requires : tie.Need-put_write-requires
put-write-requires c κs =
    let at_part = c.before in
    let at-put-tags = put-tags-from-part at_part in
    let at-start = start-from-put-tags at-put-tags in
    let p = at-start.requires in
    let w = tags-back c.before in
    (p.0, (p.1.0, (p.1.1.0, (p.1.1.1, rw w.1 w.0))))

returns : tie.Need-returns
returns c =
    let at_part = c.before.before.before.before in
    c.put_write.ensures ∙ rw (
      (tags-back at_part).1,
      at_part.digest-digest.ensures,
    )

pub put_tagged_spec : {M : Type 1} → statement M
put_tagged_spec = tie.close (tie.spec (λ c. search rules) (λ c κs. search rules) (λ c. search rules) put-tags-requires (λ c. search rules)
    (λ c κs. search rules) mul-part (λ c κs. search rules) put-write-requires (λ c. search rules) returns)
