-- `client::shares::put_parts` meets its contract, by those of the functions that it calls. Assumes nothing.
use borrow.Author.Rules.{rules}
use native.Mathlib.Omega.{arith}
use mathlib.Core.Path.{◌≡◌, ◌∙◌}
use mathlib.Core.List.{◌++◌}
use lib.ListN.{length, length-append}
use Rattle.cluster.specs.Config.{shelf}
use Rattle.protocol.specs.Values.{digest_size}
use Rattle.protocol.specs.View.{content_of}
use Rattle.client.proofs.ShareBytes.{digests_then}
use Rattle.client.proofs.Offered.{servers-few}
use Rattle.client.proofs.shares.put_parts.Statement.{statement}
use Rattle.client.proofs.shares.put_parts.Tie as tie

digest-size : (c : tie.Start) → length c.args.digest ≡ digest_size
digest-size c = search rules

-- Places far back, each named once: the place, and from where it is seen.
abbrev put-fragments-from-servers : tie.After-servers → tie.After-put_fragments
put-fragments-from-servers c = c.before.before.before.before.before.before

abbrev start-from-put-fragments : tie.After-put_fragments → tie.Start
start-from-put-fragments c = c.before.before.before.before.before.before

mul-put-common : tie.Need-overflow_mul-servers
mul-put-common c =
    let at-start = start-from-put-fragments (put-fragments-from-servers c) in
    omega (arith, c.servers.ensures, servers-few at-start.args.t at-start.requires.1.0)

put-common-requires : tie.Need-put_common-requires
put-common-requires c κs = omega (arith, c.servers.ensures, (start-from-put-fragments (put-fragments-from-servers c)).requires.1.1.1)

returns : tie.Need-returns
returns c =
    let at-servers = c.before.before.before in
    let at-put-fragments = put-fragments-from-servers at-servers in
    let at-start = start-from-put-fragments at-put-fragments in
    let a = at-start.args in
    let f = at-put-fragments.put_fragments.ensures in
    let l = length-append a.digest a.tags.now in (
      f.0,
      c.put_common.ensures ∙ rw (at-servers.servers.ensures, f.1)
          (digests_then a.t (content_of a.call a.kept.now) a.common.now (a.digest ++ a.tags.now) (shelf a.t).servers
          (omega (arith, digest-size at-start, l, at-start.requires.1.1.1))),
    )

pub put_parts_spec : {M : Type 1} → statement M
put_parts_spec = tie.close (tie.spec (λ c κs. search rules) (λ c κs. search rules) mul-put-common put-common-requires (λ c. search rules)
    (λ c. search rules) returns)
