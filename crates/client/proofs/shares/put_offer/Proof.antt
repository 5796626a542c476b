-- `client::shares::put_offer` meets its contract, by those of the functions that it calls. Assumes nothing.
use borrow.Author.Rules.{rules}
use native.Mathlib.Omega.{arith}
use mathlib.Core.Path.{◌≡◌, ap, ◌∙◌}
use mathlib.Core.List.{◌++◌}
use Prim.Native.Nat.{ℕ, ◌+◌, ◌*◌, ◌≤◌}
use lib.ListN.{length, replicate, length-replicate}
use Rattle.cluster.specs.Config.{shelf}
use Rattle.cluster.specs.Ranges.{most_servers}
use Rattle.hmac.specs.Hmac.{tag_size}
use Rattle.protocol.specs.Values.{digest_size}
use Rattle.protocol.specs.View.{content_of}
use Rattle.client.specs.Steps.{digest_run}
use Rattle.client.proofs.Offered.{servers-few, offer-room, common_room, run_back, content_short, common-length, offered-run}
use Rattle.client.proofs.shares.put_offer.Statement.{statement}
use Rattle.client.proofs.shares.put_offer.Tie as tie

digest-size : (c : tie.Start) → length c.args.digest ≡ digest_size
digest-size c = search rules

put-parts-requires : tie.Need-put_parts-requires
put-parts-requires c κs =
    let at-start = c.before.before.before.before.before in
    let p = at-start.requires in
    (p.0, (p.1.0, (p.1.1.0, omega (arith, servers-few at-start.args.t p.1.0, p.1.1.1))))

-- Places far back, each named once: the place, and from where it is seen.
abbrev content-from-put-parts : tie.After-put_parts → tie.After-content-n
content-from-put-parts c = c.before.before.before

abbrev start-from-content : tie.After-content-n → tie.Start
start-from-content c = c.before.before.before

abbrev put-parts-from-servers : tie.After-servers → tie.After-put_parts
put-parts-from-servers c = c.before.before.before.before

abbrev put-parts-from-part : tie.After-part → tie.After-put_parts
put-parts-from-part c = put-parts-from-servers c.before.before.before

-- there are few servers, and each has its tag
few : (c : tie.After-servers) → (c.servers.result ≤ most_servers)
    × (length (start-from-content (content-from-put-parts (put-parts-from-servers c))).args.tags.now ≤ tag_size * most_servers)
few c =
    let at-start = start-from-content (content-from-put-parts (put-parts-from-servers c)) in
    let p = at-start.requires in
    let l = servers-few at-start.args.t p.1.0 in
    (omega (arith, c.servers.ensures, l), omega (arith, p.1.1.1, l))

-- what is the same in all shares is read back from its array
back : (c : tie.After-part)
    → let a = (start-from-content (content-from-put-parts (put-parts-from-part c))).args in
    c.part.result.now ≡ digest_run a.t (content_of a.call a.kept.now) (shelf a.t).servers ++ (a.digest ++ a.tags.now)
back c =
    let at-put-parts = put-parts-from-part c in
    let at-start = start-from-content (content-from-put-parts at-put-parts) in
    let a = at-start.args in
    let p = at-start.requires in
    let r = content_of a.call a.kept.now in
    let s = c.servers.ensures in
    let l = common-length a.t r p.0 p.1.0 (content_short a.call a.kept.now) a.digest a.tags.now (digest-size at-start)
    p.1.1.1 in
    run_back (replicate common_room 0) (digest_run a.t r (shelf a.t).servers ++ (a.digest ++ a.tags.now))
    (digest_size * c.servers.result + digest_size + length a.tags.now) c.part.ensures
    at-put-parts.put_parts.ensures.1 (omega (arith, s, l, p.1.1.1))
    (omega (arith, l, servers-few a.t p.1.0, length-replicate {A = ℕ} common_room 0))

put-ends-requires : tie.Need-put_ends-requires
put-ends-requires c κs =
    let at-content = content-from-put-parts (put-parts-from-part c) in
    let at-start = start-from-content at-content in
    let a = at-start.args in
    let p = at-start.requires in
    let r = content_of a.call a.kept.now in
    let l = common-length a.t r p.0 p.1.0 (content_short a.call a.kept.now) a.digest a.tags.now (digest-size at-start)
    p.1.1.1 in
    let n = at-content.content-n.ensures.1 in
    let k = offer-room a.t (length at-content.content-n.result.now) p.0 p.1.0 n in
    (p.1.0, (n, (search rules, omega (arith, k, ap length (back c), l))))

returns : tie.Need-returns
returns c =
    let at_part = c.before.before.before in
    let at-put-parts = put-parts-from-part at_part in
    let at-content = content-from-put-parts at-put-parts in
    let at-start = start-from-content at-content in
    let a = at-start.args in
    let p = at-start.requires in
    c.put_ends.ensures ∙ offered-run a.t (content_of a.call a.kept.now) p.0 p.1.0
    (content_short a.call a.kept.now) a.digest a.tags.now (digest-size at-start) p.1.1.1 a.kept.now p.1.1.0
    at-put-parts.put_parts.ensures.0 at-content.content-n.ensures.0 (back at_part)

pub put_offer_spec : {M : Type 1} → statement M
put_offer_spec = tie.close (tie.spec (λ c κs. search rules) (λ c. search rules) put-parts-requires (λ c κs. search rules)
    (λ c. omega (arith, few c)) (λ c. omega (arith, few c)) (λ c. omega (arith, few c)) (λ c. search rules) (λ c κs. search rules) put-ends-requires (λ c. search rules) returns)
