-- `client::stamps::higher` meets its contract, by those of the functions that it calls. Assumes nothing.
use borrow.Author.Rules.{rules}
use mathlib.Core.Path.{◌≡◌, sym, ◌∙◌}
use Prim.Native.Nat.{◌<◌}
use native.Mathlib.Omega.{arith}
use Rattle.hmac.specs.Hmac.{tag_of, tag_size}
use Rattle.protocol.specs.Values.{same_list}
use Rattle.protocol.specs.View.{stamp_at_def}
use Rattle.format.specs.Reading.{bytes_at}
use Rattle.client.proofs.StampBytes.{stays-low, raised, not-raised}
use Rattle.client.proofs.stamps.higher.Statement.{statement}
use Rattle.client.proofs.stamps.higher.Tie as tie

returns : tie.Need-returns-then-number-high
returns c =
    let z = c.before.before in
    let a = z.args in
    let e = z.requires.1 in
    sym (stays-low a.writers.now a.body.now a.high (rw e at c.if-number-high.true))

-- the number is higher, and the tags compared are the stamp's and the one that the writers' key gives
up : (c : tie.Else-number-high) → c.args.high < (stamp_at_def c.args.body.now).number
up c = let e = c.requires.1 in rw e at c.if-number-high.false

-- Places far back, each named once: the place, and from where it is seen.
abbrev shared-slice-known-from-part : tie.After-part → tie.After-shared_slice_known-1
shared-slice-known-from-part c = c.before.before.before

abbrev part-from-compared : tie.After-same_throughout → tie.After-part
part-from-compared c = c.before.before.before.before

tags : (c : tie.After-same_throughout)
    → let at_part = c.before.before.before.before in
    let a = at_part.args in
    c.same_throughout.result ≡ same_list (bytes_at a.body.now 5 tag_size) (tag_of a.writers.now (bytes_at a.body.now 0 5))
tags c = c.same_throughout.ensures ∙ rw (
  c.part-2.ensures,
  c.tag-tag.ensures,
  c.part.ensures,
)

returns-2 : tie.Need-returns-then-same_throughout
returns-2 c =
    let at_part = part-from-compared c.before in
    let at-shared-slice-known = shared-slice-known-from-part at_part in
    let z = at-shared-slice-known.before in
    let a = z.args in
    z.requires.1 ∙ sym (raised a.writers.now a.body.now a.high
    (λ k. (at-shared-slice-known.shared_slice_known-1.given k).fits) (omega (arith, z.requires.0))
    (up at_part.before.before) (sym (tags c.before) ∙ c.if-same_throughout.true))

returns-3 : tie.Need-returns
returns-3 c =
    let at_part = part-from-compared c.before in
    let at-shared-slice-known = shared-slice-known-from-part at_part in
    let z = at-shared-slice-known.before in
    let a = z.args in
    sym (not-raised a.writers.now a.body.now a.high (λ k. (at-shared-slice-known.shared_slice_known-1.given k).fits)
    (omega (arith, z.requires.0)) (up at_part.before.before) (sym (tags c.before) ∙ c.if-same_throughout.false))

pub higher_spec : {M : Type 1} → statement M
higher_spec = tie.close (tie.spec returns (λ c κs. search rules) (λ c κs. search rules) (λ c κs. search rules) (λ c. search rules)
    (λ c κs. search rules) returns-2 returns-3)
