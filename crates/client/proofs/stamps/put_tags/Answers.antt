-- The tags so far have room, and the buffer keeps its length. Nothing is assumed.
use Rattle.std.proofs.Common.{◌≡◌, ◌∙◌, length, arith, rules}
use Rattle.hmac.specs.Hmac.{tag_size}
use Rattle.protocol.specs.Values.{run_of}
use Rattle.client.specs.Steps.{tag_run}
use Rattle.client.proofs.StampBytes.{put_none, key_at, tag_more}
use Rattle.client.proofs.Offered.{servers-few}
use Rattle.client.proofs.stamps.put_tags.Goals as goal

pub loop-i-init : goal.loop-i-init
unfolding tag_run run_of
loop-i-init c = put_none c.args.tags.now

pub bounds-keys-i : goal.bounds-keys-i
bounds-keys-i c = omega (arith, c.servers-i-end.ensures, servers-few c.args.t c.requires.0)

pub write_at-requires : goal.write_at-requires
write_at-requires c =
    let g : length c.tag_with-tag.result ≡ tag_size = search rules in
    omega (arith, c.loop-i.auto.tags, c.servers-i-end.ensures, c.requires.1, g)

pub loop-i-preserved : goal.loop-i-preserved
loop-i-preserved c =
    let a = c.args in
    let i = c.loop-i.i in
    c.write_at.ensures
    ∙ rw (c.loop-i.invariant, c.tag_with-tag.ensures) (tag_more a.tags.now a.keys.now a.stamp.now a.digest i _ (key_at a.keys.now i)
    (omega (arith, c.servers-i-end.ensures, c.requires.1)))
