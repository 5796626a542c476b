-- The candidate, and then the shares, whose content stands below it. Nothing is assumed.
use Rattle.std.proofs.Common.{◌≡◌, ◌∙◌, refl, length, length-append, ◌++◌, arith, rules}
use Rattle.cluster.specs.Config.{shelf}
use Rattle.protocol.specs.Values.{nonce_size}
use Rattle.client.proofs.Offered.{content-stays}
use Rattle.client.proofs.prepare.put_write.Goals as goal

pub put_candidate-requires : goal.put_candidate-requires
unfolding shelf
put_candidate-requires c =
    let p = c.requires in
    let z : length c.args.nonce.bytes ≡ nonce_size = search rules in
    (p.1.1.0, (p.1.1.1.0, (z, omega (arith, p.1.0, p.1.1.1.1))))

pub returns : goal.returns
unfolding shelf
returns c =
    let a = c.args in
    let p = c.requires in
    let z : length c.args.nonce.bytes ≡ nonce_size = search rules in
    let l = length-append a.stamp.now (a.nonce.bytes ++ a.tags.now) in
    let k = length-append a.nonce.bytes a.tags.now in
    c.put_offer.ensures ∙ rw (
      c.put_candidate.ensures,
      content-stays a.call a.kept.now (a.stamp.now ++ (a.nonce.bytes ++ a.tags.now)) p.1.1.0
          (omega (arith, l, k, z, p.1.0, p.1.1.1.0, p.1.1.1.1)),
    ) refl
