-- The digest of the nonce is made once; then slot by slot. Nothing is assumed.
use Rattle.std.proofs.Common.{◌∙◌, sym, ap, ◌+◌, ◌*◌, arith}
use Rattle.cluster.specs.Config.{shelf}
use Rattle.sha256.specs.Sha256.{sha256}
use Rattle.protocol.specs.Values.{stamp_size, digest_size}
use Rattle.protocol.specs.View.{candidate_slot, candidates_place}
use Rattle.decide.proofs.Groups.{leader_none, leader_more}
use Rattle.decide.proofs.Led.{first-leads}
use Rattle.decide.proofs.Places.{part_of, nonce_in}
use Rattle.decide.proofs.leading.leader.Goals as goal

pub loop-b-init : goal.loop-b-init
loop-b-init c = let q = c.args.sought in leader_none q.replied.t q.replied.marks c.args.kept.now q.slot

pub group_of-requires : goal.group_of-requires
group_of-requires c =
    let a = c.args in
    let q = a.sought in (
      c.requires.0,
      c.requires.1,
      omega arith,
      c.digest-d.ensures ∙ ap sha256
          (part_of a.kept.now (candidates_place + candidate_slot * q.slot + stamp_size) digest_size ∙ sym
          (nonce_in (shelf q.replied.t) a.kept.now q.slot c.requires.1)),
    )

pub returns-in-Some : goal.returns-in-Some
returns-in-Some c =
    let q = c.args.sought in
    let g = c.in-Some.ensures in
    record {
      leader = first-leads q.replied.t q.replied.marks c.args.kept.now q.slot c.loop-b.b c.in-Some.group.leader (omega arith) c.loop-b.invariant g.leader;
      these = g.these;
    }

pub loop-b-preserved : goal.loop-b-preserved
loop-b-preserved c =
    let q = c.args.sought in
    leader_more q.replied.t q.replied.marks c.args.kept.now q.slot c.loop-b.b c.loop-b.invariant ∙ c.in_default.ensures
