-- The list of the slots passed is written. Nothing is assumed.
use Rattle.std.proofs.Common.{arith}
use Rattle.format.proofs.Puts.{wrote-length}
use Rattle.protocol.specs.Rules.{gather}
use Rattle.client.proofs.ListBytes.{wrote_none, list-room, list-entry}
use Rattle.client.proofs.Offered.{servers-few}
use Rattle.client.proofs.list.put_list.Goals as goal

pub loop-i-init : goal.loop-i-init
unfolding gather
loop-i-init c = wrote_none c.args.out.now c.args.at

pub put_entry-next-requires : goal.put_entry-next-requires
put_entry-next-requires c =
    let a = c.args in
    let p = c.requires in
    let i = c.loop-i.i in
    let v = c.loop-i.invariant in
    let s = servers-few a.t p.1.0 in
    let e = c.servers-i-end.ensures in
    let m = list-room a.t a.kept.now p.0 p.1.0 p.1.1.0 i (omega (arith, e)) in
    let r = wrote-length v (omega (arith, m, p.1.1.1, s, e)) in
    (p.1.0, (omega (arith, e, s), (p.1.1.0, omega (arith, m, r, v.place, e, s, p.1.1.1))))

pub loop-i-preserved : goal.loop-i-preserved
loop-i-preserved c =
    let a = c.args in
    let p = c.requires in
    list-entry a.t a.kept.now p.0 p.1.0 p.1.1.0 c.loop-i.i (omega (arith, c.servers-i-end.ensures)) p.1.1.1 c.loop-i.invariant c.put_entry-next.ensures
