use Rattle.std.proofs.Common.{◌≡◌, length, arith, refl, rules}
use Rattle.planner.specs.Plan.{made_plan}
use Rattle.embed.proofs.Planned.{first_part, next-part, all-parts}
use Rattle.embed.proofs.plans.put_plan.Goals as goal

pub returns : goal.returns
returns c =
    let p = c.args.plan in
    let r = c.requires in
    let kinds : length p.kinds ≡ 13 = search rules in
    let filters : length p.filters ≡ 14 = search rules in
    let held : length p.held ≡ 2 = search rules in
    let packets : length p.packets ≡ 6 = search rules in
    let one = first_part 13 kinds (omega arith) c.put_at-past_kinds.ensures in
    let two = next-part 14 filters (omega arith) one c.put_at-past_filters.ensures in
    let three = next-part 2 held (omega arith) two c.put_at-past_held.ensures in
    let four = next-part 6 packets (omega arith) three c.put_at-past_packets.ensures in
    all-parts (made_plan p) (next-part 1 refl (omega arith) four c.put_at.ensures)
