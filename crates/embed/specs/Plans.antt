-- A plan for other languages goes to a row of numbers, which must have room for all of them, so that its refusal depends on its length alone; then come
-- the operation's own refusals.
use Rattle.std.specs.Prelude.{List, [], ◌∷◌, ◌++◌, ℕ, ltb, length}
use Rattle.cluster.specs.Refusals.{wrong_size, refuse, first_of, on_refusal}
use Rattle.planner.specs.Plan.{PlanOutcome}
use Rattle.planner.specs.Plan.{plan_step}

-- how many numbers a plan has: 13 kinds, 14 counts of candidates, 2 forms of a reply to filter, 6 counts of packets, and a memory's bytes
abbrev pub plan_room : ℕ
plan_room = 36

-- the numbers of a plan, part after part
unfoldable pub numbers_of_def : PlanOutcome → List ℕ
numbers_of_def p = p.kinds ++ (p.filters ++ (p.held ++ (p.packets ++ (p.memory ∷ []))))

unfoldable pub planned_numbers : (t n readers stores : ℕ) → List ℕ
planned_numbers t n readers stores = numbers_of_def (plan_step t n readers stores)

unfoldable pub plan_export_refusal : (t n readers stores : ℕ) → List ℕ → ℕ
plan_export_refusal t n readers stores numbers =
    let size = first_of (refuse wrong_size (ltb (length numbers) plan_room) ∷ []) in on_refusal size (plan_step t n readers stores).number size
