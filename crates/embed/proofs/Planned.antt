-- What the export of a plan rests on. The parts of a plan, written one after the other from the front on, are its numbers over the front: each part
-- starts where the one before it ended, and a write keeps the length, so there is room for the next. A plan has plan_room numbers, also where it is
-- refused, since each part has a length of its own. Assumes nothing.
use mathlib.Core.Path.{◌≡◌, refl, ap, ◌∙◌}
use mathlib.Core.List.{List, [], ◌∷◌, ◌++◌, append_assoc}
use Prim.Native.Nat.{ℕ, zero, suc, ◌+◌, ◌-◌, ◌≤◌}
use native.Mathlib.Omega.{arith}
use lib.ListN.{length, length-append}
use Rattle.cluster.specs.Refusals.{on_refusal}
use Rattle.erasure.proofs.Lists.{length-table}
use borrow.Rule.Slice.PartMut.{put_mid}
use lib.Seq.{drop-drop}
use Rattle.format.specs.Reading.{put, over, Wrote}
use Rattle.format.proofs.Puts.{put-over, wrote_then, wrote-length}
use Rattle.planner.specs.Plan.{PlanOutcome}
use Rattle.planner.specs.Plan.{plan_refusal_def, plan_step}
use Rattle.embed.specs.Plans.{plan_room, numbers_of_def, planned_numbers}

-- a part copied to its place
pub copied : (d : List ℕ) (at : ℕ) (b : List ℕ) {k : List ℕ} → k ≡ b → Wrote d at b (put_mid at (at + length b - at) d k) (at + length b)
unfolding put
copied d at b e =
    let n : at + length b - at ≡ length b = omega arith in
    record { bytes = rw (e, n) (simp drop-drop); place = refl }

-- ---- part after part

-- as many numbers as are written, from the front on: the next place is past them, and the length is kept
pub record Front (d : List ℕ) (n : ℕ) (b e : List ℕ) (next : ℕ) : Type 0 where
  pub wrote : Wrote d 0 b e next
  pub place : next ≡ n
  pub count : length b ≡ n
  pub long : length e ≡ length d

pub first_part : {d e : List ℕ} {k : ℕ} {b : List ℕ} (n : ℕ) → length b ≡ n → n ≤ length d → Wrote d 0 b e k → Front d n b e k
first_part n l h w = record { wrote = w; place = omega (arith, w.place); count = l; long = wrote-length w (omega arith) }

pub next-part : {d e f : List ℕ} {i k n : ℕ} {a b : List ℕ} (j : ℕ) → length b ≡ j → i + j ≤ length d → Front d i a e k → Wrote e k b f n
    → Front d (i + j) (a ++ b) f n
next-part {a = a} {b = b} j l h p w =
    let both = wrote_then p.wrote w (omega (arith, p.count)) in
    let sum = length-append a b in
    record {
      wrote = both;
      place = omega (arith, both.place, p.count);
      count = omega (arith, p.count);
      long = wrote-length both (omega (arith, p.count));
    }

-- four of them in the order in which they are written, and all
abbrev pub join : (kinds filters held packets : List ℕ) → List ℕ
join kinds filters held packets = kinds ++ filters ++ held ++ packets

pub all-parts : {d e : List ℕ} {n k : ℕ} (p : PlanOutcome)
    → Front d n (join p.kinds p.filters p.held p.packets ++ (p.memory ∷ [])) e k → e ≡ over (numbers_of_def p) d
unfolding numbers_of_def
all-parts {d} p w = w.wrote.bytes ∙ put-over d _ ∙ ap (λ (z : List ℕ). over z d) (simp append_assoc)

-- ---- how many numbers a plan has

count_of : (p : PlanOutcome) → length p.kinds ≡ 13 → length p.filters ≡ 14 → length p.held ≡ 2 → length p.packets ≡ 6
    → length (numbers_of_def p) ≡ plan_room
unfolding numbers_of_def
count_of p kinds filters held packets = simp (length-append, kinds, filters, held, packets)

either-count : (q : ℕ) (x y : PlanOutcome) → length (numbers_of_def x) ≡ plan_room → length (numbers_of_def y) ≡ plan_room
    → length (numbers_of_def (on_refusal q x y)) ≡ plan_room
either-count zero x y p q = p
either-count (suc n) x y p q = q

-- ---- the export

module _ (t n readers stores : ℕ) where
  pub planned-count : length (planned_numbers t n readers stores) ≡ plan_room
  unfolding planned_numbers plan_step
  planned-count =
      either-count (plan_refusal_def t n readers stores) _ _ (count_of _ refl (length-table 14 _) refl refl) (count_of _ refl refl refl refl)

pub ruleset counts = (planned-count)
