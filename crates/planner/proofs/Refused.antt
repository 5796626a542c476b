-- The refusals of a plan, test by test: the first test that applies gives the number, and what a plan that is made knows of its arguments.
-- Each law goes through the cases of its tests. Nothing is assumed.
use mathlib.Core.Path.{◌≡◌}
use mathlib.Core.Bool.{Bool, not, cond}
use Prim.Native.Nat.{ℕ, ◌≤◌}
use lib.Dec.{ltb}
use borrow.Author.Tests.{ltb-false}
use Rattle.cluster.specs.Ranges.{within, top_faults, top_client, top_length, capacity}
use Rattle.cluster.proofs.Tests.{inside, passes}
use Rattle.planner.specs.Plan.{plan_refusal_def}

module _ (t n readers stores : ℕ) where
  pub plan_tests : (a b c d : Bool) → not (within 1 top_faults t) ≡ a → not (within 1 top_client readers) ≡ b
      → ltb top_length n ≡ c → ltb capacity stores ≡ d
      → plan_refusal_def t n readers stores ≡ cond a 3 (cond b 5 (cond c 6 (cond d 18 0)))
  unfolding plan_refusal_def
  plan_tests a b c d p q r s = λ i. cond (p i) 3 (cond (q i) 5 (cond (r i) 6 (cond (s i) 18 0)))

  pub record Plans : Type 0 where
    pub faults : (1 ≤ t) × (t ≤ top_faults)
    pub together : (1 ≤ readers) × (readers ≤ top_client)
    pub bytes : n ≤ top_length
    pub kept : stores ≤ capacity

  pub plans : plan_refusal_def t n readers stores ≡ 0 → Plans
  unfolding plan_refusal_def
  plans e =
      let (a, x) = passes (not (within 1 top_faults t)) 2 _ e in
      let (b, y) = passes (not (within 1 top_client readers)) 4 _ x in
      let (c, z) = passes (ltb top_length n) 5 _ y in
      record {
        faults = inside 1 top_faults t a;
        together = inside 1 top_client readers b;
        bytes = ltb-false top_length n c;
        kept = ltb-false capacity stores (passes (ltb capacity stores) 17 0 z).0;
      }
