-- What a plan says of filters, count by count, and the plan as a whole: refused, or made. By the cases of their tests. Nothing is assumed.
use mathlib.Core.Path.{◌≡◌, refl, sym, ap, ◌∙◌}
use mathlib.Core.List.{List}
use mathlib.Core.Logic.{◌≢◌}
use Prim.Native.Nat.{ℕ, zero, suc, ◌+◌, ◌*◌, ◌≤◌, ◌<◌}
use native.Mathlib.Omega.{arith}
use native.Mathlib.Decide.{dec_le}
use lib.ListN.{get_or, set}
use lib.Seq.{get_or-set_other}
use borrow.Author.Tests.{le-leb, lt-leb}
use Rattle.cluster.specs.Config.{Config, shelf}
use Rattle.cluster.specs.Ranges.{most_servers}
use Rattle.cluster.specs.Refusals.{on_refusal}
use Rattle.cluster.proofs.Tests.{refused_is, accepted_is}
use Rattle.erasure.specs.Fragments.{table}
use Rattle.erasure.proofs.Fill.{Filled, filled_more}
use Rattle.erasure.proofs.Lists.{table_is}
use Rattle.protocol.specs.Values.{candidate_size_def}
use Rattle.protocol.specs.Packet.{head_size}
use Rattle.planner.specs.Plan.{filter_size, plan_refusal_def, plan_of, no_plan, plan_step}

pub filter-fits : (s : Config) (count : ℕ) → count ≤ s.servers → filter_size s count ≡ head_size + (1 + count * candidate_size_def s)
filter-fits s count h = rw (le-leb count s.servers h)

pub filter_none : (s : Config) (count : ℕ) → s.servers < count → filter_size s count ≡ 0
filter_none s count h = rw (lt-leb count s.servers h)

-- the counts so far have their lengths, and those from there on 0
pub record FiltersTo (candidate count : ℕ) (out : List ℕ) : Type 0 where
  pub made : Filled 0 (λ i v. v ≡ head_size + (1 + i * candidate)) (most_servers + 1) count out
  pub others : (i : ℕ) → count ≤ i → i < most_servers + 1 → get_or out i 0 ≡ 0

pub one_filter : {candidate count : ℕ} {out : List ℕ} → FiltersTo candidate count out → count < most_servers + 1
    → FiltersTo candidate (count + 1) (set out count (head_size + (1 + count * candidate)))
one_filter {candidate} {count} {out} h few =
    record {
      made = filled_more h.made few _ refl;
      others = λ i l b. get_or-set_other out count i _ 0 (λ e. omega arith) ∙ h.others i (omega arith) b;
    }

pub filters-made : (t : ℕ) {candidate most k : ℕ} {out : List ℕ} → candidate ≡ candidate_size_def (shelf t) → most ≡ (shelf t).servers
    → k ≡ most + 1 → FiltersTo candidate k out → out ≡ table (most_servers + 1) (filter_size (shelf t))
filters-made t {candidate} {most} {k} {out} p q e h =
    table_is (most_servers + 1) out (filter_size (shelf t)) h.made.size (λ i b. at i b (dec_le i most))
  where
    at : (i : ℕ) → i < most_servers + 1 → Dec (i ≤ most) → get_or out i 0 ≡ filter_size (shelf t) i
    at i b (yes l) =
        h.made.each i (omega arith) ∙ ap (λ (n : ℕ). head_size + (1 + i * n)) p ∙ sym (filter-fits (shelf t) i (omega arith))
    at i b (no l) = h.others i (omega arith) b ∙ sym (filter_none (shelf t) i (omega arith))

module _ (t n readers stores : ℕ) where
  pub plan-made : plan_refusal_def t n readers stores ≡ 0 → plan_step t n readers stores ≡ plan_of t n readers stores
  unfolding plan_step
  plan-made e = accepted_is (plan_refusal_def t n readers stores) _ _ e

  pub plan-refused : plan_refusal_def t n readers stores ≢ 0 → plan_step t n readers stores ≡ no_plan (plan_refusal_def t n readers stores)
  unfolding plan_step
  plan-refused e = refused_is (plan_refusal_def t n readers stores) _ _ e

  pub plan-number : (plan_step t n readers stores).number ≡ plan_refusal_def t n readers stores
  unfolding plan_step
  plan-number = go (plan_refusal_def t n readers stores)
    where
      go : (k : ℕ) → (on_refusal k (plan_of t n readers stores) (no_plan k)).number ≡ k
      go zero = refl
      go (suc k) = refl
