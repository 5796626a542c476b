-- Refusals of the weights and of restoring with weights at hand, test by test, and the two answers by their refusal. Each law goes through the cases of
-- its tests. Nothing is assumed.
use mathlib.Core.Path.{◌≡◌, refl, sym, ap, ◌∙◌}
use mathlib.Core.Logic.{◌≢◌}
use mathlib.Core.Bool.{Bool, true, false, not, cond}
use mathlib.Core.List.{List, [], ◌∷◌, ◌++◌}
use Prim.Native.Nat.{ℕ, ◌-◌, ◌*◌, ◌<◌, ◌≤◌}
use native.Mathlib.Nat.{suc-ne-zero}
use lib.Dec.{eqb, ltb}
use lib.ListN.{length, get_or, drop, replicate}
use borrow.Author.Tests.{ltb-false, eqb-true, not-false, lt-ltb, le-ltb}
use Rattle.cluster.specs.Config.{shelf}
use Rattle.cluster.specs.Ranges.{within, top_length, top_faults, content_room}
use Rattle.cluster.specs.Refusals.{refuse, first_of, on_refusal}
use Rattle.cluster.specs.declared.Outcome.{Outcome}
use Rattle.cluster.proofs.Tests.{within_bounds, refused_is}
use Rattle.erasure.specs.Weights.{WeightsOutcome}
use Rattle.erasure.specs.Choice.{first_different}
use Rattle.erasure.specs.Fragments.{fragment_size_def}
use Rattle.erasure.specs.Steps.{each, argument_checks, restore_refusal_def}
use Rattle.erasure.specs.System.{width}
use Rattle.erasure.specs.Weights.{weights_checks, weights_refusal_def, used_servers, used_weights, rows_room, weights_step}
use Rattle.erasure.specs.Weights.{weighed_refusal_def, weighed_bytes, weighed_step}
use Rattle.erasure.proofs.Refused.{each_at, first_of_first, first_of_second}

-- ---- the weights

module _ (t : ℕ) (servers : List ℕ) where
  pub server_tests : (a b : Bool) → not (within 1 top_faults t) ≡ a → not (each (within 1 (shelf t).servers) servers) ≡ b
      → first_of (weights_checks t servers) ≡ cond a 3 (cond b 4 0)
  unfolding weights_checks
  server_tests a b p q = λ i. cond (p i) 3 (cond (q i) 4 0)

  pub record Named : Type 0 where
    pub faults : (1 ≤ t) × (t ≤ top_faults)
    pub numbers : (i : ℕ) → i < length servers → (1 ≤ get_or servers i 0) × (get_or servers i 0 ≤ (shelf t).servers)

  pub named : first_of (weights_checks t servers) ≡ 0 → Named
  named e = go (not (within 1 top_faults t)) (not (each (within 1 (shelf t).servers) servers)) refl refl
    where
      go : (a b : Bool) → not (within 1 top_faults t) ≡ a → not (each (within 1 (shelf t).servers) servers) ≡ b → Named
      go true b p q = absurd (suc-ne-zero 2 (sym (server_tests true b p q) ∙ e))
      go false true p q = absurd (suc-ne-zero 3 (sym (server_tests false true p q) ∙ e))
      go false false p q = record {
        faults = within_bounds 1 top_faults t (not-false (within 1 top_faults t) p);
        numbers = λ i h. within_bounds 1 (shelf t).servers (get_or servers i 0)
            (each_at (within 1 (shelf t).servers) servers (not-false (each (within 1 (shelf t).servers) servers) q) i h);
      }

  -- too few different servers
  abbrev few : Bool
  few = ltb (length (first_different (shelf t).threshold servers)) (shelf t).threshold

  pub refused-servers : (x : ℕ) → x ≡ first_of (weights_checks t servers) → x ≢ 0 → weights_refusal_def t servers ≡ x
  unfolding weights_refusal_def
  refused-servers x e h = first_of_first (weights_checks t servers) _ (λ q. h (e ∙ q)) ∙ sym e

  accepted-servers : first_of (weights_checks t servers) ≡ 0 → weights_refusal_def t servers ≡ cond few 16 0
  unfolding weights_refusal_def weights_checks
  accepted-servers e = first_of_second (weights_checks t servers) (refuse 16 few ∷ []) (suc-ne-zero 2, (suc-ne-zero 3, tt)) e

  pub refused_as-few : first_of (weights_checks t servers) ≡ 0 → length (first_different (shelf t).threshold servers) < (shelf t).threshold
      → weights_refusal_def t servers ≡ 16
  refused_as-few e h = accepted-servers e ∙ ap (λ (b : Bool). cond b 16 0) (lt-ltb _ (shelf t).threshold h)

  pub not-refused : first_of (weights_checks t servers) ≡ 0 → (shelf t).threshold ≤ length (first_different (shelf t).threshold servers)
      → weights_refusal_def t servers ≡ 0
  not-refused e h = accepted-servers e ∙ ap (λ (b : Bool). cond b 16 0) (le-ltb _ (shelf t).threshold h)

  -- the answer where none is refused
  abbrev weights : WeightsOutcome
  weights = record {
    number = 0;
    count = (shelf t).threshold;
    servers = used_servers t servers ++ replicate (width - (shelf t).threshold) 0;
    rows = used_weights t servers ++ replicate (rows_room - (shelf t).threshold * (shelf t).threshold) 0;
  }

  abbrev none : ℕ → WeightsOutcome
  none y = record { number = y; count = 0; servers = replicate width 0; rows = replicate rows_room 0 }

  pub weights-refused : (x : ℕ) → weights_refusal_def t servers ≡ x → x ≢ 0 → weights_step t servers ≡ none x
  unfolding weights_step
  weights-refused x e h = ap (λ (y : ℕ). on_refusal y weights (none y)) e ∙ refused_is x weights (none x) h

  pub weights-accepted : weights_refusal_def t servers ≡ 0 → weights_step t servers ≡ weights
  unfolding weights_step
  weights-accepted e = ap (λ (y : ℕ). on_refusal y weights (none y)) e

-- refused for t or a server, restoring is refused with that number whatever else it is given
pub refused-alike : (t n : ℕ) (servers : List ℕ) (given room : ℕ) → first_of (weights_checks t servers) ≢ 0
    → restore_refusal_def t n servers given room ≡ first_of (weights_checks t servers)
unfolding restore_refusal_def argument_checks weights_checks
refused-alike t n servers given room some = go (not (within 1 top_faults t)) (not (each (within 1 (shelf t).servers) servers)) _ some
  where
    go : (a b : Bool) (rest : ℕ) → ◌≢◌ {A = ℕ} (cond a 3 (cond b 4 0)) 0 → cond a 3 (cond b 4 rest) ≡ cond a 3 (cond b 4 0)
    go true b rest h = refl
    go false true rest h = refl
    go false false rest h = absurd (h refl)

-- ---- restoring with weights at hand

module _ (t n given room : ℕ) where
  abbrev due : ℕ
  due = (shelf t).threshold * fragment_size_def (shelf t).threshold n

  pub weighed_tests : (a b c d : Bool) → not (within 1 top_faults t) ≡ a → ltb top_length n ≡ b → ltb room content_room ≡ c → not (eqb given due) ≡ d
      → weighed_refusal_def t n given room ≡ cond a 3 (cond b 6 (cond c 15 (cond d 16 0)))
  unfolding weighed_refusal_def
  weighed_tests a b c d p q r s = λ i. cond (p i) 3 (cond (q i) 6 (cond (r i) 15 (cond (s i) 16 0)))

  pub record Sums : Type 0 where
    pub faults : (1 ≤ t) × (t ≤ top_faults)
    pub bytes : n ≤ top_length
    pub fits : content_room ≤ room
    pub whole : given ≡ due

  pub sums : weighed_refusal_def t n given room ≡ 0 → Sums
  sums e = go (not (within 1 top_faults t)) (ltb top_length n) (ltb room content_room) (not (eqb given due)) refl refl refl refl
    where
      go : (a b c d : Bool) → not (within 1 top_faults t) ≡ a → ltb top_length n ≡ b → ltb room content_room ≡ c → not (eqb given due) ≡ d → Sums
      go true b c d p q r s = absurd (suc-ne-zero 2 (sym (weighed_tests true b c d p q r s) ∙ e))
      go false true c d p q r s = absurd (suc-ne-zero 5 (sym (weighed_tests false true c d p q r s) ∙ e))
      go false false true d p q r s = absurd (suc-ne-zero 14 (sym (weighed_tests false false true d p q r s) ∙ e))
      go false false false true p q r s = absurd (suc-ne-zero 15 (sym (weighed_tests false false false true p q r s) ∙ e))
      go false false false false p q r s = record {
        faults = within_bounds 1 top_faults t (not-false (within 1 top_faults t) p);
        bytes = ltb-false top_length n q;
        fits = ltb-false room content_room r;
        whole = eqb-true given due (not-false (eqb given due) s);
      }

module _ (t n : ℕ) (rows fragments output : List ℕ) where
  abbrev done : Outcome × List ℕ
  done = (record { number = 0; count = n }, weighed_bytes (shelf t).threshold n rows fragments ++ drop n output)

  pub weighed-refused : (x : ℕ) → x ≡ weighed_refusal_def t n (length fragments) (length output) → x ≢ 0
      → weighed_step t n rows fragments output ≡ (record { number = x; count = 0 }, output)
  unfolding weighed_step
  weighed-refused x e h =
      let refused : ℕ → Outcome × List ℕ = λ y. (record { number = y; count = 0 }, output) in
      ap (λ (y : ℕ). on_refusal y done (refused y)) (sym e) ∙ refused_is x done (refused x) h

  pub weighed-accepted : weighed_refusal_def t n (length fragments) (length output) ≡ 0 → weighed_step t n rows fragments output ≡ done
  unfolding weighed_step
  weighed-accepted e = ap (λ (y : ℕ). on_refusal y done (record { number = y; count = 0 }, output)) e
