-- The test of the arguments: which of them are refused, and what is known of the others. Nothing is assumed.
use mathlib.Core.Path.{◌≡◌, refl, sym, subst, ◌∙◌}
use mathlib.Core.Bool.{Bool, false, not, true}
use mathlib.Core.List.{List}
use Prim.Native.Nat.{ℕ, ◌≤◌}
use lib.Dec.{T, ltb, eqb}
use lib.ListN.{length}
use borrow.Author.Tests.{eqb-true, ltb-false, not-false}
use Rattle.std.specs.Prelude.{Result, Ok, Err, IsOk}
use Rattle.cluster.specs.declared.Refusal.{Refusal}
use Rattle.cluster.specs.Refusals.{number_told, outcome_told}
use Rattle.protocol.specs.View.{kept_size}
use Rattle.decide.specs.Listing.{usable}
use Rattle.decide.specs.Decided.{decide_refusal_def}
use Rattle.decide.specs.Steps.{Usable, UsableAs}
use Rattle.cluster.specs.Ranges.{within, top_faults, most_servers, content_room}
use Rattle.erasure.proofs.Refused.{refused-number}
use Rattle.cluster.proofs.Tests.{inside, passes}
use Rattle.cluster.specs.Config.{shelf}
use native.Mathlib.Omega.{arith}

-- a test has one answer
pub one_answer : {A : Type 0} {b : Bool} → b ≡ true → b ≡ false → A
one_answer e k = absurd (subst T (sym e ∙ k) tt)

-- what is told by 0 is no refusal
pub told-ok : {A : Type 0} (r : Result A Refusal) → number_told r ≡ 0 → IsOk r
told-ok (Ok a) e = refl
told-ok (Err why) e = absurd (refused-number why e)

pub outcome-number : (r : Result ℕ Refusal) → (outcome_told r).number ≡ number_told r
outcome-number (Ok a) = refl
outcome-number (Err why) = refl

-- the shelf has no more servers than there are slots
pub few : {t : ℕ} {kept : List ℕ} → Usable t kept → (shelf t).servers ≤ most_servers
unfolding shelf
few u = omega (arith, u.high)

-- what the code's test of the arguments leaves
module _ {t : ℕ} {kept : List ℕ} {r : Bool} (u : UsableAs t kept r) where
  pub unusable : r ≡ false → usable t kept ≡ false
  unusable e = sym u.same ∙ e

  pub is-usable : r ≡ true → usable t kept ≡ true
  is-usable e = sym u.same ∙ e

  pub known : r ≡ true → Usable t kept
  known e = u.told e

-- what is known of arguments that are not refused
pub allowed : (t : ℕ) (kept : List ℕ) (room : ℕ) → decide_refusal_def t (length kept) room ≡ 0 → Usable t kept × (content_room ≤ room)
unfolding decide_refusal_def
allowed t kept room e =
    let p₁ = passes (not (eqb (length kept) kept_size)) 254 _ e in
    let p₂ = passes (not (within 1 top_faults t)) 2 _ p₁.1 in
    let p₃ = passes (ltb room content_room) 14 _ p₂.1 in
    let r = inside 1 top_faults t p₂.0 in
    (record { low = r.0; high = r.1; size = eqb-true (length kept) kept_size (not-false _ p₁.0) }, ltb-false room content_room p₃.0)

module _ (t : ℕ) (kept : List ℕ) where
  pub faults_out : within 1 top_faults t ≡ false → UsableAs t kept false
  unfolding usable
  faults_out h = record { same = rw h refl; told = λ k. absurd (subst T (sym k) tt) }

  pub faults_in : within 1 top_faults t ≡ true → UsableAs t kept (eqb (length kept) kept_size)
  unfolding usable
  faults_in h =
      let r = inside 1 top_faults t (rw h refl) in
      record { same = rw h refl; told = λ k. record { low = r.0; high = r.1; size = eqb-true (length kept) kept_size k } }
