-- What the exported functions share: a copy to the front of a buffer, and what a refused and an accepted call answer and leave.
-- Assumes nothing.
use mathlib.Core.Path.{◌≡◌, refl, sym, ap, ◌∙◌}
use mathlib.Core.Logic.{◌≢◌}
use mathlib.Core.List.{List, ◌++◌}
use Prim.Native.Nat.{ℕ, zero, suc}
use lib.ListN.{length, take, drop}
use Rattle.format.specs.Reading.{over}
use Rattle.cluster.proofs.Tests.{refused_is}
use Rattle.erasure.proofs.Refused.{refused-number}
use Rattle.sha256.proofs.Laws.{sha-length}
use Rattle.hmac.proofs.Laws.{tag-length, hmac-length}
use Rattle.cluster.specs.Refusals.{on_refusal, refusal_number}
use Rattle.cluster.specs.declared.Refusal.{Refusal}
use Rattle.embed.specs.Packing.{packed, answer, written_by}

pub refused : (n q r : ℕ) (bytes out : List ℕ) → q ≡ suc n → r ≡ packed (suc n) 0 0 0
    → (r ≡ answer q bytes) × (out ≡ written_by q bytes out)
refused n q r bytes out e gives = rw e (gives, refl)

-- the same for a number that is only known not to be 0
pub refused_with_lem : (m q r : ℕ) (bytes out : List ℕ) → q ≡ m → m ≢ 0 → r ≡ packed m 0 0 0
    → (r ≡ answer q bytes) × (out ≡ written_by q bytes out)
refused_with_lem zero q r bytes out e some gives = absurd (some refl)
refused_with_lem (suc n) q r bytes out e some gives = refused n q r bytes out e gives

pub carried-out : (n q r : ℕ) (bytes made out after : List ℕ) → q ≡ 0 → r ≡ packed 0 0 0 n
    → take n made ≡ bytes → length bytes ≡ n → after ≡ take n made ++ drop n out
    → (r ≡ answer q bytes) × (after ≡ written_by q bytes out)
unfolding over
carried-out n q r bytes made out after e gives same long puts =
    rw e (
      gives ∙ ap (λ (k : ℕ). packed 0 0 0 k) (sym long),
      puts ∙ ap (λ (b : List ℕ). b ++ drop n out) same ∙ ap (λ (k : ℕ). bytes ++ drop k out) (sym long),
    )

-- ---- the enum of refusals

-- its numbers are not 0
pub at_refusal : {A : Type 0} (why : Refusal) (x y : A) → on_refusal (refusal_number why) x y ≡ y
at_refusal why x y = refused_is (refusal_number why) x y (refused-number why)

-- ---- the refusals, test by test

-- how long digests and tags are
pub ruleset lengths = (sha-length, tag-length, hmac-length)
