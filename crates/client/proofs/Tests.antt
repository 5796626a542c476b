-- What the round of a number tells: the kind that it awaits, and whether a call is in hand; and codes and refusals as facts.
-- Each is by cases on the number or the round. Assumes nothing.
use mathlib.Core.Path.{◌≡◌, refl, sym}
use mathlib.Core.Logic.{◌⊎◌, ⊎_elim}
use mathlib.Core.Bool.{true, false, cond, ◌||◌, true≢false}
use Prim.Native.Nat.{ℕ, zero, suc, ◌*◌, ◌≤◌, ◌<◌}
use native.Mathlib.Omega.{arith}
use lib.Dec.{leb, eqb}
use borrow.Author.Tests.{lt-leb, ne_eqb}
use Rattle.std.specs.Prelude.{Some, None, Result, Err}
use Rattle.std.specs.declared.option.Option.{Option}
use Rattle.protocol.specs.declared.Call.{Call}
use Rattle.std.specs.Option.{is_some, ok_or, MatchOption}
use Rattle.cluster.specs.Ranges.{within}
use Rattle.protocol.specs.Kinds.{round_number, round_told, code_number}
use Rattle.protocol.specs.declared.codes.Code.{Code}
use Rattle.protocol.specs.ClientBytes.{in_hand, awaited}
use Rattle.client.specs.Steps.{awaited_by}
use Rattle.cluster.specs.declared.Refusal.{Refusal}
use Rattle.cluster.specs.declared.Refusal.TheVariants as refusals
use Rattle.cluster.specs.Refusals.{number_told}
use Rattle.cluster.proofs.Tests.{within-high}
use Rattle.protocol.specs.declared.rounds.Round.{Round}
use Rattle.protocol.specs.declared.rounds.Round.TheVariants as round

-- a number above 6 has no round
none_told : (n : ℕ) → 6 < n → round_told n ≡ None
none_told n h = rw (
  ne_eqb n 1 (λ e. omega arith),
  ne_eqb n 2 (λ e. omega arith),
  ne_eqb n 3 (λ e. omega arith),
  ne_eqb n 4 (λ e. omega arith),
  ne_eqb n 5 (λ e. omega arith),
  ne_eqb n 6 (λ e. omega arith),
) refl

awaited_is : (n : ℕ) → awaited_by (round_told n) ≡ cond (within 1 6 n) (2 * n) 0
awaited_is zero = refl
awaited_is (suc zero) = refl
awaited_is (suc (suc zero)) = refl
awaited_is (suc (suc (suc zero))) = refl
awaited_is (suc (suc (suc (suc zero)))) = refl
awaited_is (suc (suc (suc (suc (suc zero))))) = refl
awaited_is (suc (suc (suc (suc (suc (suc zero)))))) = refl
awaited_is (suc (suc (suc (suc (suc (suc (suc n))))))) =
    let m : ℕ = suc (suc (suc (suc (suc (suc (suc n)))))) in
    rw (none_told m (omega arith), within-high 1 6 m (omega arith) (omega arith)) refl

-- the kind that the round of a number awaits
pub awaited-told : (c : Call) → awaited_by (round_told c.tally.round) ≡ awaited c
unfolding awaited in_hand
awaited-told c = awaited_is c.tally.round

some_is : (n : ℕ) → is_some (round_told n) ≡ within 1 6 n
some_is zero = refl
some_is (suc zero) = refl
some_is (suc (suc zero)) = refl
some_is (suc (suc (suc zero))) = refl
some_is (suc (suc (suc (suc zero)))) = refl
some_is (suc (suc (suc (suc (suc zero))))) = refl
some_is (suc (suc (suc (suc (suc (suc zero)))))) = refl
some_is (suc (suc (suc (suc (suc (suc (suc n))))))) =
    let m : ℕ = suc (suc (suc (suc (suc (suc (suc n)))))) in
    rw (none_told m (omega arith), within-high 1 6 m (omega arith) (omega arith)) refl

-- a number has a round where a call is in hand
pub hand-told : (c : Call) → is_some (round_told c.tally.round) ≡ in_hand c
unfolding in_hand
hand-told c = some_is c.tally.round

-- no round, and none but that, is refused with 13
pub hand_refused : (o : Option Round) → number_told (ok_or o refusals.Hand) ≡ cond (eqb (awaited_by o) 0) 13 0
hand_refused None = refl
hand_refused (Some round.Clock) = refl
hand_refused (Some round.Store) = refl
hand_refused (Some round.Complete) = refl
hand_refused (Some round.Collect) = refl
hand_refused (Some round.Filter) = refl
hand_refused (Some round.Repair) = refl

-- a refusal is that of its error
pub same_err : {T : Type 0} (x y : Refusal) → ◌≡◌ {A = Result T Refusal} (Err x) (Err y) → x ≡ y
same_err x y e = cc

-- clock is the round of number 1
pub past-clock : (r : Round) → (r ≡ round.Clock → ⊥) → round_number r ≡ 1 → ⊥
past-clock round.Clock h e = h refl
past-clock round.Store h e = omega (arith, e)
past-clock round.Complete h e = omega (arith, e)
past-clock round.Collect h e = omega (arith, e)
past-clock round.Filter h e = omega (arith, e)
past-clock round.Repair h e = omega (arith, e)

-- a number that is a code's has that code
pub told-code : (n : ℕ) → (eqb n 0 || leb 10 n) ≡ true → n ≤ 11 → (o : Option Code)
    → MatchOption o (((0 < n) × (n < 10)) ⊎ (11 < n)) (λ k. code_number k ≡ n) → is_some o ≡ true
told-code n e h None m =
    absurd (⊎_elim (λ w. true≢false (sym (rw (ne_eqb n 0 (λ z. omega (arith, z, w.0)), lt-leb 10 n w.1) at e))) (λ w. omega (arith, w, h)) m)
told-code n e h (Some k) m = refl

-- a round awaits a kind
pub awaits_some : (r : Round) → eqb (awaited_by (Some r)) 0 ≡ false
awaits_some round.Clock = refl
awaits_some round.Store = refl
awaits_some round.Complete = refl
awaits_some round.Collect = refl
awaits_some round.Filter = refl
awaits_some round.Repair = refl
