-- Quorums as counts at a moment: so many servers that lie or have a property that they are S - t. Two of them meet at a correct server, and
-- what such a quorum covers or has heard of lasts.
-- Assumes nothing.
use mathlib.Core.Path.{◌≡◌, ◌∙◌}
use mathlib.Core.Bool.{Bool, true, false, not, ◌&&◌, ◌||◌}
use mathlib.Core.List.{◌∷◌}
use Prim.Native.Nat.{ℕ, ◌≤◌, ◌<◌}
use native.Mathlib.Omega.{arith}
use Rattle.cluster.specs.Config.{quorum}
use Rattle.protocol.specs.declared.Stamp.{Stamp}
use Rattle.protocol.specs.Values.{below}
use Rattle.protocol.specs.Rules.{count_to}
use borrow.Author.Tests.{not-true}
use Rattle.atomicity.proofs.Util.{bool_case, not_f, and_left, and_right, or_left, or_right, or-given}
use Rattle.atomicity.proofs.Counting.{count_mono, share, share-k, correct_one}
use Rattle.atomicity.proofs.Setup.{Setup, Steps, StepOf, right, few-liars, Same, same_right, right_step, lat}
use Rattle.atomicity.proofs.Covers.{Covers, covers_up}
use Rattle.atomicity.proofs.Heard.{lat-up}

module _ (K : Setup) where
  abbrev pub S : ℕ
  S = K.s.config.servers

  abbrev pub Q : ℕ
  Q = quorum K.s.config

  -- so many servers that either lie or have P that they are a quorum
  unfoldable pub Many : Steps K → (ℕ → Bool) → Type 0
  Many xs P = Q ≤ count_to S (λ j. not (right K xs j) || P j)

  abbrev pub FullAt : Steps K → Stamp → Type 0
  FullAt xs a = Many xs (λ j. Covers K xs j a)

  abbrev pub TopAt : Steps K → Stamp → Type 0
  TopAt xs a = Many xs (λ j. not (below (lat K xs j) a))

  -- from one moment to another, server by server: each that is correct then
  pub many_mono : (xs ys : Steps K) (P R : ℕ → Bool) →
      ((j : ℕ) → 1 ≤ j → j ≤ S → right K ys j ≡ true → (right K xs j ≡ true → P j ≡ true) → R j ≡ true) → Many xs P → Many ys R
  unfolding Many
  many_mono xs ys P R f h = omega (
    arith,
    h,
    count_mono (λ j. not (right K xs j) || P j) (λ j. not (right K ys j) || R j) S
        (λ j lo hi e. bool_case (right K ys j) (λ t. or_right (not (right K ys j)) (R j) (f j lo hi t (or-given (right K xs j) (P j) e)))
        (λ t. or_left (not (right K ys j)) (R j) (not_f _ t))),
  )

  pub many_at : (ys xs : Steps K) (P : ℕ → Bool) → Same K ys xs → Many ys P → Many xs P
  many_at ys xs P same h = many_mono ys xs P P (λ j lo hi e k. k (same_right K ys xs same j ∙ e)) h

  -- a quorum of replies
  pub many-marks : (xs : Steps K) (P m : ℕ → Bool) → Q ≤ count_to S m → ((j : ℕ) → right K xs j ≡ true → m j ≡ true → P j ≡ true) → Many xs P
  unfolding Many
  many-marks xs P m l f = omega (
    arith,
    l,
    count_mono m (λ j. not (right K xs j) || P j) S
        (λ j lo hi e. bool_case (right K xs j) (λ t. or_right (not (right K xs j)) (P j) (f j t e))
        (λ t. or_left (not (right K xs j)) (P j) (not_f _ t))),
  )

  pub meets : (xs : Steps K) (P R : ℕ → Bool) → Many xs P → Many xs R → (j : ℕ) × (right K xs j ≡ true) × (P j ≡ true) × (R j ≡ true)
  unfolding Many
  meets xs P R p q = let r = share K.s.config K.legal (right K xs) (few-liars K xs) P R p q in
      let j = r.0 in
      let b = and_right (right K xs j) _ r.3 in
      (j, and_left (right K xs j) _ r.3, and_left (P j) (R j) b, and_right (P j) (R j) b)

  pub meets-marks : (xs : Steps K) (P m : ℕ → Bool) → Many xs P → Q ≤ count_to S m → (j : ℕ) × (right K xs j ≡ true) × (P j ≡ true) × (m j ≡ true)
  meets-marks xs P m p l = meets xs P m p (many-marks xs m m l (λ j h e. e))

  -- of a quorum of correct servers, k are among the many
  pub meets-k : (xs : Steps K) (P m : ℕ → Bool) → Many xs P → Q ≤ count_to S (λ j. right K xs j && m j) →
      K.s.config.threshold ≤ count_to S (λ j. right K xs j && (P j && m j))
  unfolding Many
  meets-k xs P m p l = share-k K.s.config K.legal (right K xs) (few-liars K xs) P m p l

  -- k servers have a correct one
  pub correct_in : (xs : Steps K) (m : ℕ → Bool) → K.s.config.threshold ≤ count_to S m →
      (j : ℕ) × (1 ≤ j) × (j ≤ S) × (right K xs j ≡ true) × (m j ≡ true)
  correct_in xs m l = let r = correct_one K.s.config K.legal (right K xs) (few-liars K xs) m l in
      (r.0, r.1, r.2, and_left (right K xs r.0) _ r.3, and_right (right K xs r.0) _ r.3)

  pub full-up : (a : Stamp) (x : StepOf K) (xs : Steps K) → FullAt xs a → FullAt (x ∷ xs) a
  full-up a x xs h = many_mono xs (x ∷ xs) _ _ (λ j lo hi e p. covers_up K x xs j a (p (right_step K x xs j ∙ e))) h

  pub top_up : (a : Stamp) (x : StepOf K) (xs : Steps K) → TopAt xs a → TopAt (x ∷ xs) a
  top_up a x xs h = many_mono xs (x ∷ xs) _ _ (λ j lo hi e p. not_f _ (lat-up K x xs j a (not-true _ (p (right_step K x xs j ∙ e))))) h

  -- a new stamp is above all that had ended at z0; a read's is at least as high
  unfoldable pub WBeats : Steps K → Stamp → Type 0
  WBeats z0 a = (b : Stamp) → TopAt z0 b → b.number < a.number

  unfoldable pub Beats : Steps K → Stamp → Type 0
  Beats z0 a = (b : Stamp) → TopAt z0 b → below a b ≡ false
