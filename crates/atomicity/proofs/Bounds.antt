-- Marks are no more than the writes begun: their nonces differ, and each is the nonce of a write that began.
-- Assumes nothing.
use mathlib.Core.Path.{◌≡◌, refl, sym, ap, ap₂, ◌∙◌, subst}
use mathlib.Core.Bool.{Bool, true, false, cond}
use mathlib.Core.List.{List, [], ◌∷◌, ◌++◌, map}
use mathlib.Core.Option.{Option, none, some}
use mathlib.Core.Logic.{◌⊎◌, inl, inr}
use Prim.Native.Nat.{ℕ, suc, ◌+◌, ◌≤◌}
use native.Mathlib.Omega.{arith}
use lib.ListN.{length, length-append, length-map}
use Rattle.protocol.specs.Values.{is_some}
use Rattle.protocol.specs.Rules.{keep}
use Rattle.protocol.specs.Client.{Client, accepted}
use Rattle.runs.specs.Runs.{Step, write, read, make, take-reply, give-up, serve}
use Rattle.atomicity.specs.Lists.{Ever, In, AllPairs}
use Rattle.atomicity.specs.Steps.{Stamped, stamped_from, stamped_by, stamped_at}
use Rattle.atomicity.specs.Premises.{Begins}
use Rattle.atomicity.specs.Claim.{Logged, log, begun_writes}
use Rattle.atomicity.proofs.Util.{left_in, right_in, map_in, all_of}
use Rattle.atomicity.proofs.Model.{account, marks}
use Rattle.atomicity.proofs.Setup.{Setup, Steps, StepOf, Fair, Begin, calls, cli, result}
use Rattle.atomicity.proofs.Marks.{From, from_one, mark_source}
use Rattle.atomicity.proofs.Rising.{above}
use Rattle.atomicity.proofs.Nonces.{begins, by-nonce}
use Rattle.atomicity.proofs.Shape.{Log, touched, news, entered, note_shape}
use Rattle.atomicity.proofs.Logs.{Signed}
use Rattle.atomicity.proofs.Story.{past, story, story-log, step_signed, step_keeps}
use Rattle.atomicity.proofs.Listed.{pigeon, map_apart}

-- ---- a step gives one mark at most

by_one : (was is : ℕ → Client) (x : Step) → (stamped_by was is x ≡ []) ⊎ ((m : Stamped) × (stamped_by was is x ≡ m ∷ []))
unfolding stamped_by
by_one was is (write c r n) = inl refl
by_one was is (read c) = inl refl
by_one was is (make c b o) = inl refl
by_one was is (give-up c) = inl refl
by_one was is (serve b p o) = inl refl
by_one was is (take-reply c lent b o) = go (from_one c (was c).hand (is c).hand)
  where
    go : From c (was c).hand (is c).hand → (stamped_from c (was c).hand (is c).hand ≡ [])
        ⊎ ((m : Stamped) × (stamped_from c (was c).hand (is c).hand ≡ m ∷ []))
    go (inl e) = inl e
    go (inr r) = inr (r.0, r.1)

module _ (K : Setup) where
  -- ---- marks are no more than the writes begun

  marks_apart : (xs : Steps K) → Fair K xs → AllPairs (λ (a b : Stamped). a.nonce ≡ b.nonce → ⊥) (marks K.s xs)
  unfolding marks AllPairs In
  marks_apart [] fair = tt
  marks_apart (x ∷ xs) fair = go (by_one (cli K xs) (cli K (x ∷ xs)) x.step)
      (marks_apart xs (past K x xs fair))
    where
      A : List Stamped
      A = stamped_at K.s (account K.s) x xs

      go : (A ≡ []) ⊎ ((m : Stamped) × (A ≡ m ∷ [])) → AllPairs (λ (a b : Stamped). a.nonce ≡ b.nonce → ⊥) (marks K.s xs) →
          AllPairs (λ (a b : Stamped). a.nonce ≡ b.nonce → ⊥) (A ++ marks K.s xs)
      go (inl e) h = subst (λ (l : List Stamped). AllPairs (λ (a b : Stamped). a.nonce ≡ b.nonce → ⊥) (l ++ marks K.s xs)) (sym e) h
      go (inr m) h = subst (λ (l : List Stamped). AllPairs (λ (a b : Stamped). a.nonce ≡ b.nonce → ⊥) (l ++ marks K.s xs)) (sym m.1) (
        all_of (λ (b : Stamped). m.0.nonce ≡ b.nonce → ⊥) (marks K.s xs) (λ b i e.
            let here : In m.0 A = subst (λ (l : List Stamped). In m.0 l) (sym m.1) (inl refl) in
            let q : m.0 ≡ b = by-nonce K (x ∷ xs) fair m.0 b (left_in m.0 A (marks K.s xs) here) (right_in b A (marks K.s xs) i) e in
            omega (
              arith,
              above K.s x xs m.0 b (ap (λ (z : Stamped). z.client) q) (mark_source K.s x xs m.0 here) i,
              ap (λ (z : Stamped). z.stamp.number) q,
            )),
        h,
      )

  -- the nonces of the writes begun
  begun_nonce : StepOf K → Steps K → Step → List (List ℕ)
  begun_nonce x xs (write c r n) = cond (accepted (result K x xs)) (n ∷ []) []
  begun_nonce x xs (read c) = []
  begun_nonce x xs (make c b o) = []
  begun_nonce x xs (take-reply c lent b o) = []
  begun_nonce x xs (give-up c) = []
  begun_nonce x xs (serve b p o) = []

  nonces : Steps K → List (List ℕ)
  nonces [] = []
  nonces (x ∷ xs) = begun_nonce x xs x.step ++ nonces xs

  begun-nonce : (xs : Steps K) (c : ℕ) (n : List ℕ) → Ever (Begin K c n) xs → In n (nonces xs)
  unfolding Ever Begins In nonces begun_nonce
  begun-nonce [] c n h = absurd h
  begun-nonce (x ∷ xs) c n (inl h) =
      left_in n (begun_nonce x xs x.step) (nonces xs) (subst (λ (y : Step). In n (begun_nonce x xs y)) (sym h.1) (here h.0 h.2))
    where
      here : (r : List ℕ) → accepted (result K x xs) ≡ true → In n (begun_nonce x xs (write c r n))
      here r e = subst (λ (b : Bool). In n (cond b (n ∷ []) [])) (sym e) (inl refl)
  begun-nonce (x ∷ xs) c n (inr h) = right_in n (begun_nonce x xs x.step) (nonces xs) (begun-nonce xs c n h)

  abbrev is_write_def : Logged → Bool
  is_write_def c = is_some c.wrote

  keep_append : (p : Logged → Bool) (us vs : List Logged) → length (keep p (us ++ vs)) ≡ length (keep p us) + length (keep p vs)
  unfolding keep
  keep_append p [] vs = omega arith
  keep_append p (u ∷ us) vs = go (p u) (keep_append p us vs)
    where
      go : (b : Bool) → length (keep p (us ++ vs)) ≡ length (keep p us) + length (keep p vs) →
          length (cond b (u ∷ keep p (us ++ vs)) (keep p (us ++ vs))) ≡ length (cond b (u ∷ keep p us) (keep p us)) + length (keep p vs)
      go true e = omega (arith, e)
      go false e = e

  map-writes : (x : StepOf K) (xs : Steps K) (fair : Fair K (x ∷ xs)) (gs : List (Signed K xs)) →
      length (keep is_write_def (map (touched K x xs x.step) (map (λ (g : Signed K xs). g.call) gs))) ≡ length
      (keep is_write_def (map (λ (g : Signed K xs). g.call) gs))
  unfolding keep step_signed
  map-writes x xs fair [] = refl
  map-writes x xs fair (g ∷ gs) = go (step_keeps K x xs fair g).wrote (map-writes x xs fair gs)
    where
      T : List Logged
      T = map (touched K x xs x.step) (map (λ (g : Signed K xs). g.call) gs)

      C : List Logged
      C = map (λ (g : Signed K xs). g.call) gs

      two : (b : Bool) (u v : Logged) → length (keep is_write_def T) ≡ length (keep is_write_def C) →
          length (cond b (u ∷ keep is_write_def T) (keep is_write_def T)) ≡ length (cond b (v ∷ keep is_write_def C) (keep is_write_def C))
      two true u v e = ap suc e
      two false u v e = e

      go : (touched K x xs x.step g.call).wrote ≡ g.call.wrote → length (keep is_write_def T) ≡ length (keep is_write_def C) →
          length (cond (is_some (touched K x xs x.step g.call).wrote) (touched K x xs x.step g.call ∷ keep is_write_def T)
          (keep is_write_def T)) ≡ length (cond (is_some g.call.wrote) (g.call ∷ keep is_write_def C) (keep is_write_def C))
      go q e = ap (λ (o : Option (List ℕ)). length (cond (is_some o) (touched K x xs x.step g.call ∷ keep is_write_def T) (keep is_write_def T))) q
          ∙ two (is_some g.call.wrote) (touched K x xs x.step g.call) g.call e

  new-writes : (x : StepOf K) (xs : Steps K) (st : Step) → length (begun_nonce x xs st) ≡ length (keep is_write_def (news K x xs st))
  unfolding begun_nonce news keep entered
  new-writes x xs (write c r n) = go (accepted (result K x xs))
    where
      go : (b : Bool) → length (cond b (n ∷ []) []) ≡ length (keep is_write_def (cond b (entered c (suc (calls K xs c)) (some r) (length xs) ∷ []) []))
      go true = refl
      go false = refl
  new-writes x xs (read c) = go (accepted (result K x xs))
    where
      go : (b : Bool) → ◌≡◌ {A = ℕ} 0 (length (keep is_write_def (cond b (entered c (suc (calls K xs c)) none (length xs) ∷ []) [])))
      go true = refl
      go false = refl
  new-writes x xs (make c b o) = refl
  new-writes x xs (take-reply c lent b o) = refl
  new-writes x xs (give-up c) = refl
  new-writes x xs (serve b p o) = refl

  nonces-writes : (xs : Steps K) → Fair K xs → length (nonces xs) ≡ begun_writes (Log K xs)
  unfolding log nonces begun_writes keep
  nonces-writes [] fair = refl
  nonces-writes (x ∷ xs) fair = length-append (begun_nonce x xs x.step) (nonces xs)
      ∙ ap₂ (λ (a b : ℕ). a + b) (new-writes x xs x.step) (nonces-writes xs (past K x xs fair) ∙ sym old)
      ∙ sym (keep_append is_write_def (news K x xs x.step) (map (touched K x xs x.step) (Log K xs)))
      ∙ ap (λ (l : List Logged). length (keep is_write_def l)) (sym (note_shape K x xs (Log K xs) x.step))
    where
      old : length (keep is_write_def (map (touched K x xs x.step) (Log K xs))) ≡ length (keep is_write_def (Log K xs))
      old = subst (λ (l : List Logged). length (keep is_write_def (map (touched K x xs x.step) l)) ≡ length (keep is_write_def l))
          (story-log K xs (past K x xs fair)) (map-writes x xs fair (story K xs (past K x xs fair)))

  pub few-marks : (xs : Steps K) → Fair K xs → length (marks K.s xs) ≤ begun_writes (Log K xs)
  few-marks xs fair = omega (
    arith,
    nonces-writes xs fair,
    length-map (marks K.s xs) (λ (m : Stamped). m.nonce),
    pigeon (map (λ (m : Stamped). m.nonce) (marks K.s xs)) (nonces xs)
        (map_apart (λ (m : Stamped). m.nonce) (λ (a b : Stamped). a.nonce ≡ b.nonce → ⊥) (marks K.s xs) (λ a b i j r e. r e)
        (marks_apart xs fair))
        (λ n i. let r = map_in (λ (m : Stamped). m.nonce) (marks K.s xs) n i in
        subst (λ (z : List ℕ). In z (nonces xs)) (sym r.2) (begun-nonce xs r.0.client r.0.nonce (begins K xs r.0 r.1))),
  )
