-- The call that takes a reply is a read: its content or blank is no older than what had ended when it began, and it is over when the result is given.
-- Assumes nothing.
use mathlib.Core.Path.{◌≡◌, refl, sym, ap, ◌∙◌, subst}
use mathlib.Core.Bool.{Bool, false}
use mathlib.Core.List.{List, [], ◌∷◌}
use mathlib.Core.Option.{Option, none, some}
use mathlib.Core.Logic.{inl, inr}
use Prim.Native.Nat.{ℕ}
use native.Mathlib.Omega.{arith}
use lib.ListN.{length}
use Rattle.protocol.specs.declared.Stamp.{Stamp}
use Rattle.protocol.specs.declared.Label.{Label}
use Rattle.protocol.specs.Values.{Candidate, Held, below, blank_stamp, same_list, is_some}
use Rattle.protocol.specs.Rules.{ByServer, leader, tags_in}
use Rattle.protocol.specs.Client.{Client, Hand, gave, gave_blank, idle, filtering, repairing, awaits}
use Rattle.protocol.specs.Client.{judge, found, onto}
use Rattle.format.proofs.Answers.{at-cond}
use Rattle.atomicity.specs.Lists.{Ever}
use Rattle.atomicity.specs.Claim.{Logged, close}
use Rattle.atomicity.proofs.Util.{clash, no_some}
use Rattle.atomicity.proofs.Setup.{Setup, Steps, StepOf, calls}
use Rattle.atomicity.proofs.Positions.{since}
use Rattle.atomicity.proofs.Quorums.{TopAt, Beats}
use Rattle.atomicity.proofs.Results.{ResultOk}
use Rattle.atomicity.proofs.Invariant.{Ends, top-blank}
use Rattle.atomicity.proofs.Calls.{Grounded, Base, Open, Cur, Keeps}
use Rattle.atomicity.proofs.Following.{Follows, unreach, stays, low}

module _ (K : Setup) (x : StepOf K) (xs : Steps K) (a : Logged) (σ : Stamp) (same : calls K xs a.client ≡ calls K (x ∷ xs) a.client)
    (base : Base K xs a σ) where
  read-ends : (τ : Stamp) (v : Option (List ℕ)) → Open K xs a → a.wrote ≡ none → TopAt K (x ∷ xs) τ →
      ((b : Stamp) → TopAt K (since K.s a.client xs) b → below τ b ≡ false) → Grounded K (x ∷ xs) (length xs) v τ →
      Base K (x ∷ xs) (close (length xs) v a) τ × Keeps K a σ (close (length xs) v a) τ
  unfolding Ever
  read-ends τ v o w top f val = (
    record {
      begun-lt = omega (arith, base.begun-lt);
      number-le = omega (arith, base.number-le, same);
      ended = λ t q. let z : length xs ≡ t = cc in
          (omega (arith, base.begun-lt, z), omega (arith, z), subst (λ (i : ℕ). Ends K τ i (x ∷ xs)) z (inl (refl, top)));
      write = λ b p q. absurd (no_some (sym w ∙ p));
      read = λ t p q. let z : length xs ≡ t = cc in
          record { floor = λ b i k l. f b (low K x xs a σ same base b i k o.began l); value = subst (λ (e : ℕ). Grounded K (x ∷ xs) e v τ) z val };
      reaches = λ b t p q. absurd (no_some (sym w ∙ p));
      reach-lt = λ k q. absurd (no_some (sym o.unreached ∙ q));
      leaves = λ q. clash q o.staying;
    },
    record { client = refl; number = refl; begun = refl; wrote = refl; reached = λ e. clash e (ap is_some o.unreached) },
  )

  pub gave_ends : (h : Hand) (cl : Client) (n : Label) (v : List ℕ) → cl.hand ≡ idle → Open K xs a → a.wrote ≡ none →
      Follows K x xs a σ h (record { client = cl; result = gave n v })
  unfolding Follows ResultOk Beats Cur Ever
  gave_ends h cl n v e o w k =
      let R = k.result in let d = R.0 in let P = R.2 in
      let r = read-ends d.stamp (some v) o w R.1 P.beats (inr (P.origin, ap some P.content_is, inl (refl, P.origin.shown))) in
      (d.stamp, r.0, subst (Cur K (x ∷ xs) (close (length xs) (some v) a) d.stamp) (sym e) tt, r.1)

  blank-ends : (h : Hand) (cl : Client) → cl.hand ≡ idle → Open K xs a → a.wrote ≡ none →
      Follows K x xs a σ h (record { client = cl; result = gave_blank })
  unfolding Follows ResultOk Beats Cur
  blank-ends h cl e o w k =
      let r = read-ends blank_stamp none o w (top-blank K (x ∷ xs)) k.result (inl (refl, refl)) in
      (blank_stamp, r.0, subst (Cur K (x ∷ xs) (close (length xs) none a) blank_stamp) (sym e) tt, r.1)

  found_follows : (cs : List Candidate) (g g' : ByServer Held) (m : ByServer Bool) (cl : Client) (d : Candidate) (b : ℕ) → Open K xs a
      × (a.wrote ≡ none) →
      Follows K x xs a σ (filtering cs g) (found K.s.P K.s.config a.client K.s.writers K.s.keys cl m g' d b)
  unfolding found onto Cur awaits
  found_follows cs g g' m cl d b c =
      at-cond (same_list (tags_in K.s.P K.s.config d (g' b).share) d.tags) _ _ (Follows K x xs a σ (filtering cs g))
      (λ q. gave_ends (filtering cs g) _ _ _ refl c.0 c.1)
      (λ q. stays K x xs a σ same base (filtering cs g) (repairing _ _) _ c refl (unreach a.reached _ (length xs) refl) (λ z. z))

  pub judge_follows : (cs : List Candidate) (g g' : ByServer Held) (m : ByServer Bool) (cl : Client) (ls : List Candidate) (o : Option Candidate) →
      Open K xs a × (a.wrote ≡ none) →
      Follows K x xs a σ (filtering cs g) (judge K.s.P K.s.config a.client K.s.writers K.s.keys cl m cs g' ls o)
  unfolding judge onto Cur awaits
  judge_follows cs g g' m cl [] o c = blank-ends (filtering cs g) _ refl c.0 c.1
  judge_follows cs g g' m cl (l ∷ ls) none c = stays K x xs a σ same base (filtering cs g) (filtering cs g') _ c refl
      (unreach a.reached _ (length xs) refl)
      (λ z. z)
  judge_follows cs g g' m cl (l ∷ ls) (some d) c = found_follows cs g g' m cl d (leader K.s.P K.s.config m g' d K.s.config.servers) c
