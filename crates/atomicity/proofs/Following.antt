-- What is known of the call that takes a reply, after the reply: stated for every hand and result, and shown where the hand moves on and the call
-- stays as it was.
-- Assumes nothing.
use mathlib.Core.Path.{◌≡◌, refl, sym, ap, ◌∙◌, subst}
use mathlib.Core.Bool.{Bool, true, false}
use mathlib.Core.List.{◌∷◌}
use Prim.Native.Nat.{ℕ, ◌<◌}
use native.Mathlib.Omega.{arith}
use lib.ListN.{length}
use Rattle.protocol.specs.declared.Stamp.{Stamp}
use Rattle.protocol.specs.Values.{is_some}
use Rattle.protocol.specs.Client.{Client, Hand, Turn, more, in_complete}
use mathlib.Core.Option.{Option, none, some}
use Rattle.atomicity.specs.Lists.{In}
use Rattle.atomicity.specs.Steps.{Stamped, stamped_from}
use Rattle.atomicity.specs.Claim.{Logged, follow, reach, earliest}
use Rattle.atomicity.proofs.Util.{clash}
use Rattle.atomicity.proofs.Setup.{Setup, Steps, StepOf, calls}
use Rattle.atomicity.proofs.Positions.{since}
use Rattle.atomicity.proofs.Quorums.{TopAt}
use Rattle.atomicity.proofs.Results.{ResultOk}
use Rattle.atomicity.proofs.Invariant.{Ends, ends-top}
use Rattle.atomicity.proofs.Calls.{MarkAt, ends_since, ends_back, Base, Cur, base-up, cur-up, Keeps, keeps-refl}

-- reached stays as it is
pub unreach : (r : Option ℕ) (b : Bool) (n : ℕ) → b ≡ false → earliest r b n ≡ r
unreach (some k) b n e = refl
unreach none true n e = clash refl e
unreach none false n e = refl

pub is-reached : (r : Option ℕ) (b : Bool) (n : ℕ) → is_some r ≡ true → earliest r b n ≡ r
is-reached (some k) b n e = refl
is-reached none b n e = clash e refl

module _ (K : Setup) where
  -- what is known at the step
  pub record Known (x : StepOf K) (xs : Steps K) (a : Logged) (h : Hand) (u : Turn) : Type 0 where
    pub result : ResultOk K (x ∷ xs) (since K.s a.client xs) h u.result
    pub marked : (m : Stamped) → m.client ≡ a.client → In m (stamped_from a.client h u.client.hand) →
        MarkAt K m (length (since K.s a.client xs)) (x ∷ xs)

  abbrev pub after : Steps K → Logged → Turn → Logged
  after xs a u = follow u.result (in_complete u.client.hand) (length xs) a

  -- with some stamp, the call a is b after the step, and the hand h
  abbrev pub Stands : StepOf K → Steps K → Logged → Stamp → Logged → Hand → Type 0
  Stands x xs a σ b h = (τ : Stamp) × Base K (x ∷ xs) b τ × Cur K (x ∷ xs) b τ h × Keeps K a σ b τ

  unfoldable pub Follows : StepOf K → Steps K → Logged → Stamp → Hand → Turn → Type 0
  Follows x xs a σ h u = Known x xs a h u → Stands x xs a σ (after xs a u) u.client.hand

  module _ (x : StepOf K) (xs : Steps K) (a : Logged) (σ : Stamp) (same : calls K xs a.client ≡ calls K (x ∷ xs) a.client)
      (base : Base K xs a σ) where
    -- the hand moved on, the call is as it was
    pub stays : (h h' : Hand) (cl : Client) → Cur K xs a σ h → cl.hand ≡ h' → earliest a.reached (in_complete h') (length xs) ≡ a.reached →
        (Cur K (x ∷ xs) a σ h → Cur K (x ∷ xs) a σ h') → Follows x xs a σ h (record { client = cl; result = more })
    unfolding Follows
    stays h h' cl c e r f k =
        let q : reach (in_complete cl.hand) (length xs) a ≡ a = ap (λ (z : Hand). reach (in_complete z) (length xs) a) e
        ∙ ap (λ (z : Option ℕ). record {
          client = a.client;
          number = a.number;
          wrote = a.wrote;
          begun = a.begun;
          reached = z;
          over = a.over;
          answer = a.answer;
          gave_up = a.gave_up;
        }) r in (
          σ,
          subst (λ (b : Logged). Base K (x ∷ xs) b σ) (sym q) (base-up K x xs a σ (omega (arith, same)) base),
          subst (λ (b : Logged). Cur K (x ∷ xs) b σ cl.hand) (sym q) (subst (Cur K (x ∷ xs) a σ) (sym e) (f (cur-up K x xs a σ h same c))),
          subst (λ (b : Logged). Keeps K a σ b σ) (sym q) (keeps-refl K a σ),
        )

    -- what had ended when the call began was on top then
    pub low : (b : Stamp) (e : ℕ) → Ends K b e (x ∷ xs) → a.begun ≡ length (since K.s a.client xs) → e < a.begun →
        TopAt K (since K.s a.client xs) b
    low b e h q l = ends-top K (since K.s a.client xs) b e
        (ends_since K a.client xs b e (ends_back K x xs b e h (omega (arith, l, base.begun-lt))) (omega (arith, l, q)))
