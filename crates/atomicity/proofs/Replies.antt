-- The call that takes a reply: what is known of it after the reply, by its hand and by the result.
-- Assumes nothing.
use mathlib.Core.Path.{◌≡◌, refl}
use mathlib.Core.Bool.{Bool, true, false}
use mathlib.Core.List.{◌∷◌}
use Prim.Native.Nat.{ℕ}
use lib.Dec.{eqb}
use lib.ListN.{length}
use Rattle.protocol.specs.declared.Stamp.{Stamp}
use Rattle.protocol.specs.Packet.{Body}
use Rattle.protocol.specs.Rules.{ByServer}
use Rattle.protocol.specs.Client.{Client, Hand, idle, clocking, storing, completing, collecting, filtering, repairing, awaits, is_idle}
use Rattle.protocol.specs.Client.{update, onto, higher, stamp_in, code_in}
use Rattle.format.proofs.Answers.{at-cond}
use Rattle.atomicity.specs.Claim.{Logged}
use Rattle.atomicity.proofs.Util.{clash}
use Rattle.atomicity.proofs.Model.{updated}
use Rattle.atomicity.proofs.Setup.{Setup, Steps, StepOf, calls}
use Rattle.atomicity.proofs.Positions.{since}
use Rattle.atomicity.proofs.States.{HandOk}
use Rattle.atomicity.proofs.Calls.{Base, Cur}
use Rattle.atomicity.proofs.Following.{Follows, unreach, is-reached, stays}
use Rattle.atomicity.proofs.ReadEnds.{gave_ends, judge_follows}
use Rattle.atomicity.proofs.WriteEnds.{clock-ends, store-ends, write-ends}

module _ (K : Setup) (x : StepOf K) (xs : Steps K) (a : Logged) (σ : Stamp) (same : calls K xs a.client ≡ calls K (x ∷ xs) a.client)
    (base : Base K xs a σ) where
  pub call_follows : (z1 : Steps K) (cl : Client) (b : ℕ) (y : Body) (m : ByServer Bool) (full : Bool) (h : Hand) → cl.hand ≡ h →
      is_idle h ≡ false → HandOk K xs (since K.s a.client xs) z1 cl.marks h → Cur K xs a σ h →
      Follows K x xs a σ h (updated K.s a.client cl b y m full h)
  unfolding update onto HandOk Cur is_idle awaits
  call_follows z1 cl b y m full idle e busy ok c = clash refl busy
  call_follows z1 cl b y m true (clocking r n k) e busy ok c = clock-ends K x xs a σ same base r n k (higher K.s.P K.s.writers k (stamp_in y))
      _ refl c
  call_follows z1 cl b y m false (clocking r n k) e busy ok c =
      stays K x xs a σ same base (clocking r n k) (clocking r n _) _ c refl (unreach a.reached _ (length xs) refl) (λ z. z)
  call_follows z1 cl b y m full (storing d g) e busy ok c = at-cond (eqb (code_in y) 11) _ _ (Follows K x xs a σ (storing d g))
      (λ q. stays K x xs a σ same base (storing d g) (storing d g) cl c e (unreach a.reached _ (length xs) refl) (λ z. z))
      (λ k. at-cond full _ _ (Follows K x xs a σ (storing d g))
      (λ q. store-ends K x xs a σ same base d g _ refl ok.beats c) (λ q. stays K x xs a σ same base (storing d g) (storing d g) _ c refl
      (unreach a.reached _ (length xs) refl) (λ z. z)))
  call_follows z1 cl b y m true (completing d) e busy ok c = write-ends K x xs a σ same base d _ _ refl c
  call_follows z1 cl b y m false (completing d) e busy ok c =
      stays K x xs a σ same base (completing d) (completing d) _ c refl (is-reached a.reached _ (length xs) c.3) (λ z. z)
  call_follows z1 cl b y m true (collecting g) e busy ok c = stays K x xs a σ same base (collecting g) (filtering _ _) _ c refl
      (unreach a.reached _ (length xs) refl) (λ z. z)
  call_follows z1 cl b y m false (collecting g) e busy ok c = stays K x xs a σ same base (collecting g) (collecting _) _ c refl
      (unreach a.reached _ (length xs) refl) (λ z. z)
  call_follows z1 cl b y m true (filtering cs g) e busy ok c = judge_follows K x xs a σ same base cs g _ m cl _ _ c
  call_follows z1 cl b y m false (filtering cs g) e busy ok c =
      stays K x xs a σ same base (filtering cs g) (filtering cs _) _ c refl (unreach a.reached _ (length xs) refl) (λ z. z)
  call_follows z1 cl b y m true (repairing d r) e busy ok c = gave_ends K x xs a σ same base (repairing d r) _ _ r refl c.0 c.1
  call_follows z1 cl b y m false (repairing d r) e busy ok c = stays K x xs a σ same base (repairing d r) (repairing d r) _ c refl
      (unreach a.reached _ (length xs) refl) (λ z. z)
