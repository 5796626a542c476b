-- The claim on values: for every system with its laws and every run that meets the premises there is one order of the calls, a write given up
-- before its complete round is in none, and a round in hand lacks a quorum of correct replies.
-- Assumes nothing.
use mathlib.Core.Path.{◌≡◌, refl, sym, subst}
use mathlib.Core.Bool.{Bool, true, false, ◌&&◌}
use mathlib.Core.List.{List}
use mathlib.Core.Logic.{◌⊎◌, inl, inr}
use Prim.Native.Nat.{ℕ, ◌≤◌, ◌<◌}
use native.Mathlib.Omega.{arith}
use lib.Dec.{ltb}
use lib.ListN.{length}
use borrow.Author.Tests.{leb-true, ltb-true, ltb-false}
use Rattle.cluster.specs.Config.{Legal}
use Rattle.cluster.specs.Ranges.{capacity}
use Rattle.protocol.specs.Rules.{ByServer, count_to}
use Rattle.protocol.specs.Client.{Hand, idle, clocking, storing, completing, collecting, filtering, repairing, awaits, is_idle}
use Rattle.runs.proofs.ValueRuns.{by_values}
use Rattle.atomicity.specs.Lists.{In}
use Rattle.atomicity.specs.Steps.{System}
use Rattle.atomicity.specs.Claim.{Logged, CameTo, Room, Answered, Progress, OneServer}
use Rattle.atomicity.proofs.Util.{bool_case, clash, and_intro, all_in, map_in}
use Rattle.atomicity.proofs.Model.{Laws, account, marks}
use Rattle.atomicity.proofs.Setup.{Setup, Steps, Fair, hand, calls, replied, right, right_range}
use Rattle.atomicity.proofs.Positions.{since, from}
use Rattle.atomicity.proofs.States.{HandOk}
use Rattle.atomicity.proofs.Quorums.{S, Q}
use Rattle.atomicity.proofs.Invariant.{Hands, hands_all}
use Rattle.atomicity.proofs.Shape.{Log}
use Rattle.atomicity.proofs.Logs.{Signed}
use Rattle.atomicity.proofs.Story.{story, story-log}
use Rattle.atomicity.proofs.Safety.{ordered}
use Rattle.atomicity.proofs.Bounds.{few-marks}
use Rattle.atomicity.proofs.Listed.{marked-count}
use Rattle.atomicity.proofs.Arrived.{Roomy, arrived}
use Rattle.atomicity.proofs.Waiting.{Wait, waiting}
use Rattle.atomicity.proofs.Decides.{decides}

module _ (K : Setup) (xs : Steps K) (fair : Fair K xs) where
  -- a call of the log is known
  pub known-call : (a : Logged) → In a (Log K xs) → (g : Signed K xs) × In g (story K xs fair) × (a ≡ g.call)
  known-call a i = map_in (λ (g : Signed K xs). g.call) (story K xs fair) a (subst (λ (l : List Logged). In a l) (sym (story-log K xs fair)) i)

  -- ---- progress

  short : (c : ℕ) (m : ByServer Bool) (h : Hand) → is_idle h ≡ false → HandOk K xs (since K.s c xs) (from K.s c xs) m h → Wait K xs m h →
      (n : ℕ) → n ≤ count_to (S K) (λ j. right K xs j && m j) → n ≤ count_to (S K) m → n < Q K
  unfolding HandOk Wait is_idle awaits
  short c m idle busy ok w n k l = clash refl busy
  short c m (clocking r t u) busy ok w n k l = omega (arith, ok.short, l)
  short c m (storing d g) busy ok w n k l = omega (arith, ok.short, l)
  short c m (completing d) busy ok w n k l = omega (arith, ok.short, l)
  short c m (collecting g) busy ok w n k l = omega (arith, ok.short, l)
  short c m (filtering cs g) busy ok w n k l =
      bool_case (ltb n (Q K)) (λ e. ltb-true n (Q K) e) (λ e. absurd (decides K xs fair cs g m w (omega (arith, k, ltb-false n (Q K) e))))
  short c m (repairing d r) busy ok w n k l = omega (arith, ok.short, l)

  -- where the history of every server has room: what the claim asks, so that it has, is no matter here
  lacking : (c : ℕ) → K.correct.client c ≡ true → is_idle (hand K xs c) ≡ false → Roomy K c (awaits (hand K xs c)) xs →
      Answered K.s (account K.s) K.correct xs c (calls K xs c) (awaits (hand K xs c)) → ⊥
  unfolding Hands CameTo right
  lacking c good busy room (bs, d, came, enough) =
      let m = replied K xs c in
      let each : (b : ℕ) → In b bs → (right K xs b ≡ true)
      × (m b ≡ true) = λ b i. let k = all_in _ bs came b i in
      (k.0, arrived K c xs fair good b (calls K xs c) (awaits (hand K xs c)) refl refl busy room k.1) in
      let few = short c m (hand K xs c) busy ((hands_all K xs fair).0 c good) (waiting K xs fair c good) (length bs)
      (marked-count (S K) bs (λ j. right K xs j && m j) d
      (λ b i. let e = each b i in let rg = right_range K xs b e.0 in (rg.0, rg.1, and_intro _ _ e.0 e.1)))
      (marked-count (S K) bs m d (λ b i. let e = each b i in let rg = right_range K xs b e.0 in (rg.0, rg.1, e.1))) in
      omega (arith, few, enough)

  pub progress : Progress K.s (account K.s) K.correct xs
  unfolding Progress Roomy
  progress c good busy room = lacking c good busy (roomy room)
    where
      roomy : Room (Log K xs) (hand K xs c) → (8 ≤ awaits (hand K xs c)) ⊎ (length (marks K.s xs) ≤ capacity)
      roomy (inl h) = inl (leb-true 8 (awaits (hand K xs c)) h)
      roomy (inr h) = inr (omega (arith, h, few-marks K xs fair))

pub one-server : (s : System) → Legal s.config → Laws s → OneServer s (by_values s.P s.config s.writers s.keys)
unfolding OneServer by_values
one-server s legal laws correct parties l fair =
    let K : Setup = record { s = s; legal = legal; laws = laws; correct = correct; parties = parties } in
    ((ordered K l fair).0, progress K l fair)
