-- What is to be known after a turn, of the client and of what its call gives when it ends; and that the end of a filter round leaves it so: the
-- candidate chosen is a write's and no lower than what had ended when the call began, and where none is left, nothing had ended above blank.
-- Assumes nothing.
use mathlib.Core.Path.{◌≡◌, refl, sym, ◌∙◌, subst}
use mathlib.Core.Bool.{Bool, true, false, cond}
use mathlib.Core.List.{List, [], ◌∷◌}
use mathlib.Core.Option.{Option, none, some}
use mathlib.Core.Logic.{◌⊎◌, inl, inr}
use Prim.Native.Nat.{ℕ, ◌≤◌, ◌<◌}
use native.Mathlib.Omega.{arith}
use lib.Dec.{eqb}
use borrow.Author.Tests.{eq-eqb}
use Rattle.protocol.specs.declared.Stamp.{Stamp}
use Rattle.protocol.specs.Values.{Candidate, Held, below, blank_stamp, same_list}
use Rattle.protocol.specs.Rules.{ByServer, nobody, count_to, choice, leader, tags_in}
use Rattle.protocol.specs.Client.{Client, Hand, Turn, Result, refused, more, written, gave, gave_blank, aborted, completing, filtering}
use Rattle.protocol.specs.Client.{judge, found, onto}
use Rattle.protocol.proofs.Marks.{count-nobody}
use Rattle.protocol.proofs.Equal.{same_true}
use Rattle.format.proofs.Answers.{at-cond}
use Rattle.atomicity.specs.Lists.{In}
use Rattle.atomicity.specs.Steps.{proving}
use Rattle.atomicity.proofs.Util.{clash, not_f}
use Rattle.atomicity.proofs.Setup.{Setup, Steps, StepOf, Fair, right_range, Same}
use Rattle.atomicity.proofs.Positions.{stage}
use Rattle.atomicity.proofs.States.{Proved, Filters, HandOk, ok-up}
use Rattle.atomicity.proofs.Quorums.{S, Q, TopAt, Beats, many-marks}
use Rattle.atomicity.proofs.Groups.{tagged_of}
use Rattle.atomicity.proofs.Choosing.{q_pos, reached, Live, chosen, Digests}

module _ (K : Setup) where
  -- what a call that ends gives; h was the hand
  unfoldable pub ResultOk : Steps K → Steps K → Hand → Result → Type 0
  ResultOk ys z0 h (refused n) = Unit {0}
  ResultOk ys z0 h more = Unit {0}
  ResultOk ys z0 h (written n) = (d : Candidate) × (h ≡ completing d) × TopAt K ys d.stamp
  ResultOk ys z0 h (gave n r) = (d : Candidate) × TopAt K ys d.stamp × Proved K ys z0 d r
  ResultOk ys z0 h gave_blank = Beats K z0 blank_stamp
  ResultOk ys z0 h (aborted b) = Unit {0}

  unfoldable pub Outcome : StepOf K → Steps K → Steps K → Steps K → Hand → Turn → Type 0
  Outcome x xs z0 z1 h u = HandOk K (x ∷ xs) z0 (cond (eqb (stage h) (stage u.client.hand)) z1 (x ∷ xs)) u.client.marks u.client.hand
      × ResultOk (x ∷ xs) z0 h u.result

  -- nothing but time went on
  pub same_outcome : (x : StepOf K) (xs z0 z1 : Steps K) (h : Hand) (cl : Client) → cl.hand ≡ h → HandOk K xs z0 z1 cl.marks h →
      Outcome x xs z0 z1 h (record { client = cl; result = more })
  unfolding Outcome ResultOk
  same_outcome x xs z0 z1 h cl e k = (
    subst (λ (g : Hand). HandOk K (x ∷ xs) z0 (cond (eqb (stage h) (stage g)) z1 (x ∷ xs)) cl.marks g) (sym e)
        (subst (λ (b : Bool). HandOk K (x ∷ xs) z0 (cond b z1 (x ∷ xs)) cl.marks h) (sym (eq-eqb (stage h) (stage h) refl))
        (ok-up K z0 z1 cl.marks h x xs k)),
    tt,
  )

  -- ---- marks

  pub none_short : count_to (S K) nobody < Q K
  none_short = omega (arith, q_pos K, count-nobody (S K))

  pub unmarked : {P : Type 0} (j : ℕ) → nobody j ≡ true → P
  unfolding nobody
  unmarked j e = clash e refl

  -- ---- the ends of a filter round

  finished : (x : StepOf K) (xs z0 z1 : Steps K) (cs : List Candidate) (old g : ByServer Held) (m : ByServer Bool) → Same K z0 (x ∷ xs) →
      Same K z1 (x ∷ xs) → Fair K (x ∷ xs) → Filters K (x ∷ xs) z0 z1 cs g m → Q K ≤ count_to (S K) m → (c : ℕ) (cl : Client) (d : Candidate) →
      Digests K (x ∷ xs) (proving K.s m g (some d)) → choice K.s.P K.s.config m g cs ≡ some d → Outcome x xs z0 z1 (filtering cs old)
      (found K.s.P K.s.config c K.s.writers K.s.keys cl m g d (leader K.s.P K.s.config m g d (S K)))
  unfolding found Outcome ResultOk HandOk stage onto
  finished x xs z0 z1 cs old g m p0 p1 fair F l c cl d dig ch =
      let C = chosen K (x ∷ xs) z0 z1 cs g m p0 p1 fair F d dig ch in
      let R = C.real in
      let b = leader K.s.P K.s.config m g d (S K) in
      at-cond (same_list (tags_in K.s.P K.s.config d (g b).share) d.tags) _ _ (Outcome x xs z0 z1 (filtering cs old))
      (λ q. (
        tt,
        (
          d,
          many-marks K (x ∷ xs) _ m l
              (λ j h i. let rg = right_range K (x ∷ xs) j h in
              not_f _ ((F.sift j h i).tags d C.among
              (tagged_of K d R.origin.write (sym (same_true _ _ q) ∙ R.tags_is) R.origin.stamp_is R.digest_is j rg.0 rg.1))),
          record { origin = R.origin; content_is = R.gives; beats = C.beats },
        ),
      ))
      (λ q. (
        record {
          short = none_short;
          proved = record { origin = R.origin; content_is = R.gives; beats = C.beats };
          tagged = tagged_of K _ R.origin.write R.tags_is R.origin.stamp_is R.digest_is;
          high = λ j h i. unmarked j i;
        },
        tt,
      ))

  pub judged : (x : StepOf K) (xs z0 z1 : Steps K) (cs : List Candidate) (old g : ByServer Held) (m : ByServer Bool) → Same K z0 (x ∷ xs) →
      Same K z1 (x ∷ xs) → Fair K (x ∷ xs) → Filters K (x ∷ xs) z0 z1 cs g m → Q K ≤ count_to (S K) m → (c : ℕ) (cl : Client)
      (ls : List Candidate) → Live K m g cs ≡ ls → (o : Option Candidate) → Digests K (x ∷ xs) (proving K.s m g o) →
      choice K.s.P K.s.config m g cs ≡ o →
      Outcome x xs z0 z1 (filtering cs old) (judge K.s.P K.s.config c K.s.writers K.s.keys cl m cs g ls o)
  unfolding judge Outcome ResultOk HandOk stage onto Beats In
  judged x xs z0 z1 cs old g m p0 p1 fair F l c cl [] e o dig q = (tt, λ b top. go b (reached K (x ∷ xs) z0 z1 cs g m p0 p1 F b top))
    where
      go : (b : Stamp) → (below blank_stamp b ≡ false) ⊎ ((d : Candidate) × In d (Live K m g cs) × (below d.stamp b ≡ false)) →
          below blank_stamp b ≡ false
      go b (inl z) = z
      go b (inr d) = absurd (subst (λ (z : List Candidate). In d.0 z) e d.1)
  judged x xs z0 z1 cs old g m p0 p1 fair F l c cl (a ∷ ls) e none dig q = (F, tt)
  judged x xs z0 z1 cs old g m p0 p1 fair F l c cl (a ∷ ls) e (some d) dig q = finished x xs z0 z1 cs old g m p0 p1 fair F l c cl d dig q
