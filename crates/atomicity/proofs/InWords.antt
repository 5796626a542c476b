-- The claim in the user's words. Page 41 follows from the one order alone: a call that ended before another began stands ahead of it, and
-- versions only rise along the order. And a call has ended once its rounds are answered, since else its round in hand would lack a quorum of
-- correct replies.
-- Assumes nothing.
use mathlib.Core.Path.{◌≡◌, refl, sym, ap, ◌∙◌, subst}
use mathlib.Core.Bool.{Bool, true, false, cond}
use mathlib.Core.List.{List, [], ◌∷◌}
use mathlib.Core.Option.{Option, none, some}
use mathlib.Core.Logic.{◌⊎◌, inl, inr}
use Prim.Native.Nat.{ℕ, zero, suc, ◌+◌, ◌≤◌, ◌<◌}
use native.Mathlib.Omega.{arith}
use lib.Dec.{eqb}
use borrow.Author.Tests.{eq-eqb, ltb-true}
use Rattle.cluster.specs.Config.{Legal}
use Rattle.cluster.proofs.Legal.{legal-shelf}
use Rattle.protocol.specs.Values.{is_some}
use Rattle.protocol.specs.Primitives.{real}
use Rattle.protocol.specs.Client.{Hand, awaits, is_idle}
use Rattle.runs.proofs.ValueRuns.{by_values}
use Rattle.protocol.proofs.Primitive.{real-lengths}
use Rattle.runs.proofs.Accounts.{claimed}
use Rattle.atomicity.specs.Lists.{Always, Once, In, AllPairs}
use Rattle.atomicity.specs.Steps.{StepIn, System}
use Rattle.atomicity.specs.Premises.{Correct, Parties, Premise}
use Rattle.atomicity.specs.Claim.{InTime, Logged, before, holds, Replay, Answered, Progress, system_of_def, OneOrder}
use Rattle.atomicity.specs.Page41.{Version, versions, NeverOlder, earlier_own, Superseded, Ended, Page41, Page41Of}
use Rattle.atomicity.proofs.Util.{no_some, unfalse, clash, and_left, and_right, or_cases, all_in}
use Rattle.atomicity.proofs.Model.{Laws, account}
use Rattle.atomicity.proofs.Setup.{Setup, Steps, Fair, hand, calls}
use Rattle.atomicity.proofs.Shape.{Log}
use Rattle.atomicity.proofs.Settled.{Settled, all_settled}
use Rattle.atomicity.proofs.OneServer.{known-call, progress}
use Rattle.atomicity.proofs.Ordering.{InTurn}
use Rattle.atomicity.proofs.Safety.{ordered}
use Rattle.atomicity.proofs.Real.{real_laws}

-- ---- what it says that a write is an earlier one of the same client

own_less : (a b : Logged) → earlier_own a b ≡ true → a ≡ b → ⊥
unfolding earlier_own
own_less a b e q = omega (
  arith,
  ltb-true a.begun b.begun (and_right (is_some b.wrote) _ (and_right (is_some a.wrote) _ (and_right (eqb a.client b.client) _ e))),
  ap (λ (z : Logged). z.begun) q,
)

own-wrote : (a b : Logged) → earlier_own a b ≡ true → is_some b.wrote ≡ true
unfolding earlier_own
own-wrote a b e = and_left (is_some b.wrote) _ (and_right (is_some a.wrote) _ (and_right (eqb a.client b.client) _ e))

-- ---- versions along an order

version_in : (n : ℕ) (m : Option (List ℕ)) (cs : List Logged) (v : Version) → In v (versions n m cs) → In v.call cs × (n ≤ v.number)
unfolding versions In
version_in n m [] v i = absurd i
version_in n m (c ∷ cs) v (inl e) = (inl (ap (λ (z : Version). z.call) e), omega (arith, ap (λ (z : Version). z.number) e))
version_in n m (c ∷ cs) v (inr i) = let r = version_in (n + cond (is_some c.wrote) 1 0) (holds m c.wrote) cs v i in
    (inr r.0, omega (arith, r.1))

-- who stands ahead is no newer
rising : (n : ℕ) (m : Option (List ℕ)) (cs : List Logged) → InTime cs → (a r : Version) → In a (versions n m cs) →
    In r (versions n m cs) → before a.call r.call ≡ true → a.number ≤ r.number
unfolding versions In AllPairs
rising n m [] t a r i j b = absurd i
rising n m (c ∷ cs) t a r (inl p) (inl q) b = omega (arith, ap (λ (z : Version). z.number) p, ap (λ (z : Version). z.number) q)
rising n m (c ∷ cs) t a r (inl p) (inr j) b =
    omega (arith, ap (λ (z : Version). z.number) p, (version_in (n + cond (is_some c.wrote) 1 0) (holds m c.wrote) cs r j).1)
rising n m (c ∷ cs) t a r (inr i) (inl q) b = clash (subst (λ (z : Logged). before a.call z ≡ true) (ap (λ (z : Version). z.call) q) b)
    (all_in (λ x. before x c ≡ false) cs t.0 a.call (version_in (n + cond (is_some c.wrote) 1 0) (holds m c.wrote) cs a i).0)
rising n m (c ∷ cs) t a r (inr i) (inr j) b = rising (n + cond (is_some c.wrote) 1 0) (holds m c.wrote) cs t.1 a r i j b

-- a write's version is newer than those before it
newer : (n : ℕ) (m : Option (List ℕ)) (cs : List Logged) (v : Version) → In v (versions n m cs) → is_some v.call.wrote ≡ true → n < v.number
unfolding versions In
newer n m [] v i w = absurd i
newer n m (c ∷ cs) v (inl e) w = omega (
  arith,
  ap (λ (z : Version). z.number) e,
  ap {B = ℕ} (λ (b : Bool). cond b 1 0) (ap (λ (z : Version). is_some z.call.wrote) (sym e) ∙ w),
)
newer n m (c ∷ cs) v (inr i) w = omega (arith, newer (n + cond (is_some c.wrote) 1 0) (holds m c.wrote) cs v i w)

-- a client's later write has a newer version than its earlier ones
turned : (n : ℕ) (m : Option (List ℕ)) (cs : List Logged) → InTurn cs → (a b : Version) → In a (versions n m cs) →
    In b (versions n m cs) → earlier_own a.call b.call ≡ true → is_some b.call.wrote ≡ true → a.number < b.number
unfolding versions In AllPairs
turned n m [] t a b i j e w = absurd i
turned n m (c ∷ cs) t a b (inl p) (inl q) e w = absurd (own_less a.call b.call e (ap (λ (z : Version). z.call) (p ∙ sym q)))
turned n m (c ∷ cs) t a b (inl p) (inr j) e w =
    omega (arith, ap (λ (z : Version). z.number) p, newer (n + cond (is_some c.wrote) 1 0) (holds m c.wrote) cs b j w)
turned n m (c ∷ cs) t a b (inr i) (inl q) e w = clash (subst (λ (z : Logged). earlier_own a.call z ≡ true) (ap (λ (z : Version). z.call) q) e)
    (all_in (λ x. earlier_own x c ≡ false) cs t.0 a.call (version_in (n + cond (is_some c.wrote) 1 0) (holds m c.wrote) cs a i).0)
turned n m (c ∷ cs) t a b (inr i) (inr j) e w = turned (n + cond (is_some c.wrote) 1 0) (holds m c.wrote) cs t.1 a b i j e w

-- a read gives the content of its version
shown : (n : ℕ) (m : Option (List ℕ)) (cs : List Logged) → Replay m cs → (r : Version) → In r (versions n m cs) → r.call.wrote ≡ none →
    r.call.answer ≡ r.content
unfolding versions In Replay
shown n m [] h r i w = absurd i
shown n m (c ∷ cs) h r (inl q) w = let e = ap (λ (z : Version). z.call) q in ap (λ (z : Logged). z.answer) e
    ∙ here c.wrote refl (sym (ap (λ (z : Logged). z.wrote) e) ∙ w) h.0 ∙ sym (ap (λ (z : Version). z.content) q)
  where
    here : (o : Option (List ℕ)) → c.wrote ≡ o → o ≡ none → (c.wrote ≡ none → c.answer ≡ m) → c.answer ≡ holds m o
    here none w e h = h w
    here (some v) w e h = absurd (no_some (sym e))
shown n m (c ∷ cs) h r (inr i) w = shown (n + cond (is_some c.wrote) 1 0) (holds m c.wrote) cs h.1 r i w

pub never-older : (cs : List Logged) (o : OneOrder cs) → NeverOlder o.order
unfolding NeverOlder
never-older cs o r i = (shown 0 none o.order o.legal r i, λ a j b. rising 0 none o.order o.time a r j i b)

pub superseded : (cs : List Logged) (o : OneOrder cs) → InTurn o.order → Superseded o.order
unfolding Superseded
superseded cs o t a b r i j k e l = omega (
  arith,
  turned 0 none o.order t a b i j e (own-wrote a.call b.call e),
  rising 0 none o.order o.time b r j k l,
)

-- ---- a call has ended

in-round : (h : Hand) → is_idle h ≡ false → awaits h ≡ 0 → ⊥
unfolding is_idle
in-round h b e = clash (eq-eqb (awaits h) 0 e) b

module _ (K : Setup) (xs : Steps K) (fair : Fair K xs) where
  once_now : (P : Steps K → Type 0) (ys : Steps K) → P ys → Once P ys
  unfolding Once
  once_now P [] h = h
  once_now P (y ∷ ys) h = inl h

  pub ended : Ended K.s (account K.s) K.correct xs
  unfolding Ended Settled Progress
  ended a i good stays room answers =
      let g = known-call K xs fair a i in
      let settled : Settled K xs a = subst (Settled K xs) (sym g.2) (all_settled K xs fair g.0 g.1) in
      over (or_cases (is_some a.over) a.gave_up (settled (λ n. unfalse _ (λ busy. pending n busy (awaits (hand K xs a.client)) refl))))
    where
      over : (is_some a.over ≡ true) ⊎ (a.gave_up ≡ true) → is_some a.over ≡ true
      over (inl k) = k
      over (inr k) = clash k stays

      Met : ℕ → ℕ → Type 0
      Met n k = Answered K.s (account K.s) K.correct xs a.client n k

      -- the call is in hand, in a round that awaits k
      pending : a.number ≡ calls K xs a.client → is_idle (hand K xs a.client) ≡ false → (k : ℕ) → awaits (hand K xs a.client) ≡ k → ⊥
      pending n busy zero e = in-round (hand K xs a.client) busy e
      pending n busy (suc k) e =
          progress K xs fair a.client good busy (inr room) (subst (Met (calls K xs a.client)) (sym e)
          (subst (λ (j : ℕ). Met j (suc k)) n (answers k (once_now _ xs (sym n, e)))))

-- ---- on bytes, with the real functions

on_values : (s : System) → Legal s.config → Laws s → (correct : Correct) → Parties s.config correct → (l : List (StepIn s)) →
    Always (Premise s (by_values s.P s.config s.writers s.keys) correct) l →
    Page41Of s (by_values s.P s.config s.writers s.keys) correct l
unfolding by_values
on_values s legal laws correct parties l fair =
    let K : Setup = record { s = s; legal = legal; laws = laws; correct = correct; parties = parties } in
    let o = ordered K l fair in
    record {
      one = o.0;
      older = never-older (Log K l) o.0;
      sourced = o.1.0;
      superseded = superseded (Log K l) o.0 o.1.1;
      ended = ended K l fair;
    }

pub page-41 : Page41
unfolding Page41
page-41 sh lo hi first sized correct parties = claimed real real-lengths sh (lo, hi) first sized
    (λ A. (l : List (StepIn (system_of_def sh))) → Always (Premise (system_of_def sh) A correct) l → Page41Of (system_of_def sh) A correct l)
    (on_values (system_of_def sh) (legal-shelf sh.t lo hi) (real_laws sh lo hi) correct parties)
