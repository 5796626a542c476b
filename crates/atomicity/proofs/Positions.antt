-- A client's position (call and round), and the moments when its call and its round began. A reply leaves the round as it is or ends it, so a
-- position never falls, and within one position the request is the same.
-- Assumes nothing.
use mathlib.Core.Path.{◌≡◌, refl, sym, ap, ◌∙◌, subst}
use mathlib.Core.Bool.{Bool, false, cond}
use mathlib.Core.List.{[], ◌∷◌}
use mathlib.Core.Logic.{inl, inr}
use Prim.Native.Nat.{ℕ, ◌+◌, ◌*◌, ◌≤◌, ◌<◌}
use native.Mathlib.Nat.{le_refl}
use native.Mathlib.Omega.{arith}
use lib.Dec.{eqb}
use borrow.Author.Tests.{eq-eqb, ne_eqb}
use Rattle.protocol.specs.Rules.{nobody}
use Rattle.protocol.specs.Client.{Client, Hand, idle, clocking, storing, completing, collecting, filtering, repairing, awaits, is_idle, request}
use Rattle.protocol.specs.Client.{onto, begun, prepared}
use Rattle.atomicity.specs.Lists.{Ever}
use Rattle.atomicity.specs.Steps.{StepIn, System}
use Rattle.atomicity.proofs.Util.{clash, ever-map}
use Rattle.atomicity.proofs.Model.{Run, client_at_def, hand_at, calls_at}
use Rattle.atomicity.proofs.Moves.{MovedAt, kept, wbegan, rbegan, quit, took, moved}
use Rattle.atomicity.proofs.Rounds.{Next, stays, clock_on, clock-ends, store-ends, collect_on, collect-ends, filter_on, filter-ends, over}
use Rattle.atomicity.proofs.Rounds.{turn_turned}

unfoldable pub stage : Hand → ℕ
stage idle = 15
stage (clocking r n k) = 2
stage (storing d h) = 4
stage (completing d) = 6
stage (collecting g) = 8
stage (filtering cs g) = 10
stage (repairing d r) = 12

pub stage-awaits : (h : Hand) → is_idle h ≡ false → stage h ≡ awaits h
unfolding stage awaits is_idle
stage-awaits idle e = clash refl e
stage-awaits (clocking r n k) e = refl
stage-awaits (storing d h) e = refl
stage-awaits (completing d) e = refl
stage-awaits (collecting g) e = refl
stage-awaits (filtering cs g) e = refl
stage-awaits (repairing d r) e = refl

pub stage-bound : (h : Hand) → (2 ≤ stage h) × (stage h ≤ 15)
unfolding stage
stage-bound idle = (omega arith, omega arith)
stage-bound (clocking r n k) = (omega arith, omega arith)
stage-bound (storing d h) = (omega arith, omega arith)
stage-bound (completing d) = (omega arith, omega arith)
stage-bound (collecting g) = (omega arith, omega arith)
stage-bound (filtering cs g) = (omega arith, omega arith)
stage-bound (repairing d r) = (omega arith, omega arith)

-- a reply leaves the hand's round and request as they are, or ends the round
pub next_stage : (s : System) (c : ℕ) (h : Hand) (l : ℕ) (h' : Hand) (l' : ℕ) → Next s c h l h' l' → (stage h ≤ stage h')
    × (stage h ≡ stage h' → (b : ℕ) → request h b ≡ request h' b)
unfolding stage prepared
next_stage s c h a h' b (stays _ _) = (le_refl _, λ e b. refl)
next_stage s c h a h' b (clock_on r n k k' _ l) = (le_refl _, λ e b. refl)
next_stage s c h a h' b (clock-ends r n k k' _ l) = (omega arith, λ e. absurd (omega (arith, e)))
next_stage s c h a h' b (store-ends d g _) = (omega arith, λ e. absurd (omega (arith, e)))
next_stage s c h a h' b (collect_on g g' _) = (le_refl _, λ e b. refl)
next_stage s c h a h' b (collect-ends g cs _) = (omega arith, λ e. absurd (omega (arith, e)))
next_stage s c h a h' b (filter_on cs g g' _) = (le_refl _, λ e b. refl)
next_stage s c h a h' b (filter-ends cs g d r _) = (omega arith, λ e. absurd (omega (arith, e)))
next_stage s c h a h' b (over _ _) = last h
  where
    last : (g : Hand) → (stage g ≤ 15) × (stage g ≡ 15 → (b : ℕ) → request g b ≡ request idle b)
    last idle = (omega arith, λ e b. refl)
    last (clocking r n k) = (omega arith, λ e. absurd (omega (arith, e)))
    last (storing d g) = (omega arith, λ e. absurd (omega (arith, e)))
    last (completing d) = (omega arith, λ e. absurd (omega (arith, e)))
    last (collecting g) = (omega arith, λ e. absurd (omega (arith, e)))
    last (filtering cs g) = (omega arith, λ e. absurd (omega (arith, e)))
    last (repairing d r) = (omega arith, λ e. absurd (omega (arith, e)))

unfoldable pub pos : Client → ℕ
pos cl = 16 * cl.calls + stage cl.hand

module _ (s : System) where
  pub record Later (cl cl' : Client) : Type 0 where
    pub mono : pos cl ≤ pos cl'
    pub same_ask : pos cl ≡ pos cl' → (b : ℕ) → request cl.hand b ≡ request cl'.hand b
    pub same-calls : pos cl ≡ pos cl' → cl.calls ≡ cl'.calls

  later_refl : (cl : Client) → Later cl cl
  later_refl cl = record { mono = le_refl _; same_ask = λ e b. refl; same-calls = λ e. refl }

  later-next : (c : ℕ) (cl cl' : Client) → cl'.calls ≡ cl.calls → Next s c cl.hand cl.last cl'.hand cl'.last → Later cl cl'
  unfolding pos
  later-next c cl cl' e n = let k = next_stage s c cl.hand cl.last cl'.hand cl'.last n in
      record { mono = omega (arith, k.0, e); same_ask = λ q. k.1 (omega (arith, q, e)); same-calls = λ q. sym e }

  later-fresh : (cl : Client) (h : Hand) → Later cl (begun cl h)
  unfolding pos begun
  later-fresh cl h = let a = stage-bound cl.hand in let b = stage-bound h in
      record {
        mono = omega (arith, a.1, b.0);
        same_ask = λ q. absurd (omega (arith, q, a.1, b.0));
        same-calls = λ q. absurd (omega (arith, q, a.1, b.0));
      }

  quitted : (c : ℕ) (cl : Client) → Later cl (onto cl nobody idle)
  unfolding onto
  quitted c cl = later-next c cl _ refl (over cl.hand _)

  later : (c : ℕ) (x : StepIn s) (xs : Run s) → Later (client_at_def s xs c) (client_at_def s (x ∷ xs) c)
  later c x xs = go (moved s c x xs)
    where
      cl : Client
      cl = client_at_def s xs c

      go : MovedAt s c x xs → Later cl (client_at_def s (x ∷ xs) c)
      go (kept e _) = subst (Later cl) (sym e) (later_refl cl)
      go (wbegan r n a b d l e) = subst (Later cl) (sym e) (later-fresh cl _)
      go (rbegan a b d e) = subst (Later cl) (sym e) (later-fresh cl _)
      go (quit a b d e) = subst (Later cl) (sym e) (quitted c cl)
      go (took p lent b o a d f e r) = let t = turn_turned s c cl p in subst (Later cl) (sym e) (later-next c cl _ t.calls t.next)

  -- ---- the moments when the call and the round of client c began
  -- the steps before the begin of c's present call
  unfoldable pub since : ℕ → Run s → Run s
  since c [] = []
  since c (x ∷ xs) = cond (eqb (calls_at s xs c) (calls_at s (x ∷ xs) c)) (since c xs) xs

  -- the steps up to and with the one that began c's present round
  unfoldable pub from : ℕ → Run s → Run s
  from c [] = []
  from c (x ∷ xs) = cond (eqb (pos (client_at_def s xs c)) (pos (client_at_def s (x ∷ xs) c))) (from c xs) (x ∷ xs)

  pub since-same : (c : ℕ) (x : StepIn s) (xs : Run s) → calls_at s xs c ≡ calls_at s (x ∷ xs) c →
      since c (x ∷ xs) ≡ since c xs
  unfolding since
  since-same c x xs e = ap (λ (b : Bool). cond b (since c xs) xs) (eq-eqb _ _ e)

  pub since_new : (c : ℕ) (x : StepIn s) (xs : Run s) → calls_at s xs c < calls_at s (x ∷ xs) c → since c (x ∷ xs) ≡ xs
  unfolding since
  since_new c x xs l = ap (λ (b : Bool). cond b (since c xs) xs)
      (ne_eqb (calls_at s xs c) (calls_at s (x ∷ xs) c) (λ q. omega (arith, q)))

  pub from-same : (c : ℕ) (x : StepIn s) (xs : Run s) → pos (client_at_def s xs c) ≡ pos (client_at_def s (x ∷ xs) c) →
      from c (x ∷ xs) ≡ from c xs
  unfolding from
  from-same c x xs e = ap (λ (b : Bool). cond b (from c xs) (x ∷ xs)) (eq-eqb _ _ e)

  pub from_new : (c : ℕ) (x : StepIn s) (xs : Run s) → pos (client_at_def s xs c) < pos (client_at_def s (x ∷ xs) c) → from c (x ∷ xs) ≡ x ∷ xs
  unfolding from
  from_new c x xs l = ap (λ (b : Bool). cond b (from c xs) (x ∷ xs))
      (ne_eqb (pos (client_at_def s xs c)) (pos (client_at_def s (x ∷ xs) c)) (λ q. omega (arith, q)))

  -- an earlier moment, seen from now
  pub record Before (c : ℕ) (ys xs : Run s) : Type 0 where
    pub low : pos (client_at_def s ys c) ≤ pos (client_at_def s xs c)
    pub round : pos (client_at_def s ys c) ≡ pos (client_at_def s xs c) →
        (from c ys ≡ from c xs) × (since c ys ≡ since c xs) × ((b : ℕ) → request (hand_at s ys c) b ≡ request (hand_at s xs c) b)
        × (calls_at s ys c ≡ calls_at s xs c)

  pub before_one : (c : ℕ) (x : StepIn s) (xs : Run s) → Before c xs (x ∷ xs)
  before_one c x xs = let l = later c x xs in
      record { low = l.mono; round = λ e. (sym (from-same c x xs e), sym (since-same c x xs (l.same-calls e)), l.same_ask e, l.same-calls e) }

  pub before-trans : (c : ℕ) (zs ys xs : Run s) → Before c zs ys → Before c ys xs → Before c zs xs
  before-trans c zs ys xs a b = record {
    low = omega (arith, a.low, b.low);
    round = λ e. let f = a.round (omega (arith, a.low, b.low, e)) in let g = b.round (omega (arith, a.low, b.low, e)) in
        (f.0 ∙ g.0, f.1 ∙ g.1, λ b. f.2 b ∙ g.2 b, f.3 ∙ g.3);
  }

  pub ever-before : (c : ℕ) (P : StepIn s → Run s → Type 0) (xs : Run s) → Ever P xs → Ever (λ y ys. P y ys × Before c ys xs) xs
  unfolding Ever
  ever-before c P [] e = absurd e
  ever-before c P (x ∷ xs) (inl p) = inl (p, before_one c x xs)
  ever-before c P (x ∷ xs) (inr e) = inr (ever-map (λ y ys. P y ys × Before c ys xs) (λ y ys. P y ys × Before c ys (x ∷ xs))
      (λ y ys h. (h.0, before-trans c ys xs (x ∷ xs) h.1 (before_one c x xs))) xs (ever-before c P xs e))
