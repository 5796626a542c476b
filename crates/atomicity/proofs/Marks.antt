-- Marks, the writes that have a stamp: each is made by the reply that ends clock, and its stamp is the one that its client makes of its number.
-- Assumes nothing.
use mathlib.Core.Path.{◌≡◌, refl, sym, ap, ◌∙◌, subst}
use mathlib.Core.Bool.{true}
use mathlib.Core.List.{List, [], ◌∷◌}
use mathlib.Core.Logic.{◌⊎◌, inl, inr}
use Prim.Native.Nat.{ℕ, suc, ◌≤◌}
use native.Mathlib.Omega.{arith}
use Rattle.protocol.specs.declared.Stamp.{Stamp}
use Rattle.protocol.specs.Values.{same_list}
use Rattle.protocol.specs.Primitives.{stamp_message_def}
use Rattle.protocol.specs.Client.{Client, Hand, awaits, Result, idle, clocking, storing, completing, collecting, filtering, repairing, prepared}
use Rattle.protocol.specs.Client.{candidate_made, stamp_of, checks, accepted}
use Rattle.runs.specs.Runs.{Lent, Step, write, read, make, take-reply, give-up, serve}
use Rattle.protocol.proofs.Equal.{same_refl}
use Rattle.atomicity.specs.Lists.{In}
use Rattle.atomicity.specs.Steps.{StepIn, System, Stamped, stamped_from, stamped_by, stamped_at}
use Rattle.atomicity.proofs.Util.{right_in, split_in}
use Rattle.atomicity.proofs.Model.{Run, account, client_at_def, result_at, hand_at, last_at, marks, stamp_for, prepared_for}
use Rattle.atomicity.proofs.Moves.{MovedAt, kept, wbegan, rbegan, quit, took, moved}
use Rattle.atomicity.proofs.Rounds.{Next, stays, clock_on, clock-ends, store-ends, collect_on, collect-ends, filter_on, filter-ends, over}
use Rattle.atomicity.proofs.Rounds.{turn_turned}

-- where a mark comes from
pub record Marked (s : System) (x : StepIn s) (xs : Run s) (m : Stamped) : Type 0 where
  pub lent : Lent
  pub packet : List ℕ
  pub output : List ℕ
  pub step : x.step ≡ take-reply m.client lent packet output
  pub top : ℕ
  pub top' : ℕ
  pub was : hand_at s xs m.client ≡ clocking m.content m.nonce top
  pub rises : top ≤ top'
  pub is : hand_at s (x ∷ xs) m.client ≡ prepared_for s m.client m.content m.nonce (suc top')
  pub last_is : last_at s (x ∷ xs) m.client ≡ suc top'
  pub stamp_is : m.stamp ≡ stamp_for s m.client (suc top')
  pub fine : accepted (result_at s x xs) ≡ true

-- only a hand that goes from clock to store gives a mark, and it gives one
abbrev pub From : ℕ → Hand → Hand → Type 0
From c h h' = (stamped_from c h h' ≡ []) ⊎ ((m : Stamped) × (stamped_from c h h' ≡ m ∷ []) × (awaits h ≡ 2) × (awaits h' ≡ 4))

pub from_one : (c : ℕ) (h h' : Hand) → From c h h'
unfolding stamped_from awaits
from_one c idle h' = inl refl
from_one c (clocking r n k) idle = inl refl
from_one c (clocking r n k) (clocking r' n' k') = inl refl
from_one c (clocking r n k) (storing d g) = inr (_, refl, refl, refl)
from_one c (clocking r n k) (completing d) = inl refl
from_one c (clocking r n k) (collecting g) = inl refl
from_one c (clocking r n k) (filtering cs g) = inl refl
from_one c (clocking r n k) (repairing d r') = inl refl
from_one c (storing d g) h' = inl refl
from_one c (completing d) h' = inl refl
from_one c (collecting g) h' = inl refl
from_one c (filtering cs g) h' = inl refl
from_one c (repairing d r) h' = inl refl

mark_none : (c : ℕ) (h h' : Hand) (m : Stamped) → (awaits h ≡ 2 → awaits h' ≡ 4 → ⊥) → In m (stamped_from c h h') → ⊥
unfolding In
mark_none c h h' m f i = go (from_one c h h')
  where
    go : From c h h' → ⊥
    go (inl e) = subst (In m) e i
    go (inr r) = f r.2 r.3

module _ (s : System) where
  Ended : ℕ → Hand → Hand → ℕ → Stamped → Type 0
  Ended c h h' l' m = (m.client ≡ c) × (k : ℕ) × (k' : ℕ) × (h ≡ clocking m.content m.nonce k) × (k ≤ k')
      × (h' ≡ prepared_for s c m.content m.nonce (suc k')) × (l' ≡ suc k') × (m.stamp ≡ stamp_for s c (suc k'))

  from_next : (c : ℕ) (h : Hand) (l : ℕ) (h' : Hand) (l' : ℕ) (m : Stamped) → Next s c h l h' l' → In m (stamped_from c h h') → Ended c h h' l' m
  unfolding stamped_from In prepared candidate_made awaits Ended
  from_next c h l h' l' m (stays _ _) i = absurd (mark_none c h h m (λ a b. omega (arith, a, b)) i)
  from_next c h l h' l' m (clock_on r n k k' _ e) i = absurd i
  from_next c h l h' l' m (clock-ends r n k k' _ e) (inl q) =
      subst (Ended c (clocking r n k) (prepared_for s c r n (suc k')) (suc k')) (sym q) (refl, k, k', refl, e, refl, refl, refl)
  from_next c h l h' l' m (clock-ends r n k k' _ e) (inr i) = absurd i
  from_next c h l h' l' m (store-ends d g _) i = absurd i
  from_next c h l h' l' m (collect_on g g' _) i = absurd i
  from_next c h l h' l' m (collect-ends g cs _) i = absurd i
  from_next c h l h' l' m (filter_on cs g g' _) i = absurd i
  from_next c h l h' l' m (filter-ends cs g d r _) i = absurd i
  from_next c h l h' l' m (over _ _) i = absurd (mark_none c h idle m (λ a b. omega (arith, b)) i)

  pub mark_source : (x : StepIn s) (xs : Run s) (m : Stamped) → In m (stamped_at s (account s) x xs) → Marked s x xs m
  unfolding stamped_by In Ended
  mark_source x xs m i = by x.step refl i
    where
      ends : (c : ℕ) (lent : Lent) (b o : List ℕ) → x.step ≡ take-reply c lent b o → In m (stamped_from c (hand_at s xs c) (hand_at s (x ∷ xs) c)) →
          MovedAt s c x xs → Marked s x xs m
      ends c lent b o q i (kept e _) = absurd (mark_none c (hand_at s xs c) (hand_at s xs c) m (λ a b. omega (arith, a, b))
          (subst (λ (z : Client). In m (stamped_from c (hand_at s xs c) z.hand)) e i))
      ends c lent b o q i (wbegan r n a d f l e) = absurd (let z : ◌≡◌ {A = ℕ} 0 1 = cc in omega arith)
      ends c lent b o q i (rbegan a d f e) = absurd (let z : ◌≡◌ {A = ℕ} 0 1 = cc in omega arith)
      ends c lent b o q i (quit a d f e) = absurd (let z : ◌≡◌ {A = ℕ} 0 1 = cc in omega arith)
      ends c lent b o q i (took p lent' b' o' a d f e r) =
          let t = turn_turned s c (client_at_def s xs c) p in
          let g = from_next c (hand_at s xs c) (last_at s xs c) (hand_at s (x ∷ xs) c) (last_at s (x ∷ xs) c) m
          (subst (λ (z : Client). Next s c (hand_at s xs c) (last_at s xs c) z.hand z.last) (sym e) t.next) i in
          record {
            lent = lent;
            packet = b;
            output = o;
            step = q ∙ ap (λ (d : ℕ). take-reply d lent b o) (sym g.0);
            top = g.1;
            top' = g.2;
            was = ap (hand_at s xs) g.0 ∙ g.3;
            rises = g.4;
            is = ap (hand_at s (x ∷ xs)) g.0 ∙ g.5
                ∙ ap (λ (d : ℕ). prepared_for s d m.content m.nonce (suc g.2)) (sym g.0);
            last_is = ap (last_at s (x ∷ xs)) g.0 ∙ g.6;
            stamp_is = g.7 ∙ ap (λ (d : ℕ). stamp_for s d (suc g.2)) (sym g.0);
            fine = subst (λ (z : Result). accepted z ≡ true) (sym r) t.fine;
          }

      by : (y : Step) → x.step ≡ y → In m (stamped_by (client_at_def s xs) (client_at_def s (x ∷ xs)) y) → Marked s x xs m
      by (write c r n) q i = absurd i
      by (read c) q i = absurd i
      by (make c b o) q i = absurd i
      by (give-up c) q i = absurd i
      by (serve b p o) q i = absurd i
      by (take-reply c lent b o) q i = ends c lent b o q i (moved s c x xs)

  -- a property of each new mark is one of all
  pub mark_all : (P : Stamped → Type 0) → ((x : StepIn s) (xs : Run s) (m : Stamped) → Marked s x xs m → P m) →
      (xs : Run s) (m : Stamped) → In m (marks s xs) → P m
  unfolding marks In
  mark_all P f [] m i = absurd i
  mark_all P f (x ∷ xs) m i = go (split_in m (stamped_at s (account s) x xs) (marks s xs) i) (λ k. mark_all P f xs m k)
    where
      go : In m (stamped_at s (account s) x xs) ⊎ In m (marks s xs) → (In m (marks s xs) → P m) → P m
      go (inl k) r = f x xs m (mark_source x xs m k)
      go (inr k) r = r k

  pub mark_num : (xs : Run s) (m : Stamped) → In m (marks s xs) → 1 ≤ m.stamp.number
  unfolding stamp_of
  mark_num = mark_all (λ (m : Stamped). 1 ≤ m.stamp.number) (λ x xs m t. omega (arith, ap (λ (a : Stamp). a.number) t.stamp_is))

  pub mark_form : (xs : Run s) (m : Stamped) → In m (marks s xs) → m.stamp ≡ stamp_for s m.client m.stamp.number
  unfolding stamp_of
  mark_form = mark_all (λ (m : Stamped). m.stamp ≡ stamp_for s m.client m.stamp.number)
      (λ x xs m t. t.stamp_is ∙ ap (λ (k : ℕ). stamp_for s m.client k) (sym (ap (λ (a : Stamp). a.number) t.stamp_is)))

  pub mark_who : (xs : Run s) (m : Stamped) → In m (marks s xs) → m.stamp.writer ≡ m.client
  unfolding stamp_of
  mark_who xs m i = ap (λ (a : Stamp). a.writer) (mark_form xs m i)

  pub mark-checks : (xs : Run s) (m : Stamped) → In m (marks s xs) → checks s.P s.writers m.stamp ≡ true
  unfolding checks stamp_of
  mark-checks xs m i = subst (λ (a : Stamp). same_list a.tag (s.P.tag s.writers (stamp_message_def a.number a.writer)) ≡ true)
      (sym (mark_form xs m i)) (same_refl (s.P.tag s.writers (stamp_message_def m.stamp.number m.client)))

  pub marks-up : (m : Stamped) (x : StepIn s) (xs : Run s) → In m (marks s xs) → In m (marks s (x ∷ xs))
  unfolding marks
  marks-up m x xs i = right_in m (stamped_at s (account s) x xs) (marks s xs) i
