-- A client's numbers rise, so two marks with one writer and number are one.
-- Assumes nothing.
use mathlib.Core.Path.{◌≡◌, sym, ap, ◌∙◌, subst}
use mathlib.Core.List.{[], ◌∷◌}
use mathlib.Core.Logic.{◌⊎◌, inl, inr}
use Prim.Native.Nat.{ℕ, ◌≤◌, ◌<◌}
use native.Mathlib.Nat.{le_refl}
use native.Mathlib.Omega.{arith}
use Rattle.protocol.specs.declared.Stamp.{Stamp}
use Rattle.protocol.specs.Client.{Client, Hand, idle, clocking, storing, completing, collecting, filtering, repairing, begun, onto, prepared, stamp_of}
use Rattle.runs.proofs.ValueRuns.{now_values}
use Rattle.atomicity.specs.Lists.{In}
use Rattle.atomicity.specs.Steps.{StepIn, System, Stamped, stamped_at}
use Rattle.atomicity.proofs.Util.{split_in}
use Rattle.atomicity.proofs.Model.{Run, account, client_at_def, hand_at, last_at, marks, stamp_for}
use Rattle.atomicity.proofs.Moves.{MovedAt, kept, wbegan, rbegan, quit, took, moved}
use Rattle.atomicity.proofs.Rounds.{Next, stays, clock_on, clock-ends, store-ends, collect_on, collect-ends, filter_on, filter-ends, over}
use Rattle.atomicity.proofs.Rounds.{turn_turned}
use Rattle.atomicity.proofs.Marks.{Marked, mark_source, mark_form, mark_who}

-- the number of a hand in its clock round has P
unfoldable pub Clocked : (ℕ → Type 0) → Hand → Type 0
Clocked P idle = Unit {0}
Clocked P (clocking r n k) = P k
Clocked P (storing d h) = Unit {0}
Clocked P (completing d) = Unit {0}
Clocked P (collecting g) = Unit {0}
Clocked P (filtering cs g) = Unit {0}
Clocked P (repairing d r) = Unit {0}

pub clocked-map : (P R : ℕ → Type 0) → ((k : ℕ) → P k → R k) → (h : Hand) → Clocked P h → Clocked R h
unfolding Clocked
clocked-map P R f idle c = tt
clocked-map P R f (clocking r n k) c = f k c
clocked-map P R f (storing d h) c = tt
clocked-map P R f (completing d) c = tt
clocked-map P R f (collecting g) c = tt
clocked-map P R f (filtering cs g) c = tt
clocked-map P R f (repairing d r) c = tt

-- it is at least the last stamp's
abbrev LastOk : ℕ → Hand → Type 0
LastOk l = Clocked (λ k. l ≤ k)

module _ (s : System) where
  last-next : (c : ℕ) (h : Hand) (l : ℕ) (h' : Hand) (l' : ℕ) → Next s c h l h' l' → LastOk l h → LastOk l' h' × (l ≤ l')
  unfolding Clocked prepared
  last-next c h l h' l' (stays _ _) o = (o, le_refl l)
  last-next c h l h' l' (clock_on r n k k' _ e) o = (omega (arith, o, e), le_refl l)
  last-next c h l h' l' (clock-ends r n k k' _ e) o = (tt, omega (arith, o, e))
  last-next c h l h' l' (store-ends d g _) o = (tt, le_refl l)
  last-next c h l h' l' (collect_on g g' _) o = (tt, le_refl l)
  last-next c h l h' l' (collect-ends g cs _) o = (tt, le_refl l)
  last-next c h l h' l' (filter_on cs g g' _) o = (tt, le_refl l)
  last-next c h l h' l' (filter-ends cs g d r _) o = (tt, le_refl l)
  last-next c h l h' l' (over _ _) o = (tt, le_refl l)

  last_step : (c : ℕ) (x : StepIn s) (xs : Run s) → LastOk (last_at s xs c) (hand_at s xs c) →
      LastOk (last_at s (x ∷ xs) c) (hand_at s (x ∷ xs) c) × (last_at s xs c ≤ last_at s (x ∷ xs) c)
  unfolding begun onto Clocked
  last_step c x xs o = go (moved s c x xs)
    where
      Goal : Client → Type 0
      Goal z = LastOk z.last z.hand × (last_at s xs c ≤ z.last)

      go : MovedAt s c x xs → Goal (client_at_def s (x ∷ xs) c)
      go (kept e _) = subst Goal (sym e) (o, le_refl _)
      go (wbegan r n a b d l e) = subst Goal (sym e) (le_refl _, le_refl _)
      go (rbegan a b d e) = subst Goal (sym e) (tt, le_refl _)
      go (quit a b d e) = subst Goal (sym e) (tt, le_refl _)
      go (took p lent b q a d f e r) = subst Goal (sym e) (last-next c _ _ _ _ (turn_turned s c (client_at_def s xs c) p).next o)

  last_ok : (xs : Run s) (c : ℕ) → LastOk (last_at s xs c) (hand_at s xs c)
  unfolding now_values Clocked
  last_ok [] c = tt
  last_ok (x ∷ xs) c = (last_step c x xs (last_ok xs c)).0

  -- no mark's number is above its client's last
  pub capped : (xs : Run s) (m : Stamped) → In m (marks s xs) → m.stamp.number ≤ last_at s xs m.client
  unfolding marks In stamp_of
  capped [] m i = absurd i
  capped (x ∷ xs) m i = go (split_in m (stamped_at s (account s) x xs) (marks s xs) i) (λ k. capped xs m k)
    where
      go : In m (stamped_at s (account s) x xs) ⊎ In m (marks s xs) → (In m (marks s xs) → m.stamp.number ≤ last_at s xs m.client) →
          m.stamp.number ≤ last_at s (x ∷ xs) m.client
      go (inl k) r = let t = mark_source s x xs m k in omega (arith, ap (λ (a : Stamp). a.number) t.stamp_is, t.last_is)
      go (inr k) r = omega (arith, r k, (last_step m.client x xs (last_ok xs m.client)).1)

  -- a new mark is above the old ones of its client
  pub above : (x : StepIn s) (xs : Run s) (a b : Stamped) → a.client ≡ b.client → Marked s x xs a → In b (marks s xs) →
      b.stamp.number < a.stamp.number
  unfolding stamp_of Clocked
  above x xs a b w t j = omega (
    arith,
    ap (λ (a : Stamp). a.number) t.stamp_is,
    t.rises,
    capped xs b j,
    ap (last_at s xs) w,
    subst (LastOk (last_at s xs a.client)) t.was (last_ok xs a.client),
  )

  -- two marks of one client with one number are one
  one_mark : (xs : Run s) (a b : Stamped) → In a (marks s xs) → In b (marks s xs) → a.client ≡ b.client → a.stamp.number ≡ b.stamp.number →
      a ≡ b
  unfolding marks In stamp_of Clocked
  one_mark [] a b i j w n = absurd i
  one_mark (x ∷ xs) a b i j w n =
      go (split_in a (stamped_at s (account s) x xs) (marks s xs) i) (split_in b (stamped_at s (account s) x xs) (marks s xs) j)
      (λ k l. one_mark xs a b k l w n)
    where
      both : Marked s x xs a → Marked s x xs b → a ≡ b
      both t u =
          let h : clocking a.content a.nonce t.top ≡ clocking b.content b.nonce u.top = sym t.was
          ∙ ap (hand_at s xs) w ∙ u.was in
          let r : a.content ≡ b.content = cc in let q : a.nonce ≡ b.nonce = cc in
          let σ : a.stamp ≡ b.stamp = mark_form s (x ∷ xs) a i ∙ ap (λ (c : ℕ). stamp_for s c a.stamp.number) w
          ∙ ap (λ (k : ℕ). stamp_for s b.client k) n ∙ sym (mark_form s (x ∷ xs) b j) in
          (λ i. record { client = w i; content = r i; nonce = q i; stamp = σ i })

      go : In a (stamped_at s (account s) x xs) ⊎ In a (marks s xs) → In b (stamped_at s (account s) x xs) ⊎ In b (marks s xs) →
          (In a (marks s xs) → In b (marks s xs) → a ≡ b) → a ≡ b
      go (inl k) (inl l) r = both (mark_source s x xs a k) (mark_source s x xs b l)
      go (inl k) (inr l) r = absurd (omega (arith, n, above x xs a b w (mark_source s x xs a k) l))
      go (inr k) (inl l) r = absurd (omega (arith, n, above x xs b a (sym w) (mark_source s x xs b l) k))
      go (inr k) (inr l) r = r k l

  pub by_parts : (xs : Run s) (a b : Stamped) → In a (marks s xs) → In b (marks s xs) → a.stamp.number ≡ b.stamp.number →
      a.stamp.writer ≡ b.stamp.writer → a ≡ b
  by_parts xs a b i j n w = one_mark xs a b i j (sym (mark_who s xs a i) ∙ w ∙ mark_who s xs b j) n

  pub by-stamp : (xs : Run s) (a b : Stamped) → In a (marks s xs) → In b (marks s xs) → a.stamp ≡ b.stamp → a ≡ b
  by-stamp xs a b i j e = by_parts xs a b i j (ap (λ (z : Stamp). z.number) e) (ap (λ (z : Stamp). z.writer) e)
