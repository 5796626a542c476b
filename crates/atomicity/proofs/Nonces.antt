-- Two marks with one nonce are one: a write's begin is fresh, so one nonce is begun once, and while a hand is clocking its nonce has no mark.
-- Assumes nothing.
use mathlib.Core.Path.{◌≡◌, refl, sym, ap, ◌∙◌, subst}
use mathlib.Core.Bool.{true}
use mathlib.Core.List.{List, [], ◌∷◌}
use mathlib.Core.Logic.{◌⊎◌, inl, inr}
use Prim.Native.Nat.{ℕ, suc}
use native.Mathlib.Omega.{arith}
use Rattle.protocol.specs.Client.{Client, Hand, Result, idle, clocking, storing, completing, collecting, filtering, repairing, begun, onto, prepared}
use Rattle.protocol.specs.Client.{accepted}
use Rattle.runs.specs.Runs.{write}
use Rattle.runs.proofs.ValueRuns.{now_values}
use Rattle.atomicity.specs.Lists.{Ever, Always, In}
use Rattle.atomicity.specs.Steps.{Stamped, stamped_at}
use Rattle.atomicity.specs.Premises.{Begins, FreshNonce}
use Rattle.atomicity.proofs.Util.{split_in, ever-map}
use Rattle.atomicity.proofs.Model.{account, marks, stamp_for, prepared_for}
use Rattle.atomicity.proofs.Setup.{Setup, Steps, StepOf, Fair, Begin, hand, last_of, cli}
use Rattle.atomicity.proofs.Moves.{kept, wbegan, rbegan, quit, took, moved, MovedAt}
use Rattle.atomicity.proofs.Rounds.{Next, stays, clock_on, clock-ends, store-ends, collect_on, collect-ends, filter_on, filter-ends, over}
use Rattle.atomicity.proofs.Rounds.{turn_turned}
use Rattle.atomicity.proofs.Marks.{Marked, mark_source}
use Rattle.atomicity.proofs.Begun.{Opening, Known, known, opened}

module _ (K : Setup) where
  pub begins : (xs : Steps K) (m : Stamped) → In m (marks K.s xs) → Ever (Begin K m.client m.nonce) xs
  unfolding Begins
  begins xs m i = ever-map _ _ (λ y ys o. (m.content, o.0, o.1)) xs (opened K.s xs m i)

  -- one nonce, one write
  one-nonce : (xs : Steps K) → Fair K xs → (c d : ℕ) (r q n : List ℕ) → Ever (Opening K.s c r n) xs → Ever (Opening K.s d q n) xs → (c ≡ d)
      × (r ≡ q)
  unfolding Ever Always Begins FreshNonce
  one-nonce [] h c d r q n e f = absurd e
  one-nonce (x ∷ xs) h c d r q n (inl e) (inl f) = let a : write c r n ≡ write d q n = sym e.0 ∙ f.0 in let z : c ≡ d = cc in
      let y : r ≡ q = cc in (z, y)
  one-nonce (x ∷ xs) h c d r q n (inl e) (inr f) = absurd ((h.0.fresh c n (r, e.0, e.1)).0 d (ever-map _ _ (λ y ys o. (q, o.0, o.1)) xs f))
  one-nonce (x ∷ xs) h c d r q n (inr e) (inl f) = absurd ((h.0.fresh d n (q, f.0, f.1)).0 c (ever-map _ _ (λ y ys o. (r, o.0, o.1)) xs e))
  one-nonce (x ∷ xs) h c d r q n (inr e) (inr f) = one-nonce xs h.1 c d r q n e f

  -- the nonce of a clocking hand has no mark yet
  unfoldable pub Unmarked : Steps K → Hand → Type 0
  Unmarked xs idle = Unit {0}
  Unmarked xs (clocking r n k) = (m : Stamped) → In m (marks K.s xs) → m.nonce ≡ n → ⊥
  Unmarked xs (storing d h) = Unit {0}
  Unmarked xs (completing d) = Unit {0}
  Unmarked xs (collecting g) = Unit {0}
  Unmarked xs (filtering cs g) = Unit {0}
  Unmarked xs (repairing d r) = Unit {0}

  -- a hand that is clocking after the step, and was before or begins now
  unmarked_at : (x : StepOf K) (xs : Steps K) → Fair K (x ∷ xs) → (c : ℕ) (r n : List ℕ) (k : ℕ) → hand K (x ∷ xs) c ≡ clocking r n k →
      ((m : Stamped) → In m (marks K.s xs) → m.nonce ≡ n → ⊥) → (m : Stamped) → In m (marks K.s (x ∷ xs)) → m.nonce ≡ n → ⊥
  unfolding marks Known prepared
  unmarked_at x xs fair c r n k e old m i q = go (split_in m (stamped_at K.s (account K.s) x xs) (marks K.s xs) i)
    where
      go : In m (stamped_at K.s (account K.s) x xs) ⊎ In m (marks K.s xs) → ⊥
      go (inr j) = old m j q
      go (inl j) =
          let t = mark_source K.s x xs m j in
          let o : Ever (Opening K.s c r n) (x ∷ xs) = subst (Known K.s (x ∷ xs) c) e (known K.s (x ∷ xs) c) in
          let b : Ever (Opening K.s m.client m.content n) (x ∷ xs) =
          subst (λ (y : List ℕ). Ever (Opening K.s m.client m.content y) (x ∷ xs)) q (opened K.s (x ∷ xs) m i) in
          let w : m.client ≡ c = (one-nonce (x ∷ xs) fair m.client c m.content r n b o).0 in
          let a : prepared_for K.s m.client m.content m.nonce (suc t.top') ≡ clocking r n k = sym t.is
          ∙ ap (hand K (x ∷ xs)) w ∙ e in
          (let z : ◌≡◌ {A = ℕ} 0 1 = cc in omega arith)

  pub unmarked : (xs : Steps K) → Fair K xs → (c : ℕ) → Unmarked xs (hand K xs c)
  unfolding now_values Unmarked Always begun onto FreshNonce Begins prepared
  unmarked [] fair c = tt
  unmarked (x ∷ xs) fair c = go (moved K.s c x xs) (unmarked xs fair.1 c)
    where
      cl' : Client
      cl' = cli K (x ∷ xs) c

      -- from the hand before, by the hand after
      on : (h : Hand) → cl'.hand ≡ h → ((r n : List ℕ) (k : ℕ) → h ≡ clocking r n k → (m : Stamped) → In m (marks K.s xs) → m.nonce ≡ n → ⊥) →
          Unmarked (x ∷ xs) h
      on idle e f = tt
      on (clocking r n k) e f = unmarked_at x xs fair c r n k e (f r n k refl)
      on (storing d h) e f = tt
      on (completing d) e f = tt
      on (collecting g) e f = tt
      on (filtering cs g) e f = tt
      on (repairing d r) e f = tt

      go : MovedAt K.s c x xs → Unmarked xs (hand K xs c) → Unmarked (x ∷ xs) cl'.hand
      go (kept e _) u = on cl'.hand refl (λ r n k q. subst (Unmarked xs) (sym (ap (λ (y : Client). y.hand) e) ∙ q) u)
      go (wbegan r n a b d l e) u = on cl'.hand refl
          (λ r' n' k q m i z. let q' : clocking r n _ ≡ clocking r' n' k = sym (ap (λ (y : Client). y.hand) e) ∙ q in
          let nn : n ≡ n' = cc in
          (fair.0.fresh c n (r, a, subst (λ (z : Result). accepted z ≡ true) (sym b) refl)).0 m.client
          (subst (λ (y : List ℕ). Ever (Begin K m.client y) xs) (z ∙ sym nn) (begins xs m i)))
      go (rbegan a b d e) u = subst (Unmarked (x ∷ xs)) (sym (ap (λ (y : Client). y.hand) e)) tt
      go (quit a b d e) u = subst (Unmarked (x ∷ xs)) (sym (ap (λ (y : Client). y.hand) e)) tt
      go (took p lent b o a d f e r) u = let t = (turn_turned K.s c (cli K xs c) p).next in
          on cl'.hand refl (λ r n k q. on-next (hand K xs c) (last_of K xs c) cl'.hand cl'.last
          (subst (λ (z : Client). Next K.s c (hand K xs c) (last_of K xs c) z.hand z.last) (sym e) t) r n k q u)
        where
          on-next : (h : Hand) (l : ℕ) (h' : Hand) (l' : ℕ) → Next K.s c h l h' l' → (r n : List ℕ) (k : ℕ) → h' ≡ clocking r n k → Unmarked xs h →
              (m : Stamped) → In m (marks K.s xs) → m.nonce ≡ n → ⊥
          on-next h l h' l' (stays _ _) r n k q u = subst (Unmarked xs) q u
          on-next h l h' l' (clock_on r' n' k' k'' _ z) r n k q u = let nn : n' ≡ n = cc in
              subst (λ (y : List ℕ). (m : Stamped) → In m (marks K.s xs) → m.nonce ≡ y → ⊥) nn u
          on-next h l h' l' (clock-ends r' n' k' k'' _ z) r n k q u = absurd (let z : ◌≡◌ {A = ℕ} 0 1 = cc in omega arith)
          on-next h l h' l' (store-ends d g _) r n k q u = absurd (let z : ◌≡◌ {A = ℕ} 0 1 = cc in omega arith)
          on-next h l h' l' (collect_on g g' _) r n k q u = absurd (let z : ◌≡◌ {A = ℕ} 0 1 = cc in omega arith)
          on-next h l h' l' (collect-ends g cs _) r n k q u = absurd (let z : ◌≡◌ {A = ℕ} 0 1 = cc in omega arith)
          on-next h l h' l' (filter_on cs g g' _) r n k q u = absurd (let z : ◌≡◌ {A = ℕ} 0 1 = cc in omega arith)
          on-next h l h' l' (filter-ends cs g d r' _) r n k q u = absurd (let z : ◌≡◌ {A = ℕ} 0 1 = cc in omega arith)
          on-next h l h' l' (over _ _) r n k q u = absurd (let z : ◌≡◌ {A = ℕ} 0 1 = cc in omega arith)

  -- two marks with one nonce are one
  pub by-nonce : (xs : Steps K) → Fair K xs → (a b : Stamped) → In a (marks K.s xs) → In b (marks K.s xs) → a.nonce ≡ b.nonce → a ≡ b
  unfolding marks In Always Unmarked
  by-nonce [] fair a b i j e = absurd i
  by-nonce (x ∷ xs) fair a b i j e =
      go (split_in a (stamped_at K.s (account K.s) x xs) (marks K.s xs) i)
      (split_in b (stamped_at K.s (account K.s) x xs) (marks K.s xs) j) (λ k l. by-nonce xs fair.1 a b k l e)
    where
      M : Stamped → Type 0
      M m = Marked K.s x xs m

      never : (m k : Stamped) → m.nonce ≡ k.nonce → M m → In k (marks K.s xs) → ⊥
      never m k q t l = subst (Unmarked xs) t.was (unmarked xs fair.1 m.client) k l (sym q)

      both : M a → M b → a ≡ b
      both t u =
          let w : a.client ≡ b.client = (let z = sym t.step ∙ u.step in cc) in
          let h : clocking a.content a.nonce t.top ≡ clocking b.content b.nonce u.top = sym t.was ∙ ap (hand K xs) w
          ∙ u.was in
          let r : a.content ≡ b.content = cc in let n : a.nonce ≡ b.nonce = cc in
          let l : suc t.top' ≡ suc u.top' = sym t.last_is ∙ ap (last_of K (x ∷ xs)) w
          ∙ u.last_is in
          let σ : a.stamp ≡ b.stamp = t.stamp_is ∙ ap (λ (c : ℕ). stamp_for K.s c (suc t.top')) w
          ∙ ap (λ (k : ℕ). stamp_for K.s b.client k) l ∙ sym u.stamp_is in
          (λ i. record { client = w i; content = r i; nonce = n i; stamp = σ i })

      go : In a (stamped_at K.s (account K.s) x xs) ⊎ In a (marks K.s xs) → In b (stamped_at K.s (account K.s) x xs)
          ⊎ In b (marks K.s xs) → (In a (marks K.s xs) → In b (marks K.s xs) → a ≡ b) → a ≡ b
      go (inl k) (inl l) r = both (mark_source K.s x xs a k) (mark_source K.s x xs b l)
      go (inl k) (inr l) r = absurd (never a b e (mark_source K.s x xs a k) l)
      go (inr k) (inl l) r = absurd (never b a (sym e) (mark_source K.s x xs b l) k)
      go (inr k) (inr l) r = r k l
