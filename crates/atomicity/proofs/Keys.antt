-- The key of a call with its stamp: number, writer, write before read, time of the begin; compared in that order.
-- Assumes nothing.
use mathlib.Core.Path.{◌≡◌, refl, sym, ap, ◌∙◌}
use mathlib.Core.Bool.{Bool, true, false, cond, ◌&&◌, ◌||◌}
use mathlib.Core.List.{List}
use mathlib.Core.Option.{Option, none, some}
use mathlib.Core.Logic.{◌⊎◌, inl, inr}
use Prim.Native.Nat.{ℕ, ◌<◌}
use native.Mathlib.Omega.{arith}
use lib.Dec.{ltb, eqb}
use borrow.Author.Tests.{ltb-true, ltb-false, lt-ltb, eqb-true, eq-eqb}
use Rattle.protocol.specs.declared.Stamp.{Stamp}
use Rattle.protocol.specs.Values.{is_some}
use Rattle.atomicity.specs.Claim.{Logged}
use Rattle.atomicity.proofs.Util.{bool_case, and_left, and_right, and_intro, or_left, or_right}

unfoldable pub lex : ℕ → ℕ → Bool → Bool
lex m n r = ltb m n || (eqb m n && r)

pub lex-view : (m n : ℕ) (r : Bool) → lex m n r ≡ true → (m < n) ⊎ ((m ≡ n) × (r ≡ true))
unfolding lex
lex-view m n r e = go (ltb m n) refl e
  where
    go : (b : Bool) → ltb m n ≡ b → (b || (eqb m n && r)) ≡ true → (m < n) ⊎ ((m ≡ n) × (r ≡ true))
    go true l k = inl (ltb-true m n l)
    go false l k = inr (eqb-true m n (and_left (eqb m n) r k), and_right (eqb m n) r k)

pub lex-lt : (m n : ℕ) (r : Bool) → m < n → lex m n r ≡ true
unfolding lex
lex-lt m n r h = or_left (ltb m n) (eqb m n && r) (lt-ltb m n h)

pub lex-eq : (m n : ℕ) (r : Bool) → m ≡ n → r ≡ true → lex m n r ≡ true
unfolding lex
lex-eq m n r e h = or_right (ltb m n) (eqb m n && r) (and_intro (eqb m n) r (eq-eqb m n e) h)

pub lex-chain : (a b c : ℕ) (r1 r2 r3 : Bool) → (r1 ≡ true → r2 ≡ true → r3 ≡ true) → lex a b r1 ≡ true → lex b c r2 ≡ true → lex a c r3 ≡ true
lex-chain a b c r1 r2 r3 f p q = go (lex-view a b r1 p) (lex-view b c r2 q)
  where
    go : (a < b) ⊎ ((a ≡ b) × (r1 ≡ true)) → (b < c) ⊎ ((b ≡ c) × (r2 ≡ true)) → lex a c r3 ≡ true
    go (inl x) (inl y) = lex-lt a c r3 (omega arith)
    go (inl x) (inr y) = lex-lt a c r3 (omega (arith, y.0))
    go (inr x) (inl y) = lex-lt a c r3 (omega (arith, x.0))
    go (inr x) (inr y) = lex-eq a c r3 (x.0 ∙ y.0) (f x.1 y.1)

pub lex_asym : (a b : ℕ) (r1 r2 : Bool) → (r1 ≡ true → r2 ≡ true → ⊥) → lex a b r1 ≡ true → lex b a r2 ≡ true → ⊥
lex_asym a b r1 r2 f p q = go (lex-view a b r1 p) (lex-view b a r2 q)
  where
    go : (a < b) ⊎ ((a ≡ b) × (r1 ≡ true)) → (b < a) ⊎ ((b ≡ a) × (r2 ≡ true)) → ⊥
    go (inl x) (inl y) = omega arith
    go (inl x) (inr y) = omega (arith, y.0)
    go (inr x) (inl y) = omega (arith, x.0)
    go (inr x) (inr y) = f x.1 y.1

pub lex-total : (m n : ℕ) (r s : Bool) → (r ≡ true) ⊎ (s ≡ true) → (lex m n r ≡ true) ⊎ (lex n m s ≡ true)
lex-total m n r s h = bool_case (ltb m n) (λ e. inl (lex-lt m n r (ltb-true m n e)))
    (λ e. bool_case (ltb n m) (λ f. inr (lex-lt n m s (ltb-true n m f)))
    (λ f. let q : m ≡ n = omega (arith, ltb-false m n e, ltb-false n m f) in go q h))
  where
    go : m ≡ n → (r ≡ true) ⊎ (s ≡ true) → (lex m n r ≡ true) ⊎ (lex n m s ≡ true)
    go q (inl k) = inl (lex-eq m n r q k)
    go q (inr k) = inr (lex-eq n m s (sym q) k)

-- ---- of calls

-- 0 for a write, 1 for a read
unfoldable pub part : Logged → ℕ
part c = cond (is_some c.wrote) 0 1

pub part_write : (a : Logged) (v : List ℕ) → a.wrote ≡ some v → part a ≡ 0
unfolding part
part_write a v e = ap (λ (o : Option (List ℕ)). cond (is_some o) 0 1) e

pub part_read : (a : Logged) → a.wrote ≡ none → part a ≡ 1
unfolding part
part_read a e = ap (λ (o : Option (List ℕ)). cond (is_some o) 0 1) e

pub wrote_case : {B : Type 0} (a : Logged) → (a.wrote ≡ none → B) → ((v : List ℕ) → a.wrote ≡ some v → B) → B
wrote_case {B} a f g = go a.wrote refl
  where
    go : (o : Option (List ℕ)) → a.wrote ≡ o → B
    go none e = f e
    go (some v) e = g v e

-- write before read, then by the begin
unfoldable pub lesser : Logged → Logged → Bool
lesser a b = lex (part a) (part b) (ltb a.begun b.begun)

unfoldable pub less : Stamp → Logged → Stamp → Logged → Bool
less σ a τ b = lex σ.number τ.number (lex σ.writer τ.writer (lesser a b))

lt-chain : (a b c : ℕ) → ltb a b ≡ true → ltb b c ≡ true → ltb a c ≡ true
lt-chain a b c p q = lt-ltb a c (omega (arith, ltb-true a b p, ltb-true b c q))

lt_asym : (a b : ℕ) → ltb a b ≡ true → ltb b a ≡ true → ⊥
lt_asym a b p q = omega (arith, ltb-true a b p, ltb-true b a q)

pub less-chain : (σ : Stamp) (a : Logged) (τ : Stamp) (b : Logged) (υ : Stamp) (c : Logged) → less σ a τ b ≡ true → less τ b υ c ≡ true →
    less σ a υ c ≡ true
unfolding less lesser
less-chain σ a τ b υ c = lex-chain _ _ _ _ _ _ (lex-chain _ _ _ _ _ _ (lex-chain _ _ _ _ _ _ (lt-chain a.begun b.begun c.begun)))

pub less_asym : (σ : Stamp) (a : Logged) (τ : Stamp) (b : Logged) → less σ a τ b ≡ true → less τ b σ a ≡ true → ⊥
unfolding less lesser
less_asym σ a τ b = lex_asym _ _ _ _ (lex_asym _ _ _ _ (lex_asym _ _ _ _ (lt_asym a.begun b.begun)))

pub less-total : (σ : Stamp) (a : Logged) (τ : Stamp) (b : Logged) → b.begun < a.begun → (less σ a τ b ≡ true) ⊎ (less τ b σ a ≡ true)
unfolding less lesser
less-total σ a τ b h = lex-total _ _ _ _ (lex-total _ _ _ _ (lex-total _ _ _ _ (inr (lt-ltb b.begun a.begun h))))

-- what is left of less after the stamps
abbrev pub Rest : Stamp → Logged → Stamp → Logged → Type 0
Rest σ a τ b = (σ.number < τ.number) ⊎ ((σ.number ≡ τ.number) × ((σ.writer < τ.writer) ⊎ ((σ.writer ≡ τ.writer) × (lesser a b ≡ true))))

pub less-rest : (σ : Stamp) (a : Logged) (τ : Stamp) (b : Logged) → less σ a τ b ≡ true → Rest σ a τ b
unfolding less
less-rest σ a τ b h = go (lex-view _ _ _ h)
  where
    inner : (lex σ.writer τ.writer (lesser a b) ≡ true) → (σ.writer < τ.writer) ⊎ ((σ.writer ≡ τ.writer) × (lesser a b ≡ true))
    inner k = lex-view _ _ _ k

    go : (σ.number < τ.number) ⊎ ((σ.number ≡ τ.number) × (lex σ.writer τ.writer (lesser a b) ≡ true)) → Rest σ a τ b
    go (inl k) = inl k
    go (inr k) = inr (k.0, inner k.1)

-- w ≤ x ≤ r, and w and r have one stamp: so has x
pub between : (σ : Stamp) (w : Logged) (τ : Stamp) (x : Logged) (υ : Stamp) (r : Logged) → σ.number ≡ υ.number → σ.writer ≡ υ.writer →
    Rest σ w τ x →
    Rest τ x υ r →
    (σ.number ≡ τ.number) × (σ.writer ≡ τ.writer) × (lesser w x ≡ true)
between σ w τ x υ r n o (inl p) (inl q) = absurd (omega (arith, n))
between σ w τ x υ r n o (inl p) (inr q) = absurd (omega (arith, n, q.0))
between σ w τ x υ r n o (inr p) (inl q) = absurd (omega (arith, n, p.0))
between σ w τ x υ r n o (inr (p, inl u)) (inr (q, inl v)) = absurd (omega (arith, o))
between σ w τ x υ r n o (inr (p, inl u)) (inr (q, inr v)) = absurd (omega (arith, o, v.0))
between σ w τ x υ r n o (inr (p, inr u)) (inr (q, v)) = (p, u.0, u.1)
