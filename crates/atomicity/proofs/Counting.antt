-- Counting servers: how quorums meet. A count is of a test over servers 1 to n, and only the laws of Legal are used of the numbers.
-- Assumes nothing.
use mathlib.Core.Path.{◌≡◌, refl, ap}
use mathlib.Core.Bool.{Bool, true, false, cond, not, ◌&&◌, ◌||◌}
use Prim.Native.Nat.{ℕ, zero, suc, ◌+◌, ◌≤◌}
use native.Mathlib.Omega.{arith}
use Rattle.cluster.specs.Config.{Config, Legal, quorum}
use Rattle.protocol.specs.Rules.{count_to}

-- two tests inside a third
meet_one : (h a b : Bool) → cond (h && a) 1 0 + cond (h && b) 1 0 ≤ cond h 1 0 + cond (h && (a && b)) 1 0
meet_one false a b = omega arith
meet_one true false false = omega arith
meet_one true false true = omega arith
meet_one true true false = omega arith
meet_one true true true = omega arith

pub meet-count : (h a b : ℕ → Bool) (n : ℕ) →
    count_to n (λ x. h x && a x) + count_to n (λ x. h x && b x) ≤ count_to n h + count_to n (λ x. h x && (a x && b x))
unfolding count_to
meet-count h a b zero = omega arith
meet-count h a b (suc n) = omega (arith, meet-count h a b n, meet_one (h (suc n)) (a (suc n)) (b (suc n)))

split_one : (h : Bool) → cond h 1 0 + cond (not h) 1 0 ≡ 1
split_one false = refl
split_one true = refl

pub split-count : (h : ℕ → Bool) (n : ℕ) → count_to n h + count_to n (λ x. not (h x)) ≡ n
unfolding count_to
split-count h zero = refl
split-count h (suc n) = omega (arith, split-count h n, split_one (h (suc n)))

part_one : (h a : Bool) → cond a 1 0 ≤ cond (h && a) 1 0 + cond (not h) 1 0
part_one false false = omega arith
part_one false true = omega arith
part_one true false = omega arith
part_one true true = omega arith

-- the correct part of a set, and all that lie
pub part_count : (h a : ℕ → Bool) (n : ℕ) → count_to n a ≤ count_to n (λ x. h x && a x) + count_to n (λ x. not (h x))
unfolding count_to
part_count h a zero = omega arith
part_count h a (suc n) = omega (arith, part_count h a n, part_one (h (suc n)) (a (suc n)))

lies_one : (h a : Bool) → cond (not h || a) 1 0 ≡ cond (h && a) 1 0 + cond (not h) 1 0
lies_one false a = refl
lies_one true false = refl
lies_one true true = refl

-- those that lie or pass a test
pub lies-count : (h a : ℕ → Bool) (n : ℕ) → count_to n (λ x. not (h x) || a x) ≡ count_to n (λ x. h x && a x) + count_to n (λ x. not (h x))
unfolding count_to
lies-count h a zero = refl
lies-count h a (suc n) = omega (arith, lies-count h a n, lies_one (h (suc n)) (a (suc n)))

-- a positive count has a witness
pub found : (p : ℕ → Bool) (n : ℕ) → 1 ≤ count_to n p → (x : ℕ) × (1 ≤ x) × (x ≤ n) × (p x ≡ true)
unfolding count_to
found p zero h = absurd (omega arith)
found p (suc n) h = go (p (suc n)) refl h (λ k. found p n k)
  where
    go : (b : Bool) → p (suc n) ≡ b → 1 ≤ cond b 1 0 + count_to n p → (1 ≤ count_to n p → (y : ℕ) × (1 ≤ y) × (y ≤ n) × (p y ≡ true)) → (y : ℕ)
        × (1 ≤ y) × (y ≤ suc n) × (p y ≡ true)
    go true e k rest = (suc n, omega arith, omega arith, e)
    go false e k rest = let r = rest (omega arith) in (r.0, r.1, omega (arith, r.2), r.3)

mono_one : (p r : Bool) → (p ≡ true → r ≡ true) → cond p 1 0 ≤ cond r 1 0
mono_one false r h = omega arith
mono_one true r h = omega (arith, ap {B = ℕ} (λ (b : Bool). cond b 1 0) (h refl))

pub count_mono : (p r : ℕ → Bool) (n : ℕ) → ((x : ℕ) → 1 ≤ x → x ≤ n → p x ≡ true → r x ≡ true) → count_to n p ≤ count_to n r
unfolding count_to
count_mono p r zero h = omega arith
count_mono p r (suc n) h =
    omega (arith, count_mono p r n (λ x a b. h x a (omega arith)), mono_one (p (suc n)) (r (suc n)) (h (suc n) (omega arith) (omega arith)))

-- ---- quorums

pub quorum-sum : (s : Config) → Legal s → quorum s + s.t ≡ s.servers
unfolding quorum
quorum-sum s l = omega (arith, l.most)

module _ (s : Config) (legal : Legal s) (correct : ℕ → Bool) (few : count_to s.servers (λ b. not (correct b)) ≤ s.t) where
  -- two quorums, less the liars, share a correct server
  pub share : (a b : ℕ → Bool) → quorum s ≤ count_to s.servers (λ x. not (correct x) || a x) →
      quorum s ≤ count_to s.servers (λ x. not (correct x) || b x) → (x : ℕ) × (1 ≤ x) × (x ≤ s.servers) × ((correct x && (a x && b x)) ≡ true)
  share a b ha hb = found (λ x. correct x && (a x && b x)) s.servers
      (omega (
        arith,
        lies-count correct a s.servers,
        lies-count correct b s.servers,
        meet-count correct a b s.servers,
        split-count correct s.servers,
        quorum-sum s legal,
        legal.most,
      ))

  -- a quorum of correct replies and a store quorum share k correct servers, however many lie
  pub share-k : (a b : ℕ → Bool) → quorum s ≤ count_to s.servers (λ x. not (correct x) || a x) →
      quorum s ≤ count_to s.servers (λ x. correct x && b x) →
      s.threshold ≤ count_to s.servers (λ x. correct x && (a x && b x))
  share-k a b ha hb = omega (
    arith,
    lies-count correct a s.servers,
    meet-count correct a b s.servers,
    split-count correct s.servers,
    quorum-sum s legal,
    legal.covered,
  )

  -- k matching replies have a correct one
  pub correct_one : (a : ℕ → Bool) → s.threshold ≤ count_to s.servers a → (x : ℕ) × (1 ≤ x) × (x ≤ s.servers) × ((correct x && a x) ≡ true)
  correct_one a h = found (λ x. correct x && a x) s.servers (omega (arith, part_count correct a s.servers, legal.restores))
