-- Laws of sums over 0 to k - 1, taken by exclusive or: how a loop adds a term, equal terms, and the bound. Each by induction on k; nothing is
-- assumed.
use mathlib.Core.Path.{◌≡◌, refl, sym, ap, ap₂, ◌∙◌}
use Prim.Native.Nat.{ℕ, zero, suc, ◌+◌, ◌<◌}
use native.Mathlib.Nat.{zero-lt-suc, le_refl, le-suc, le_trans}
use native.Mathlib.Numerals.{add-one}
use lib.Bits.{bit_xor, xor_lt, xor_zero_l}
use Rattle.gf256.proofs.Xor.{xor-swap}
use Rattle.erasure.specs.System.{sum_to}

pub sum_to_none : (f : ℕ → ℕ) → sum_to 0 f ≡ 0
unfolding sum_to
sum_to_none f = refl

pub sum_to_one : (f : ℕ → ℕ) → sum_to 1 f ≡ f 0
unfolding sum_to
sum_to_one f = xor_zero_l (f 0)

-- one term more
pub sum_to_more : (k : ℕ) (f : ℕ → ℕ) (acc v : ℕ) → acc ≡ sum_to k f → v ≡ f k → bit_xor acc v ≡ sum_to (k + 1) f
unfolding sum_to
sum_to_more k f acc v p q = ap₂ bit_xor p q ∙ ap (λ (n : ℕ). sum_to n f) (sym (add-one k))

pub sum_to_ext : (k : ℕ) (f g : ℕ → ℕ) → ((i : ℕ) → i < k → f i ≡ g i) → sum_to k f ≡ sum_to k g
unfolding sum_to
sum_to_ext zero f g h = refl
sum_to_ext (suc k) f g h = ap₂ bit_xor (sum_to_ext k f g (λ i b. h i (le_trans b (le-suc k)))) (h k (le_refl (suc k)))

pub sum_to-lt : (k : ℕ) (f : ℕ → ℕ) → ((i : ℕ) → i < k → f i < 256) → sum_to k f < 256
unfolding sum_to
sum_to-lt zero f h = zero-lt-suc 255
sum_to-lt (suc k) f h = xor_lt 8 (sum_to k f) (f k) (sum_to-lt k f (λ i b. h i (le_trans b (le-suc k)))) (h k (le_refl (suc k)))

pub sum_to-add : (k : ℕ) (f g : ℕ → ℕ) → bit_xor (sum_to k f) (sum_to k g) ≡ sum_to k (λ i. bit_xor (f i) (g i))
unfolding sum_to
sum_to-add zero f g = refl
sum_to-add (suc k) f g = xor-swap (sum_to k f) (f k) (sum_to k g) (g k) ∙ ap (λ (x : ℕ). bit_xor x (bit_xor (f k) (g k))) (sum_to-add k f g)
