-- A loop that stores at one index after the other: what holds of each element stored so far holds of one more. Nothing is assumed.
use mathlib.Core.Path.{◌≡◌, sym, subst, ◌∙◌}
use mathlib.Core.List.{List}
use Prim.Native.Nat.{ℕ, ◌+◌, ◌<◌}
use native.Mathlib.Omega.{arith}
use borrow.Author.Count.{below_more}
use lib.ListN.{length, get_or, set, length-set}
use lib.Seq.{get_or-set_same, get_or-set_other}

-- l has n elements, and P holds of the first i
pub record Filled {A : Type 0} (d : A) (P : ℕ → A → Type 0) (n i : ℕ) (l : List A) : Type 0 where
  pub size : length l ≡ n
  pub each : (j : ℕ) → j < i → P j (get_or l j d)

pub filled_none : {A : Type 0} {d : A} {P : ℕ → A → Type 0} {n : ℕ} {l : List A} → length l ≡ n → Filled d P n 0 l
filled_none e = record { size = e; each = λ j h. absurd (omega arith) }

pub filled_more : {A : Type 0} {d : A} {P : ℕ → A → Type 0} {n i : ℕ} {l : List A} → Filled d P n i l → i < n → (v : A) → P i v
    → Filled d P n (i + 1) (set l i v)
filled_more {A} {d} {P} {n} {i} {l} f b v here =
    let k : i < length l = omega (arith, f.size) in
    record {
      size = length-set l i v ∙ f.size;
      each =
          below_more (λ (j : ℕ). P j (get_or (set l i v) j d)) i
          (λ j h. subst (P j) (sym (get_or-set_other l i j v d (λ e. omega arith))) (f.each j h))
          (subst (P i) (sym (get_or-set_same l i v d k)) here);
    }
