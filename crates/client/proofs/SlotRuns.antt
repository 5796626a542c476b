-- Bytes put into slots of one width, at one place in each: the length and what stands before them stay, and runs of which one stands right behind the
-- other in each slot are the run of their joins. By induction on the slots: bytes put past them are put before or after. Assumes nothing.
use mathlib.Core.Path.{◌≡◌, refl, sym, ap, ◌∙◌}
use mathlib.Core.List.{List, ◌++◌}
use Prim.Native.Nat.{ℕ, zero, suc, ◌+◌, ◌*◌, ◌≤◌}
use native.Mathlib.Omega.{arith}
use native.Mathlib.Nat.{mul-suc}
use native.Mathlib.Numerals.{add-one}
use lib.ListN.{length}
use Rattle.format.specs.Reading.{bytes_at, put}
use Rattle.format.proofs.Puts.{put-length, put_put, puts_apart}
use Rattle.format.proofs.Places.{part-below, next-slot}
use Rattle.client.specs.Steps.{slot_run}

-- the bytes of servers 1 to n end at the place top or before it
abbrev pub Ends : ℕ → ℕ → (ℕ → List ℕ) → ℕ → ℕ → Type 0
Ends w at x n top = (i : ℕ) → suc i ≤ n → at + w * i + length (x (suc i)) ≤ top

module _ (w at : ℕ) (x : ℕ → List ℕ) where
  -- one slot more
  pub slots_more : (d : List ℕ) (n : ℕ) {e b : List ℕ} → e ≡ slot_run w d at x n → b ≡ x (suc n) → put e (at + w * n) b ≡ slot_run w d at x (n + 1)
  unfolding slot_run
  slots_more d n p q = rw (p, q, add-one n)

  pub slots_length : (d : List ℕ) (n : ℕ) → Ends w at x n (length d) → length (slot_run w d at x n) ≡ length d
  unfolding slot_run
  slots_length d zero h = refl
  slots_length d (suc n) h =
      let e = slots_length d n (λ i l. h i (omega arith)) in
      put-length (slot_run w d at x n) (at + w * n) (x (suc n)) (omega (arith, e, h n (omega arith))) ∙ e

  -- what stands before the slots stays
  pub slots-below : (d : List ℕ) (n : ℕ) → Ends w at x n (length d) → (p m : ℕ) → p + m ≤ at → bytes_at (slot_run w d at x n) p m ≡ bytes_at d p m
  unfolding slot_run
  slots-below d zero h p m b = refl
  slots-below d (suc n) h p m b =
      let g : Ends w at x n (length d) = λ i l. h i (omega arith) in
      part-below (slot_run w d at x n) (at + w * n) (x (suc n)) (omega (arith, slots_length d n g, h n (omega arith))) p m (omega arith)
      ∙ slots-below d n g p m b

  -- bytes past the slots are put before or after
  slots-swap : (d : List ℕ) (q : ℕ) (b : List ℕ) (n : ℕ) → Ends w at x n q → q + length b ≤ length d
      → slot_run w (put d q b) at x n ≡ put (slot_run w d at x n) q b
  unfolding slot_run
  slots-swap d q b zero h r = refl
  slots-swap d q b (suc n) h r =
      let g : Ends w at x n q = λ i l. h i (omega arith) in
      let e = slots_length d n (λ i l. omega (arith, g i l)) in
      rw (slots-swap d q b n g r) (sym (puts_apart (slot_run w d at x n) (at + w * n) (x (suc n)) q b (h n (omega arith)) (omega (arith, e))))

-- in each slot y stands behind the k bytes of x
module _ (w at k : ℕ) (x y : ℕ → List ℕ) (long : (i : ℕ) → length (x i) ≡ k) (room : (i : ℕ) → k + length (y i) ≤ w) where
  pub slots-join : (d : List ℕ) (n : ℕ) → at + w * n ≤ length d → slot_run w (slot_run w d at x n) (at + k) y n ≡ slot_run w d at (λ i. x i ++ y i) n
  unfolding slot_run
  slots-join d zero r = refl
  slots-join d (suc n) r =
      let S : List ℕ = slot_run w d at x n in
      let T : List ℕ = slot_run w S (at + k) y n in
      let X : List ℕ = x (suc n) in
      let Y : List ℕ = y (suc n) in
      let m = mul-suc w n in
      let p : Ends w (at + k) y n (at + w * n) = λ i h. omega (arith, room (suc i), next-slot w i n h) in
      let s : length S ≡ length d = slots_length w at x d n (λ i h. omega (arith, long (suc i), p i h)) in
      let l : length T ≡ length d = slots_length w (at + k) y S n (λ i h. omega (arith, p i h)) ∙ s in
      let o : at + k + w * n ≡ at + w * n + k = omega arith in
      ap (λ (z : List ℕ). put z (at + k + w * n) Y) (slots-swap w (at + k) y S (at + w * n) X n p (omega (arith, long (suc n), room (suc n))))
      ∙ (ap (λ (q : ℕ). put (put T (at + w * n) X) q Y) o
      ∙ (put_put T (at + w * n) k X Y (long (suc n)) (omega (arith, room (suc n)))
      ∙ ap (λ (z : List ℕ). put z (at + w * n) (X ++ Y)) (slots-join d n (omega arith))))
