-- The schedule of a block: its first words are the block's, and each further one is `next_word` of the whole schedule, since a word looks
-- only at the words before it, which later words leave as they are. Assumes nothing.
use mathlib.Core.Path.{◌≡◌, refl, sym, ap, ◌∙◌}
use mathlib.Core.List.{List, [], ◌∷◌, ◌++◌}
use Prim.Native.Nat.{ℕ, zero, suc, ◌+◌, ◌-◌, ◌≤◌, ◌<◌}
use native.Mathlib.Omega.{arith}
use native.Mathlib.Decide.{dec_lt}
use lib.ListN.{length, get_or, length-append, get_or-append}
use lib.Seq.{get_or_at}
use Rattle.sha256.specs.Sha256.{grow, next_word}

grow-length : (n : ℕ) (w : List ℕ) → length (grow n w) ≡ n + length w
unfolding grow
grow-length zero w = omega arith
grow-length (suc n) w =
    let h : length (grow n w) ≡ n + length w = grow-length n w in
    omega (arith, length-append (grow n w) (next_word (grow n w) (length (grow n w)) ∷ []))

pub grow_first : (n : ℕ) (w : List ℕ) (i : ℕ) → i < length w → get_or (grow n w) i 0 ≡ get_or w i 0
unfolding grow
grow_first zero w i h = refl
grow_first (suc n) w i h = get_or-append (grow n w) _ 0 i (omega (arith, grow-length n w)) ∙ grow_first n w i h

-- a word of the schedule looks at the words before it alone
next-append : (v x : List ℕ) (t : ℕ) → 16 ≤ t → t ≤ length v → next_word (v ++ x) t ≡ next_word v t
unfolding next_word
next-append v x t h k =
    let e2 : get_or (v ++ x) (t - 2) 0 ≡ get_or v (t - 2) 0 = get_or-append v x 0 (t - 2) (omega arith) in
    let e7 : get_or (v ++ x) (t - 7) 0 ≡ get_or v (t - 7) 0 = get_or-append v x 0 (t - 7) (omega arith) in
    let e15 : get_or (v ++ x) (t - 15) 0 ≡ get_or v (t - 15) 0 = get_or-append v x 0 (t - 15) (omega arith) in
    let e16 : get_or (v ++ x) (t - 16) 0 ≡ get_or v (t - 16) 0 = get_or-append v x 0 (t - 16) (omega arith) in
    cc

pub grow_at : (n : ℕ) (w : List ℕ) (i : ℕ) → length w ≡ 16 → 16 ≤ i → i < n + 16 → get_or (grow n w) i 0 ≡ next_word (grow n w) i
unfolding grow
grow_at zero w i l h k = absurd (omega arith)
grow_at (suc n) w i l h k = go (dec_lt i (n + 16)) (grow_at n w i l h)
  where
    v : List ℕ
    v = grow n w

    x : ℕ
    x = next_word v (length v)

    s : length v ≡ n + 16
    s = grow-length n w ∙ ap (λ (m : ℕ). n + m) l

    go : Dec (i < n + 16) → (i < n + 16 → get_or v i 0 ≡ next_word v i) → get_or (v ++ (x ∷ [])) i 0 ≡ next_word (v ++ (x ∷ [])) i
    go (yes p) ih = get_or-append v (x ∷ []) 0 i (omega (arith, s)) ∙ ih p ∙ sym (next-append v (x ∷ []) i h (omega (arith, s)))
    go (no p) ih =
        let e : length v ≡ i = omega (arith, s) in
        get_or_at v x [] 0 i e ∙ ap (next_word v) e ∙ sym (next-append v (x ∷ []) i h (omega arith))
