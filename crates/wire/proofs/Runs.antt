-- Parts of a list of bytes: past the end there is nothing, and what is padded is the bytes themselves where there are enough.
-- Assumes nothing.
use mathlib.Core.Path.{◌≡◌, refl, sym, ap, ap₂, ◌∙◌}
use mathlib.Core.List.{List, [], ◌∷◌, ◌++◌}
use Prim.Native.Nat.{ℕ, zero, suc, ◌+◌, ◌-◌, ◌≤◌, ◌<◌, min}
use native.Mathlib.Omega.{arith}
use lib.ListN.{length, get_or, take, drop, replicate, length-append, length-drop, length-replicate}
use lib.Seq.{take-append-le, take-append-add, length-take-le, get_or-take, get_or-drop, ext_get_or}
use Rattle.std.proofs.lemmas.List.{take_min, length-take}
use Rattle.hmac.specs.Hmac.{tag_size}
use Rattle.format.specs.Format.{value4}
use Rattle.protocol.specs.Values.{stamp_size}
use Rattle.protocol.specs.View.{stamp_at_def}
use Rattle.format.specs.Reading.{bytes_at}
use Rattle.format.proofs.Places.{take-zeros, drop-zeros}
use Rattle.wire.specs.Places.{padded}

pub part-most : (s : List ℕ) (at n : ℕ) → length (bytes_at s at n) ≤ n
unfolding bytes_at
part-most s at n = omega (arith, length-take n (drop at s))

-- ---- padding

get_or_noughts : (n i : ℕ) → get_or (replicate {A = ℕ} n 0) i 0 ≡ 0
get_or_noughts zero i = refl
get_or_noughts (suc n) zero = refl
get_or_noughts (suc n) (suc i) = get_or_noughts n i

get_or_more : (d : List ℕ) (n i : ℕ) → get_or (d ++ replicate n 0) i 0 ≡ get_or d i 0
get_or_more [] n i = get_or_noughts n i
get_or_more (x ∷ xs) n zero = refl
get_or_more (x ∷ xs) n (suc i) = get_or_more xs n i

pub padded_get : (n : ℕ) (d : List ℕ) (i : ℕ) → i < n → get_or (padded n d) i 0 ≡ get_or d i 0
unfolding padded
padded_get n d i h = get_or-take n (d ++ replicate n 0) i 0 h ∙ get_or_more d n i

pub padded-length : (n : ℕ) (d : List ℕ) → length (padded n d) ≡ n
unfolding padded
padded-length n d = length-take-le n (d ++ replicate n 0) (omega (arith, length-append d (replicate n 0), length-replicate {A = ℕ} n 0))

-- of the padded bytes, a part is the padded part
pub padded-part : (a n : ℕ) (d : List ℕ) → bytes_at (padded (a + n) d) a n ≡ padded n (drop a d)
unfolding bytes_at
padded-part a n d =
    let m : List ℕ = padded (a + n) d in
    let l : length (take n (drop a m)) ≡ n = length-take-le n (drop a m) (omega (arith, length-drop a m, padded-length (a + n) d)) in
    ext_get_or 0 (take n (drop a m)) (padded n (drop a d)) (l ∙ sym (padded-length n (drop a d)))
    (λ i h.
    let k : i < n = omega arith in
    get_or-take n (drop a m) i 0 k ∙ get_or-drop a m i 0 ∙ padded_get (a + n) d (a + i) (omega arith) ∙ sym (get_or-drop a d i 0) ∙ sym
    (padded_get n (drop a d) i k))

-- no more than the part is needed
pub padded-cut : (n : ℕ) (d : List ℕ) → padded n (bytes_at d 0 n) ≡ padded n d
unfolding bytes_at
padded-cut n d =
    ext_get_or 0 (padded n (take n d)) (padded n d) (padded-length n (take n d) ∙ sym (padded-length n d))
    (λ i h.
    let k : i < n = omega (arith, padded-length n (take n d)) in
    padded_get n (take n d) i k ∙ get_or-take n d i 0 k ∙ sym (padded_get n d i k))

-- ---- an array that holds zeros, and then bytes from its start on

filled : (n : ℕ) (s : List ℕ) → length s ≤ n → s ++ drop (length s) (replicate n 0) ≡ padded n s
unfolding padded
filled n s h =
    let z : List ℕ = replicate n 0 in
    let m : n ≡ length s + (n - length s) = omega arith in
    let p : take n (s ++ z) ≡ s ++ replicate (n - length s) 0 =
    ap (λ (k : ℕ). take k (s ++ z)) m ∙ take-append-add s z (n - length s) ∙ ap (λ (y : List ℕ). s ++ y)
    (take-zeros (n - length s) n (omega arith)) in
    ap (λ (y : List ℕ). s ++ y) (drop-zeros (length s) n) ∙ sym p

-- what there is of the bytes, over zeros
pub padded-filled : (n : ℕ) (s : List ℕ) → take (min n (length s)) s ++ drop (min n (length s)) (replicate n 0) ≡ padded n s
unfolding bytes_at
padded-filled n s =
    let m : min n (length s) ≡ length (take n s) = sym (length-take n s) in
    ap₂ (λ (x : List ℕ) (k : ℕ). x ++ drop k (replicate n 0)) (take_min n s) m
    ∙ filled n (take n s) (omega (arith, length-take n s))
    ∙ padded-cut n s

-- a stamp by its places
pub stamp-padded : (s : List ℕ)
    → record { number = value4 (get_or s 0 0) (get_or s 1 0) (get_or s 2 0) (get_or s 3 0); writer = get_or s 4 0; tag = padded tag_size (drop 5 s) } ≡ stamp_at_def
    (padded stamp_size s)
unfolding stamp_at_def
stamp-padded s =
    rw (
      padded_get stamp_size s 0 (omega arith),
      padded_get stamp_size s 1 (omega arith),
      padded_get stamp_size s 2 (omega arith),
      padded_get stamp_size s 3 (omega arith),
      padded_get stamp_size s 4 (omega arith),
      padded-part 5 tag_size s,
    )

pub padded-whole : (n : ℕ) (d : List ℕ) → n ≤ length d → padded n d ≡ take n d
unfolding padded
padded-whole n d h = take-append-le n d (replicate n 0) h
