-- The last blocks of a message, as the code makes them: an array of zeros that is filled from its front, piece by piece, by copies.
-- Zeros need no copy. Each piece that is put behind what is there makes the list longer by it. Assumes nothing.
use mathlib.Core.Path.{◌≡◌, refl, sym, ap, ap₂, ◌∙◌}
use mathlib.Core.List.{List, [], ◌∷◌, ◌++◌, append_assoc}
use Prim.Native.Nat.{ℕ, suc, ◌+◌, ◌-◌, ◌*◌, ◌/◌, ◌%◌, ◌^◌, ◌≤◌, ◌<◌}
use native.Mathlib.Omega.{arith}
use native.Mathlib.Numerals.{add-one}
use borrow.Rule.Slice.PartMut.{put_mid}
use lib.ListN.{length, take, drop, set, replicate, length-append, length-drop, length-replicate, replicate-append-replicate}
use lib.Seq.{paste, set_split, take_at, take_all, drop_at, drop-append-add}
use Rattle.std.specs.Int.{w64, to_be_bytes}
use Rattle.std.proofs.lemmas.Slice.{put_mid-paste}
use Rattle.sha256.specs.Sha256.{big_endian, padding, hashed, bytes_of, digest_from}
use Rattle.sha256.specs.Steps.{filled}
use Rattle.sha256.proofs.Laws.{tab-length, be_eight}
use Rattle.sha256.proofs.Hashed.{whole_then-rest}

-- the zeros between the mark and the count
abbrev zeros : ℕ → ℕ
zeros n = (119 - n % 64) % 64

pub padding-length : (n : ℕ) → length (padding n) ≡ zeros n + 9
unfolding padding big_endian
padding-length n = simp (length-append, length-replicate, tab-length) (omega arith)

drop-zeros : (n k : ℕ) → k ≤ n → drop {A = ℕ} k (replicate n 0) ≡ replicate (n - k) 0
drop-zeros n k h =
    let e : k + (n - k) ≡ n = omega arith in
    ap (λ (l : List ℕ). drop k l) (sym (replicate-append-replicate {A = ℕ} k (n - k) 0 ∙ ap (λ (j : ℕ). replicate j 0) e))
    ∙ drop_at (replicate k 0) (replicate (n - k) 0) k (length-replicate {A = ℕ} k 0)

filled-length : (x : List ℕ) → length x ≤ 128 → length (filled x) ≡ 128
unfolding filled
filled-length x h = simp (length-append, length-replicate) (omega arith)

-- a piece behind what is there
fill_put : (x s : List ℕ) (i k : ℕ) → i ≡ length x → k ≡ length s → i + k ≤ 128 → paste (filled x) i s k ≡ filled (x ++ s)
unfolding filled
fill_put x s i k hx hs h =
    let z : List ℕ = replicate (128 - length x) 0 in
    let first : take i (x ++ z) ≡ x = take_at x z i (sym hx) in
    let all : take k s ≡ s = take_all k s (omega arith) in
    let n : 128 - length x - k ≡ 128 - length (x ++ s) = omega (arith, length-append x s) in
    let rest : drop (i + k) (x ++ z) ≡ replicate (128 - length (x ++ s)) 0 =
    ap (λ (j : ℕ). drop (j + k) (x ++ z)) hx
    ∙ drop-append-add x z k
    ∙ drop-zeros (128 - length x) k (omega arith)
    ∙ ap (λ (j : ℕ). replicate j 0) n in
    ap₂ (λ (a b : List ℕ). a ++ b) (ap₂ (λ (a b : List ℕ). a ++ b) first all) rest

-- the same, as code copies it into the middle of what is there
mid_put : (t x s : List ℕ) (i k : ℕ) → t ≡ filled x → i ≡ length x → k ≡ length s → i + k ≤ 128 → put_mid i k t s ≡ filled (x ++ s)
mid_put t x s i k ht hx hs h =
    ap (λ (u : List ℕ). put_mid i k u s) ht ∙ put_mid-paste i k (filled x) s s k refl refl hs ∙ fill_put x s i k hx hs h

-- a first piece, into zeros
first_put : (s : List ℕ) (i : ℕ) → i ≡ length s → i ≤ 128 → s ++ drop i (replicate 128 0) ≡ filled s
unfolding filled
first_put s i hs h = ap (λ (z : List ℕ). s ++ z) (drop-zeros 128 i h ∙ ap (λ (j : ℕ). replicate (128 - j) 0) hs)

-- one byte
byte_put : (t x : List ℕ) (i v : ℕ) → t ≡ filled x → i ≡ length x → i < 128 → set t i v ≡ filled (x ++ (v ∷ []))
byte_put t x i v ht hx h =
    let l : length (filled x) ≡ 128 = filled-length x (omega arith) in
    ap (λ (u : List ℕ). set u i v) ht
    ∙ set_split (filled x) i v (omega arith)
    ∙ sym (append_assoc (take i (filled x)) (v ∷ []) (drop (suc i) (filled x)))
    ∙ ap (λ (j : ℕ). take i (filled x) ++ (v ∷ []) ++ drop j (filled x)) (sym (add-one i))
    ∙ fill_put x (v ∷ []) i 1 hx refl (omega arith)

-- zeros are there already
fill-zeros : (x : List ℕ) (k : ℕ) → length x + k ≤ 128 → filled x ≡ filled (x ++ replicate k 0)
unfolding filled
fill-zeros x k h =
    let z : List ℕ = replicate k 0 in
    let n : k + (128 - length (x ++ z)) ≡ 128 - length x = omega (arith, length-append x z, length-replicate {A = ℕ} k 0) in
    sym (append_assoc x z (replicate (128 - length (x ++ z)) 0)
    ∙ ap (λ (y : List ℕ). x ++ y) (replicate-append-replicate {A = ℕ} k (128 - length (x ++ z)) 0 ∙ ap (λ (j : ℕ). replicate j 0) n))

pub tail-made : (rest d : List ℕ) (n i k at : ℕ) → i ≡ length rest → k ≡ i + length d → k ≤ 119 → n % 64 ≡ k % 64 → at ≡ (k + 8) / 64 * 64 + 56
    → put_mid at 8 (set (put_mid i (length d) (rest ++ drop i (replicate 128 0)) d) k 0x80) (to_be_bytes w64 (n * 8 % 2 ^ 64))
    ≡ filled (rest ++ (d ++ padding n))
unfolding padding big_endian
tail-made rest d n i k at hi hk h m ha =
    let c : List ℕ = big_endian 8 (n * 8 % 2 ^ 64) in
    let mark : List ℕ = 0x80 ∷ [] in
    let z : List ℕ = replicate (zeros n) 0 in
    let marked : List ℕ = rest ++ d ++ mark in
    let l : length marked ≡ k + 1 = omega (arith, length-append (rest ++ d) mark, length-append rest d) in
    let e1 : rest ++ drop i (replicate 128 0) ≡ filled rest = first_put rest i hi (omega arith) in
    let e2 : put_mid i (length d) _ d ≡ filled (rest ++ d) = mid_put _ rest d i (length d) e1 hi refl (omega arith) in
    let e3 : set _ k 0x80 ≡ filled marked = byte_put _ (rest ++ d) k 0x80 e2 (omega (arith, length-append rest d)) (omega arith) in
    let e4 : filled marked ≡ filled (marked ++ z) = fill-zeros marked (zeros n) (omega arith) in
    let e5 : put_mid at 8 _ c ≡ filled (marked ++ z ++ c) =
    mid_put _ (marked ++ z) c at 8 (e3 ∙ e4) (omega (arith, length-append marked z, length-replicate {A = ℕ} (zeros n) 0)) (sym (tab-length 8 _))
    (omega arith) in
    let e6 : marked ++ z ++ c ≡ rest ++ (d ++ (mark ++ (z ++ c))) =
    append_assoc marked z c ∙ append_assoc (rest ++ d) mark (z ++ c) ∙ append_assoc rest d (mark ++ (z ++ c)) in
    ap (put_mid at 8 _) (be_eight (n * 8 % 2 ^ 64)) ∙ e5 ∙ ap filled e6

-- the last blocks are whole
tail-length : (rest d : List ℕ) (n : ℕ) → length rest + length d ≤ 119 → n % 64 ≡ (length rest + length d) % 64
    → length (rest ++ (d ++ padding n)) ≡ (length rest + length d + 8) / 64 * 64 + 64
tail-length rest d n h e = omega (arith, length-append rest (d ++ padding n), length-append d (padding n), padding-length n)

-- the whole blocks of m as they lie, then the last blocks from the array
pub finished : (h m d rest t g : List ℕ) (n w e : ℕ) → w ≡ length m / 64 * 64 → g ≡ hashed h (length (take w m) / 64) (take w m) → rest ≡ drop w m
    → e ≡ (length m - w + length d + 8) / 64 * 64 + 64 → length d ≤ 32 → n % 64 ≡ (length m + length d) % 64
    → t ≡ filled (rest ++ (d ++ padding n))
    → bytes_of (hashed g (length (take e t) / 64) (take e t)) ≡ digest_from h (m ++ (d ++ padding n))
unfolding filled digest_from
finished h m d rest t g n w e hw hg hr he hd hn ht =
    let r : length (drop w m) ≡ length m - w = length-drop w m in
    let l : length (drop w m ++ (d ++ padding n)) ≡ e = tail-length (drop w m) d n (omega arith) (omega arith) ∙ omega arith in
    let q : take e t ≡ drop w m ++ (d ++ padding n) = ap (λ (x : List ℕ). take e x) (ht ∙ ap (λ (x : List ℕ). filled (x ++ (d ++ padding n))) hr) ∙
    take_at (drop w m ++ (d ++ padding n)) _ e l in
    ap bytes_of
    (ap₂ (λ (x y : List ℕ). hashed x (length y / 64) y) hg q ∙ sym (whole_then-rest h m (d ++ padding n) w hw))
