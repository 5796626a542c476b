-- The hash value after some blocks depends on the bytes of these blocks alone, and blocks in two runs may be taken one run after the
-- other. So a message's whole blocks can be read where they lie, the rest from a copy, and a first block can be taken in beforehand.
-- Assumes nothing.
use mathlib.Core.Path.{◌≡◌, refl, sym, ap, ap₂, ◌∙◌}
use mathlib.Core.List.{List, ◌++◌, append_assoc}
use Prim.Native.Nat.{ℕ, zero, suc, ◌+◌, ◌*◌, ◌/◌, ◌<◌}
use native.Mathlib.Omega.{arith}
use lib.ListN.{length, get_or, take, drop, length-append, get_or-append, take-append-drop}
use lib.Seq.{get_or-append-add, length-take-le}
use Rattle.sha256.specs.Sha256.{word_at, block, grow, compress_of, hashed, initial, padding, pad, bytes_of, digest_from, sha256}
use Rattle.sha256.specs.FirstBlock.{digest_after_def}
use Rattle.sha256.proofs.Laws.{tab_ext}

word_same : (p q : List ℕ) (i j : ℕ) → ((k : ℕ) → k < 4 → get_or p (i + k) 0 ≡ get_or q (j + k) 0) → word_at p i ≡ word_at q j
unfolding word_at
word_same p q i j h =
    let a : i ≡ i + 0 = omega arith in
    let b : j + 0 ≡ j = omega arith in
    let e0 : get_or p i 0 ≡ get_or q j 0 = ap (λ (x : ℕ). get_or p x 0) a ∙ h 0 (omega arith) ∙ ap (λ (x : ℕ). get_or q x 0) b in
    let e1 : get_or p (i + 1) 0 ≡ get_or q (j + 1) 0 = h 1 (omega arith) in
    let e2 : get_or p (i + 2) 0 ≡ get_or q (j + 2) 0 = h 2 (omega arith) in
    let e3 : get_or p (i + 3) 0 ≡ get_or q (j + 3) 0 = h 3 (omega arith) in
    cc

block_same : (p q : List ℕ) (j k : ℕ) → ((i : ℕ) → i < 64 → get_or p (64 * j + i) 0 ≡ get_or q (64 * k + i) 0) → block p j ≡ block q k
unfolding block
block_same p q j k h =
    tab_ext 16 _ _
    (λ i l. word_same p q (64 * j + 4 * i) (64 * k + 4 * i)
    (λ r s.
    let e : 64 * j + 4 * i + r ≡ 64 * j + (4 * i + r) = omega arith in
    let f : 64 * k + (4 * i + r) ≡ 64 * k + 4 * i + r = omega arith in
    ap (λ (x : ℕ). get_or p x 0) e ∙ h (4 * i + r) (omega arith) ∙ ap (λ (x : ℕ). get_or q x 0) f))

hashed-same : (h p q : List ℕ) (n : ℕ) → ((i : ℕ) → i < 64 * n → get_or p i 0 ≡ get_or q i 0) → hashed h n p ≡ hashed h n q
unfolding hashed
hashed-same h p q zero e = refl
hashed-same h p q (suc n) e =
    ap₂ (λ (g b : List ℕ). compress_of g (grow 48 b))
    (hashed-same h p q n (λ i l. e i (omega arith)))
    (block_same p q n n (λ i l. e (64 * n + i) (omega arith)))

-- j blocks, then k
hashed-split : (h a b : List ℕ) (j k : ℕ) → length a ≡ 64 * j → hashed h (j + k) (a ++ b) ≡ hashed (hashed h j a) k b
unfolding hashed
hashed-split h a b j zero e =
    let z : j + 0 ≡ j = omega arith in
    ap (λ (n : ℕ). hashed h n (a ++ b)) z ∙ hashed-same h (a ++ b) a j (λ i l. get_or-append a b 0 i (omega arith))
hashed-split h a b j (suc k) e =
    let z : j + suc k ≡ suc (j + k) = omega arith in
    ap (λ (n : ℕ). hashed h n (a ++ b)) z
    ∙ ap₂ (λ (g c : List ℕ). compress_of g (grow 48 c))
    (hashed-split h a b j k e)
    (block_same (a ++ b) b (j + k) k
    (λ i l.
    let f : 64 * (j + k) + i ≡ length a + (64 * k + i) = omega arith in
    ap (λ (x : ℕ). get_or (a ++ b) x 0) f ∙ get_or-append-add a b (64 * k + i) 0))

-- the whole blocks of m, then the rest of it with what follows
pub whole_then-rest : (h m s : List ℕ) (w : ℕ) → w ≡ length m / 64 * 64
    → hashed h (length (m ++ s) / 64) (m ++ s)
    ≡ hashed (hashed h (length (take w m) / 64) (take w m)) (length (drop w m ++ s) / 64) (drop w m ++ s)
whole_then-rest h m s w e =
    let a : List ℕ = take w m in
    let b : List ℕ = drop w m ++ s in
    let l : length a ≡ w = length-take-le w m (omega arith) in
    let p : a ++ b ≡ m ++ s = sym (append_assoc a (drop w m) s) ∙ ap (λ (x : List ℕ). x ++ s) (take-append-drop w m) in
    let n : length (m ++ s) / 64 ≡ length a / 64 + length b / 64 = omega (arith, ap length p, length-append a b) in
    ap₂ (λ (i : ℕ) (x : List ℕ). hashed h i x) n (sym p) ∙ hashed-split h a b (length a / 64) (length b / 64) (omega arith)

-- a first block, then the rest
pub digest-after : (b x : List ℕ) → length b ≡ 64 → digest_after_def (hashed initial 1 b) x ≡ sha256 (b ++ x)
unfolding digest_after_def sha256 pad digest_from
digest-after b x l =
    let n : ℕ = 64 + length x in
    let s : List ℕ = x ++ padding n in
    let k : length (b ++ x) ≡ n = omega (arith, length-append b x) in
    let p : b ++ x ++ padding (length (b ++ x)) ≡ b ++ s = ap (λ (i : ℕ). b ++ x ++ padding i) k ∙ append_assoc b x (padding n) in
    let j : 1 + length s / 64 ≡ length (b ++ s) / 64 = omega (arith, length-append b s) in
    ap bytes_of
    (sym (hashed-split initial b s 1 (length s / 64) (omega arith))
    ∙ ap₂ (λ (i : ℕ) (y : List ℕ). hashed initial i y) j refl
    ∙ ap (λ (y : List ℕ). hashed initial (length y / 64) y) (sym p))
