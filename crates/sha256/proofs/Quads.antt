-- The eight words as bytes, four bytes at a time: byte m is of word m / 4, so four more bytes are those of the next word.
-- Assumes nothing.
use mathlib.Core.Path.{◌≡◌, sym, ap, ap₂, ◌∙◌}
use mathlib.Core.List.{List, [], ◌∷◌, ◌++◌, append_assoc}
use Prim.Native.Nat.{ℕ, suc, ◌+◌, ◌-◌, ◌*◌, ◌/◌, ◌%◌, ◌^◌, ◌<◌}
use native.Mathlib.Omega.{arith}
use lib.ListN.{length, take, get_or}
use borrow.Rule.Slice.PartMut.{put_mid}
use Rattle.std.specs.Int.{w32, to_be_bytes}
use Rattle.std.proofs.lemmas.Slice.{take-put_mid}
use Rattle.sha256.specs.Sha256.{tab, big_endian}
use Rattle.sha256.proofs.Laws.{tab-length, be_four}

-- byte m of the words h, as `bytes_of` has it
abbrev pub byte_of : List ℕ → ℕ → ℕ
byte_of h m = get_or h (m / 4) 0 / 2 ^ (8 * (3 - m % 4)) % 256

tab_four : (n : ℕ) (f : ℕ → ℕ) → tab (suc (suc (suc (suc n)))) f ≡ tab n f ++ (f n ∷ f (suc n) ∷ f (suc (suc n)) ∷ f (suc (suc (suc n))) ∷ [])
unfolding tab
tab_four n f = simp append_assoc

byte_is : (h : List ℕ) (m i j : ℕ) → m / 4 ≡ i → m % 4 ≡ j → byte_of h m ≡ get_or h i 0 / 2 ^ (8 * (3 - j)) % 256
byte_is h m i j p q = ap₂ (λ (a b : ℕ). get_or h a 0 / 2 ^ (8 * (3 - b)) % 256) p q

quad_is : (h : List ℕ) (i : ℕ) → big_endian 4 (get_or h i 0) ≡ byte_of h (4 * i) ∷ byte_of h (suc (4 * i)) ∷ byte_of h (suc (suc (4 * i))) ∷
    byte_of h (suc (suc (suc (4 * i)))) ∷ []
unfolding big_endian tab
quad_is h i = sym
    (λ k. byte_is h (4 * i) i 0 (omega arith) (omega arith) k ∷ byte_is h (suc (4 * i)) i 1 (omega arith) (omega arith) k ∷
    byte_is h (suc (suc (4 * i))) i 2 (omega arith) (omega arith) k ∷ byte_is h (suc (suc (suc (4 * i)))) i 3 (omega arith) (omega arith) k ∷ [])

pub quad_more : (h out b : List ℕ) (i k : ℕ) → length out ≡ 32 → i < 8 → take (4 * i) out ≡ tab (4 * i) (byte_of h) → b ≡ to_be_bytes w32 (get_or h i 0)
    → k ≡ 4 → take (4 * (i + 1)) (put_mid (4 * i) k out b) ≡ tab (4 * (i + 1)) (byte_of h)
unfolding big_endian
quad_more h out b i k l s e q hk =
    let n : ℕ = 4 * i in
    let four : b ≡ big_endian 4 (get_or h i 0) = q ∙ be_four (get_or h i 0) in
    let m : length b ≡ 4 = ap length four ∙ tab-length 4 _ in
    let t : suc (suc (suc (suc n))) ≡ 4 * (i + 1) = omega arith in
    take-put_mid n k out b (4 * (i + 1)) (omega arith) (omega arith)
    ∙ ap₂ (λ (u v : List ℕ). u ++ v) e (four ∙ quad_is h i)
    ∙ sym (tab_four n (byte_of h))
    ∙ ap (λ (j : ℕ). tab j (byte_of h)) t
