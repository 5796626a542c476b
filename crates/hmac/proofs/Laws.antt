-- Laws of HMAC that the proofs of this crate and of others cite: the length and bytes of a tag, the key of 32 bytes, its block, and a prepared key.
-- A digest has 32 bytes, so a tag has as many as it takes of them; a key that fits a block is used as it is; the block of the key's
-- first i bytes becomes that of i + 1 bytes by one store, since nothing xor x is x;
-- a block of the key has 64 bytes, so its hash value stands for it. Assumes nothing.
use mathlib.Core.Path.{◌≡◌, sym, ap, ◌∙◌}
use mathlib.Core.Logic.{◌≢◌}
use mathlib.Core.List.{List, [], ◌++◌}
use Prim.Native.Nat.{ℕ, ◌+◌, ◌<◌}
use native.Mathlib.Omega.{arith}
use native.Mathlib.Decide.{dec_lt, ℕ_discrete}
use lib.Bits.{bit_xor, xor_zero_l}
use lib.ListN.{length, get_or, set, take, replicate, length-set, length-take, get_or-eq_default}
use lib.Seq.{length-take-le, take_all, get_or-take, get_or-set_same, get_or-set_other, ext_get_or}
use borrow.Author.Tests.{le-leb}
use Rattle.sha256.specs.Sha256.{tab, sha256}
use Rattle.sha256.proofs.Laws.{sha-length, sha-bytes, tab-length, tab_at, tab_ext}
use Rattle.sha256.proofs.Hashed.{digest-after}
use Rattle.hmac.specs.Hmac.{hmac_sha256, key_block, masked_of, tag_of, tag_size}
use Rattle.hmac.specs.PreparedKey.{prepared_of, prepared_hmac_def, prepared_tag}

pub hmac-length : (k m : List ℕ) → length (hmac_sha256 k m) ≡ 32
unfolding hmac_sha256
hmac-length k m = sha-length _

pub tag-length : (k m : List ℕ) → length (tag_of k m) ≡ tag_size
unfolding tag_of
tag-length k m = length-take-le tag_size (hmac_sha256 k m) (omega (arith, hmac-length k m))

pub tag-bytes : (k m : List ℕ) (i : ℕ) → get_or (tag_of k m) i 0 < 256
unfolding tag_of hmac_sha256
tag-bytes k m i = go (dec_lt i tag_size)
  where
    go : Dec (i < tag_size) → get_or (take tag_size (unfold hmac_sha256 in hmac_sha256 k m)) i 0 < 256
    go (yes p) = rw (get_or-take tag_size (hmac_sha256 k m) i 0 p) (sha-bytes _ i)
    go (no p) = rw (get_or-eq_default (take tag_size (hmac_sha256 k m)) 0 {n = i} (omega (arith, tag-length k m))) (omega arith)

pub short-key : (k : List ℕ) → length k ≡ 32 → key_block k ≡ k
unfolding key_block
short-key k h = rw (le-leb (length k) 64 (omega arith))

-- ---- the key's block

pub masked_none : (x : ℕ) → replicate 64 x ≡ masked_of [] x
unfolding masked_of tab
masked_none x = sym (tab_ext 64 (λ k. bit_xor (get_or [] k 0) x) (λ k. x) (λ k h. xor_zero_l x))

take-other : (l : List ℕ) (i k : ℕ) → k ≢ i → get_or (take (i + 1) l) k 0 ≡ get_or (take i l) k 0
take-other l i k ne = go (dec_lt k i)
  where
    go : Dec (k < i) → get_or (take (i + 1) l) k 0 ≡ get_or (take i l) k 0
    go (yes p) = get_or-take (i + 1) l k 0 (omega arith) ∙ sym (get_or-take i l k 0 p)
    go (no p) =
        get_or-eq_default (take (i + 1) l) 0 (omega (arith, length-take (i + 1) l))
        ∙ sym (get_or-eq_default (take i l) 0 (omega (arith, length-take i l)))

pub masked_more : (key out : List ℕ) (x i : ℕ) → i < 64 → out ≡ masked_of (take i key) x → set out i (bit_xor (get_or key i 0) x) ≡ masked_of
    (take (i + 1) key) x
unfolding masked_of
masked_more key out x i h e =
    ap (λ (l : List ℕ). set l i y) e
    ∙ ext_get_or 0 (set (tab 64 f) i y) (tab 64 g) (length-set (tab 64 f) i y ∙ tab-length 64 f ∙ sym (tab-length 64 g))
    (λ k l. go k (at k l) (ℕ_discrete k i))
  where
    f : ℕ → ℕ
    f k = bit_xor (get_or (take i key) k 0) x

    g : ℕ → ℕ
    g k = bit_xor (get_or (take (i + 1) key) k 0) x

    y : ℕ
    y = bit_xor (get_or key i 0) x

    at : (k : ℕ) → k < length (set (tab 64 f) i y) → k < 64
    at k l = omega (arith, length-set (tab 64 f) i y, tab-length 64 f)

    go : (k : ℕ) → k < 64 → Dec (k ≡ i) → get_or (set (tab 64 f) i y) k 0 ≡ get_or (tab 64 g) k 0
    go k l (yes e) =
        ap (λ (j : ℕ). get_or (set (tab 64 f) i y) j 0) e
        ∙ get_or-set_same (tab 64 f) i y 0 (omega (arith, tab-length 64 f))
        ∙ ap (λ (z : ℕ). bit_xor z x) (sym (ap (λ (j : ℕ). get_or (take (i + 1) key) j 0) e ∙ get_or-take (i + 1) key i 0 (omega arith)))
        ∙ sym (tab_at 64 g k l)
    go k l (no ne) =
        get_or-set_other (tab 64 f) i k y 0 ne
        ∙ tab_at 64 f k l
        ∙ ap (λ (z : ℕ). bit_xor z x) (sym (take-other key i k ne))
        ∙ sym (tab_at 64 g k l)

pub masked_all : (key : List ℕ) (x : ℕ) → length key ≡ 32 → masked_of (take 32 key) x ≡ masked_of key x
masked_all key x e = ap (λ (k : List ℕ). masked_of k x) (take_all 32 key (omega arith))

-- ---- a prepared key

masked-length : (k : List ℕ) (x : ℕ) → length (masked_of k x) ≡ 64
unfolding masked_of
masked-length k x = tab-length 64 _

pub prepared-hmac : (k m : List ℕ) → prepared_hmac_def (prepared_of k) m ≡ hmac_sha256 k m
unfolding prepared_hmac_def prepared_of hmac_sha256
prepared-hmac k m =
    let outer : List ℕ = masked_of (key_block k) 0x5c in
    let inner : List ℕ = masked_of (key_block k) 0x36 in
    digest-after outer _ (masked-length (key_block k) 0x5c)
    ∙ ap (λ (x : List ℕ). sha256 (outer ++ x)) (digest-after inner m (masked-length (key_block k) 0x36))

pub prepared-tag : (k m : List ℕ) → prepared_tag (prepared_of k) m ≡ tag_of k m
unfolding prepared_tag tag_of
prepared-tag k m = ap (take tag_size) (prepared-hmac k m)
