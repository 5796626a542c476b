-- The laws of the functions that the protocol rests on: lengths, tagged bytes that tell their fields, entries of a run, and fragments that give a
-- content back. The first byte of a printed number is not reduced, so the tagged bytes tell every number. Nothing is assumed.
use mathlib.Core.Path.{◌≡◌, refl, sym, ap, ◌∙◌}
use mathlib.Core.Bool.{Bool, true, false}
use mathlib.Core.List.{List, [], ◌++◌, map, append-nil}
use Prim.Native.Nat.{ℕ, zero, suc, ◌+◌, ◌-◌, ◌*◌, ◌/◌, ◌%◌, ◌≤◌, ◌<◌}
use native.Mathlib.Omega.{arith}
use native.Mathlib.Nat.{mul-suc, mul-le-mul_left}
use lib.Dec.{leb}
use borrow.Author.Tests.{leb-true, leb-false}
use lib.ListN.{length, take, drop, get_or, length-append, length-drop}
use lib.Seq.{take_at, drop_at, take-append-le, drop-append-le}
use Rattle.cluster.specs.Config.{Config, Legal}
use Rattle.sha256.proofs.Laws.{sha-length}
use Rattle.hmac.proofs.Laws.{tag-length}
use Rattle.gf256.proofs.Byte.{Small}
use Rattle.gf256.proofs.Apart.{Distinct}
use Rattle.erasure.proofs.Laws.{fragment-length, restored-length, Servers, restores}
use Rattle.erasure.proofs.Lists.{small_of}
use Rattle.protocol.specs.declared.Stamp.{Stamp}
use Rattle.format.specs.Format.{Bytes, value4, print4}
use Rattle.protocol.specs.Values.{nth, run_of, digest_size}
use Rattle.protocol.specs.Primitives.{Lengths, real, stamp_message_def, candidate_message}
use Rattle.format.proofs.Formats.{value4-print}

-- ---- lengths

pub real-lengths : Lengths real
unfolding real
real-lengths = record { digest = sha-length; tag = tag-length; fragment = fragment-length; content = restored-length }

-- ---- the tagged bytes

pub print4_inj : (n m : ℕ) → print4 n ≡ print4 m → n ≡ m
print4_inj n m e =
    let a : n / 16777216 ≡ m / 16777216 = ap (λ (z : List ℕ). get_or z 0 0) e in
    let b : n / 65536 % 256 ≡ m / 65536 % 256 = ap (λ (z : List ℕ). get_or z 1 0) e in
    let c : n / 256 % 256 ≡ m / 256 % 256 = ap (λ (z : List ℕ). get_or z 2 0) e in
    let d : n % 256 ≡ m % 256 = ap (λ (z : List ℕ). get_or z 3 0) e in
    sym (value4-print n) ∙ (λ i. value4 (a i) (b i) (c i) (d i)) ∙ value4-print m

pub stamp_inj : (a b c d : ℕ) → stamp_message_def a b ≡ stamp_message_def c d → (a ≡ c) × (b ≡ d)
unfolding stamp_message_def
stamp_inj a b c d e = (print4_inj a c (ap (take 4) e), ap (λ (z : List ℕ). get_or z 4 0) e)

-- two lists in a row, the second of one length
tail_inj : (a b c d : List ℕ) → length b ≡ length d → a ++ b ≡ c ++ d → (a ≡ c) × (b ≡ d)
tail_inj a b c d l e =
    let n : length a ≡ length c = omega (arith, l, length-append a b, length-append c d, ap length e) in
    let p : a ≡ c = sym (take_at a b (length a) refl) ∙ ap (take (length a)) e ∙ take_at c d (length a) (sym n) in
    let q : b ≡ d = sym (drop_at a b (length a) refl) ∙ ap (drop (length a)) e ∙ drop_at c d (length a) (sym n) in
    (p, q)

-- every stamp, and every two digests of one length
pub cand_inj : (a b : Stamp) (m n : List ℕ) → length m ≡ length n → candidate_message a m ≡ candidate_message b n → (a ≡ b) × (m ≡ n)
unfolding candidate_message stamp_message_def
cand_inj a b m n l e =
    let (p, q) = stamp_inj a.number a.writer b.number b.writer (unfold stamp_message_def in ap (take 5) e) in
    let (r, s) = tail_inj a.tag m b.tag n l (ap (drop 5) e) in
    (λ i. record { number = p i; writer = q i; tag = r i }, s)

-- what a server's key tags is never what the writers' key tags
pub apart : (a : Stamp) (m : List ℕ) (c d : ℕ) → length m ≡ digest_size → candidate_message a m ≡ stamp_message_def c d → ⊥
unfolding candidate_message stamp_message_def
apart a m c d l e = absurd (omega (arith, length-append a.tag m, l, ap length e))

-- ---- a run of entries of w bytes

module _ (w : ℕ) (f : ℕ → List ℕ) (h : (i : ℕ) → length (f i) ≡ w) where
  pub run_length : (n : ℕ) → length (run_of n f) ≡ w * n
  unfolding run_of
  run_length zero = omega arith
  run_length (suc n) = omega (arith, length-append (run_of n f) (f (suc n)), run_length n, h (suc n), mul-suc w n)

  -- where entry i stands in the run of n + 1 entries
  nth_step : (n i : ℕ) → 1 ≤ i → i ≤ suc n → (b : Bool) → leb i n ≡ b → (i ≤ n → take w (drop (w * (i - 1)) (run_of n f)) ≡ f i)
      → take w (drop (w * (i - 1)) (run_of n f ++ f (suc n))) ≡ f i
  nth_step n i lo hi true e k =
      let j : i ≤ n = leb-true i n e in
      let p : i ≡ suc (i - 1) = omega arith in
      let q : w * i ≡ w * (i - 1) + w = ap (λ (z : ℕ). w * z) p ∙ mul-suc w (i - 1) in
      let l : w * (i - 1) + w ≤ length (run_of n f) = omega (arith, q, run_length n, mul-le-mul_left w j) in
      ap (take w) (drop-append-le (w * (i - 1)) (run_of n f) (f (suc n)) (omega arith))
      ∙ take-append-le w (drop (w * (i - 1)) (run_of n f)) (f (suc n)) (omega (arith, length-drop (w * (i - 1)) (run_of n f))) ∙ k j
  nth_step n i lo hi false e k =
      let j : i ≡ suc n = omega (arith, leb-false i n e) in
      let m : n ≡ i - 1 = omega arith in
      let l : length (run_of n f) ≡ w * (i - 1) = run_length n ∙ ap (λ (z : ℕ). w * z) m in
      ap (take w) (drop_at (run_of n f) (f (suc n)) (w * (i - 1)) l)
      ∙ ap (take w) (sym (append-nil (f (suc n)))) ∙ take_at (f (suc n)) [] w (h (suc n)) ∙ ap f (sym j)

  -- entry i of the run of f is f i
  pub nth-run : (n i : ℕ) → 1 ≤ i → i ≤ n → nth w (run_of n f) i ≡ f i
  unfolding run_of nth
  nth-run zero i lo hi = absurd (omega arith)
  nth-run (suc n) i lo hi = nth_step n i lo hi (leb i n) refl (nth-run n i lo)

-- ---- restoring

bytes_small : (r : List ℕ) → Bytes r → Small r
bytes_small r b = small_of r (λ i h. b i)

-- fragments of k or more different servers give back a content of bytes
pub restores-parts : (s : Config) → Legal s → (r : List ℕ) → Bytes r → (is : List ℕ)
    → ((i : ℕ) → i < length is → (1 ≤ get_or is i 0) × (get_or is i 0 ≤ s.servers)) → Distinct is → s.threshold ≤ length is
    → real.restored s.points s.threshold (length r) (map (λ i. record { server = i; bytes = real.fragment s.points s.threshold r i })
    is) ≡ r
unfolding real
restores-parts s l r b is at d k =
    let e : length s.points ≡ s.servers = l.table in
    let servers : Servers s.points is = λ i h. ((at i h).0, omega (arith, (at i h).1)) in
    restores s.points s.threshold r l.apart (omega (arith, l.restores)) (omega (arith, l.covered)) (bytes_small r b) is servers d k
