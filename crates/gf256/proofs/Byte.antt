-- The bytes are a field: the laws of `Field` at the numbers below 256, and what they say of lists of such numbers. Nothing is assumed.
use mathlib.Core.Path.{◌≡◌, refl, sym, ap, ap₂, ◌∙◌, subst}
use mathlib.Core.Logic.{◌≢◌}
use mathlib.Core.HLevel.{Σ_prop_path}
use mathlib.Core.List.{List, [], ◌∷◌, map}
use Prim.Native.Nat.{ℕ, zero, suc, ◌<◌}
use native.Mathlib.Nat.{suc-ne-zero, le_of_suc-le-suc, zero-lt-suc}
use native.Mathlib.Bridge.{le_prop}
use native.Mathlib.Omega.{arith}
use lib.ListN.{length, get_or, length-map}
use lib.Bits.{bit_xor, xor_comm, xor_self, xor_lt}
use Rattle.gf256.specs.Gf.{times, inverse}
use Rattle.gf256.specs.Poly.{Ops, eval, vanish, through}
use Rattle.gf256.specs.Bytes.{bytes}
use Rattle.gf256.proofs.Xor.{xor_assoc}
use Rattle.gf256.proofs.Linear.{times-lt, times-comm, times_assoc, one-times, times-xor_r}
use Rattle.gf256.proofs.Tables.{inverse-lt, times-inverse-suc}
use Rattle.gf256.proofs.Field.{Laws}
use Rattle.gf256.proofs.Apart.{Apart, Distinct}
use Rattle.gf256.proofs.Coefficients.{through_c, length_through_c, through_c-eval}
use Rattle.gf256.proofs.Through.{restored, through_at, through_is}

abbrev pub Byte : Type 0
Byte = (n : ℕ) × (n < 256)

pub same : (a b : Byte) → a.0 ≡ b.0 → a ≡ b
same a b e = Σ_prop_path (λ (k : ℕ). le_prop {n = suc k} {m = 256}) {u = a} {v = b} e

abbrev pub add_b : Byte → Byte → Byte
add_b a b = (bit_xor a.0 b.0, xor_lt 8 a.0 b.0 a.1 b.1)

abbrev pub mul_b : Byte → Byte → Byte
mul_b a b = (times a.0 b.0, times-lt a.0 b.0 a.1)

abbrev pub inv_b : Byte → Byte
inv_b a = (inverse a.0, inverse-lt a.0 a.1)

abbrev pub nil_b : Byte
nil_b = (0, zero-lt-suc 255)

pub one-small : 1 < 256
one-small = omega arith

abbrev pub one_b : Byte
one_b = (1, one-small)

abbrev pub field : Ops
field = record { F = Byte; nil = nil_b; one = one_b; add = add_b; mul = mul_b; inv = inv_b }

inv_law : (n : ℕ) (h : n < 256) → n ≢ 0 → times n (inverse n) ≡ 1
inv_law zero h ne = absurd (ne refl)
inv_law (suc k) h ne = times-inverse-suc k (le_of_suc-le-suc h)

pub laws : Laws field
laws = record {
  add_comm = λ a b. same (add_b a b) (add_b b a) (xor_comm a.0 b.0);
  add_assoc = λ a b c. same (add_b (add_b a b) c) (add_b a (add_b b c)) (xor_assoc a.0 b.0 c.0);
  nil-add = λ a. same (add_b nil_b a) a refl;
  add_self = λ a. same (add_b a a) nil_b (xor_self a.0);
  mul_comm = λ a b. same (mul_b a b) (mul_b b a) (times-comm a.0 b.0 a.1 b.1);
  mul_assoc = λ a b c. same (mul_b (mul_b a b) c) (mul_b a (mul_b b c)) (times_assoc a.0 b.0 c.0 a.1 b.1 c.1);
  one-mul = λ a. same (mul_b one_b a) a (one-times a.0 a.1);
  mul-add = λ a b c. same (mul_b a (add_b b c)) (add_b (mul_b a b) (mul_b a c)) (times-xor_r a.0 b.0 c.0);
  mul-inv = λ a ne. same (mul_b a (inv_b a)) one_b (inv_law a.0 a.1 (λ e. ne (same a nil_b e)));
  one-ne-nil = λ e. suc-ne-zero 0 (ap (λ (b : Byte). b.0) e);
}

-- ---- from bytes to numbers

pub eval-number : (p : List Byte) (z : Byte) → (eval field p z).0 ≡ eval bytes (map (λ b. b.0) p) z.0
unfolding eval
eval-number [] z = refl
eval-number (c ∷ p) z = ap (λ (t : ℕ). bit_xor c.0 (times z.0 t)) (eval-number p z)

pub vanish-number : (xs : List Byte) (z : Byte) → (vanish field xs z).0 ≡ vanish bytes (map (λ b. b.0) xs) z.0
unfolding vanish
vanish-number [] z = refl
vanish-number (x ∷ xs) z = ap (λ (t : ℕ). times (bit_xor z.0 x.0) t) (vanish-number xs z)

pub through-number : (xs ys : List Byte) (z : Byte) → (through field xs ys z).0 ≡ through bytes (map (λ b. b.0) xs) (map (λ b. b.0) ys) z.0
unfolding through
through-number [] ys z = refl
through-number (x ∷ xs) [] z = refl
through-number (x ∷ xs) (y ∷ ys) z =
    ap₂ bit_xor (through-number xs ys z)
    (ap₂ times (ap₂ (λ (s t : ℕ). times (bit_xor y.0 s) (inverse t)) (through-number xs ys x) (vanish-number xs x)) (vanish-number xs z))

-- ---- from numbers to bytes

abbrev pub Small : List ℕ → Type 0
Small [] = Unit {0}
Small (x ∷ xs) = (x < 256) × Small xs

abbrev pub lift : (xs : List ℕ) → Small xs → List Byte
lift [] s = []
lift (x ∷ xs) s = (x, s.0) ∷ lift xs s.1

pub numbers-small : (bs : List Byte) → Small (map (λ b. b.0) bs)
numbers-small [] = tt
numbers-small (b ∷ bs) = (b.1, numbers-small bs)

pub lift-map : (xs : List ℕ) (s : Small xs) → map (λ b. b.0) (lift xs s) ≡ xs
lift-map [] s = refl
lift-map (x ∷ xs) s = ap (λ (t : List ℕ). x ∷ t) (lift-map xs s.1)

pub lift-length : (xs : List ℕ) (s : Small xs) → length (lift xs s) ≡ length xs
lift-length [] s = refl
lift-length (x ∷ xs) s = ap suc (lift-length xs s.1)

lift_apart : (x : ℕ) (h : x < 256) (xs : List ℕ) (s : Small xs) → Apart x xs → Apart (x, h) (lift xs s)
lift_apart x h [] s d = tt
lift_apart x h (y ∷ ys) s d = (λ e. d.0 (ap (λ (b : Byte). b.0) e), lift_apart x h ys s.1 d.1)

pub lift-distinct : (xs : List ℕ) (s : Small xs) → Distinct xs → Distinct (lift xs s)
lift-distinct [] s d = tt
lift-distinct (x ∷ xs) s d = (lift_apart x s.0 xs s.1 d.0, lift-distinct xs s.1 d.1)

-- ---- restoring, of numbers

pub through_lift : (xs ys : List ℕ) (sx : Small xs) (sy : Small ys) (z : ℕ) (h : z < 256) → (through field (lift xs sx) (lift ys sy) (z, h)).0 ≡
    through bytes xs ys z
through_lift xs ys sx sy z h =
    through-number (lift xs sx) (lift ys sy) (z, h) ∙ ap₂ (λ (u v : List ℕ). through bytes u v z) (lift-map xs sx) (lift-map ys sy)

-- the values of a polynomial at points, as bytes and as numbers
map_lift : (ps rs xs : List ℕ) (sp : Small ps) (sr : Small rs) (sx : Small xs)
    → map (λ b. b.0) (map (through field (lift ps sp) (lift rs sr)) (lift xs sx)) ≡ map (through bytes ps rs) xs
map_lift ps rs [] sp sr sx = refl
map_lift ps rs (x ∷ xs) sp sr sx =
    ap₂ (λ (u : ℕ) (v : List ℕ). u ∷ v) (through_lift ps rs sp sr x sx.0) (map_lift ps rs xs sp sr sx.1)

pub get_or-small : (xs : List ℕ) → Small xs → (i : ℕ) → get_or xs i 0 < 256
get_or-small [] s i = zero-lt-suc 255
get_or-small (x ∷ xs) s zero = s.0
get_or-small (x ∷ xs) s (suc i) = get_or-small xs s.1 i

lift-get_or : (xs : List ℕ) (s : Small xs) (i : ℕ) → (get_or (lift xs s) i nil_b).0 ≡ get_or xs i 0
lift-get_or [] s i = refl
lift-get_or (x ∷ xs) s zero = refl
lift-get_or (x ∷ xs) s (suc i) = lift-get_or xs s.1 i

-- at the i-th point the polynomial has the i-th value
pub through-value : (xs ys : List ℕ) → Small xs → Small ys → length ys ≡ length xs → Distinct xs → (i : ℕ) → i < length xs
    → through bytes xs ys (get_or xs i 0) ≡ get_or ys i 0
through-value xs ys sx sy l d i b =
    let z : Byte = get_or (lift xs sx) i nil_b in
    ap (through bytes xs ys) (sym (lift-get_or xs sx i))
    ∙ sym (through_lift xs ys sx sy z.0 z.1)
    ∙ ap (λ (b : Byte). b.0)
    (through_at field laws (lift xs sx) (lift ys sy) nil_b (lift-length ys sy ∙ l ∙ sym (lift-length xs sx)) (lift-distinct xs sx d) i
    (subst (λ (n : ℕ). i < n) (sym (lift-length xs sx)) b))
    ∙ lift-get_or ys sy i

-- fragments of as many different points as there are runs give each run back
pub restored-bytes : (ps rs xs : List ℕ) → Small ps → Small rs → Small xs → length rs ≡ length ps → Distinct ps → length xs ≡ length ps → Distinct xs
    → (i : ℕ) → i < length ps → through bytes xs (map (through bytes ps rs) xs) (get_or ps i 0) ≡ get_or rs i 0
restored-bytes ps rs xs sp sr sx lr dp lx dx i b =
    let f : Byte → Byte = through field (lift ps sp) (lift rs sr) in
    let z : Byte = get_or (lift ps sp) i nil_b in
    ap₂ (λ (u : List ℕ) (v : ℕ). through bytes xs u v) (sym (map_lift ps rs xs sp sr sx)) (sym (lift-get_or ps sp i))
    ∙ ap (λ (u : List ℕ). through bytes u (map (λ b. b.0) (map f (lift xs sx))) z.0) (sym (lift-map xs sx))
    ∙ sym (through-number (lift xs sx) (map f (lift xs sx)) z)
    ∙ ap (λ (b : Byte). b.0)
    (restored field laws (lift ps sp) (lift rs sr) (lift xs sx) nil_b (lift-length rs sr ∙ lr ∙ sym (lift-length ps sp)) (lift-distinct ps sp dp)
    (lift-length xs sx ∙ lx ∙ sym (lift-length ps sp)) (lift-distinct xs sx dx) i (subst (λ (n : ℕ). i < n) (sym (lift-length ps sp)) b))
    ∙ lift-get_or rs sr i

-- ---- document 01's words: the one polynomial with as many coefficients as there are points, through those points

eval_lift : (p : List ℕ) (s : Small p) (z : ℕ) (h : z < 256) → (eval field (lift p s) (z, h)).0 ≡ eval bytes p z
eval_lift p s z h = eval-number (lift p s) (z, h) ∙ ap (λ (u : List ℕ). eval bytes u z) (lift-map p s)

-- any such polynomial has the value `through` at every byte
pub the_one : (xs ys p : List ℕ) → Small xs → Small ys → Small p → length p ≡ length xs → length ys ≡ length xs → Distinct xs
    → ((i : ℕ) → i < length xs → eval bytes p (get_or xs i 0) ≡ get_or ys i 0) → (z : ℕ) → z < 256 → eval bytes p z ≡ through bytes xs ys z
the_one xs ys p sx sy sp lp ly d e z h =
    sym (eval_lift p sp z h)
    ∙ ap (λ (b : Byte). b.0)
    (through_is field laws (lift xs sx) (lift ys sy) (lift p sp) nil_b (lift-length p sp ∙ lp ∙ sym (lift-length xs sx))
    (lift-length ys sy ∙ ly ∙ sym (lift-length xs sx))
    (lift-distinct xs sx d)
    (λ i b.
    let x : Byte = get_or (lift xs sx) i nil_b in
    let c : i < length xs = subst (λ (n : ℕ). i < n) (lift-length xs sx) b in
    same (eval field (lift p sp) x) (get_or (lift ys sy) i nil_b)
    (eval-number (lift p sp) x ∙ ap₂ (λ (u : List ℕ) (v : ℕ). eval bytes u v) (lift-map p sp) (lift-get_or xs sx i) ∙ e i c ∙ sym (lift-get_or ys sy i)))
    (z, h))
    ∙ through_lift xs ys sx sy z h

-- and there is one
pub there_is : (xs ys : List ℕ) → Small xs → Small ys
    → (p : List ℕ) × (length p ≡ length xs) × Small p × ((z : ℕ) → z < 256 → eval bytes p z ≡ through bytes xs ys z)
there_is xs ys sx sy =
    let q : List Byte = through_c field laws (lift xs sx) (lift ys sy) in (
      map (λ b. b.0) q,
      length-map q (λ b. b.0) ∙ length_through_c field laws (lift xs sx) (lift ys sy) ∙ lift-length xs sx,
      numbers-small q,
      λ z h. sym (eval-number q (z, h)) ∙ ap (λ (b : Byte). b.0) (through_c-eval field laws (lift xs sx) (lift ys sy) (z, h)) ∙ through_lift xs ys sx
          sy z h,
    )
