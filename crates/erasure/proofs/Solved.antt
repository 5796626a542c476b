-- The system as bytes: each turn keeps it half solved, no pivot is zero, and the last turn leaves it solved. Nothing is assumed.
use mathlib.Core.Path.{◌≡◌, refl, sym, ap, ap₂, subst, ◌∙◌}
use mathlib.Core.List.{List, [], ◌∷◌, map}
use Prim.Native.Nat.{ℕ, zero, suc, ◌%◌, ◌<◌, ◌≤◌}
use native.Mathlib.Nat.{mod-lt, mod-eq_of_lt, zero-lt-suc, le_of_suc-le-suc, not-suc-le-zero}
use native.Mathlib.Decide.{ℕ_discrete}
use native.Mathlib.Omega.{arith}
use lib.Bits.{bit_xor, xor_lt}
use lib.ListN.{length, get_or, take}
use Rattle.gf256.specs.Gf.{times, power, inverse}
use Rattle.gf256.specs.Poly.{through}
use Rattle.gf256.specs.Bytes.{bytes}
use Rattle.gf256.proofs.Linear.{times-lt, times-comm}
use Rattle.gf256.proofs.Tables.{inverse-lt, power-lt}
use Rattle.gf256.proofs.Sums.{sum, sum_more, sum_ext}
use Rattle.gf256.proofs.Exchange.{Turned, Half}
use Rattle.gf256.proofs.Powers.{pivot, all_turned, weights, Different, pow, tab}
use Rattle.gf256.proofs.Byte.{Byte, field, laws, same, add_b, mul_b, inv_b, nil_b, one_b, through-number}
use Rattle.erasure.specs.Fragments.{table}
use Rattle.erasure.proofs.Sums.{sum_to_ext}
use Rattle.erasure.specs.System.{entry, SystemTurned, sum_to, weight_at, AllDifferent, Solves}

abbrev pub to_byte : ℕ → Byte
to_byte n = (n % 256, mod-lt n (zero-lt-suc 255))

pub to_val : (n : ℕ) → n < 256 → (to_byte n).0 ≡ n
to_val n h = mod-eq_of_lt h

to-mul : (a b : ℕ) → a < 256 → b < 256 → to_byte (times a b) ≡ mul_b (to_byte a) (to_byte b)
to-mul a b ha hb =
    same (to_byte (times a b)) (mul_b (to_byte a) (to_byte b)) (to_val (times a b) (times-lt a b ha) ∙ sym (ap₂ times (to_val a ha) (to_val b hb)))

to-add : (a b : ℕ) → a < 256 → b < 256 → to_byte (bit_xor a b) ≡ add_b (to_byte a) (to_byte b)
to-add a b ha hb =
    same (to_byte (bit_xor a b)) (add_b (to_byte a) (to_byte b)) (to_val (bit_xor a b) (xor_lt 8 a b ha hb) ∙ sym (ap₂ bit_xor (to_val a ha) (to_val b hb)))

to_inv : (a : ℕ) → a < 256 → to_byte (inverse a) ≡ inv_b (to_byte a)
to_inv a h = same (to_byte (inverse a)) (inv_b (to_byte a)) (to_val (inverse a) (inverse-lt a h) ∙ sym (ap inverse (to_val a h)))

-- the system as bytes
abbrev pub mat : List (List ℕ) → ℕ → ℕ → Byte
mat a r c = to_byte (entry a r c)

-- the entries of the first k rows and columns are bytes
abbrev pub Small : ℕ → List (List ℕ) → Type 0
Small k a = (r c : ℕ) → r < k → c < k → entry a r c < 256

module _ (k : ℕ) (a out : List (List ℕ)) (p d : ℕ) (t : SystemTurned k a p d out) (small : Small k a) (dsmall : d < 256) (pk : p < k) where
  pub small-out : Small k out
  small-out r c hr hc = go (ℕ_discrete r p) (ℕ_discrete c p)
    where
      go : Dec (r ≡ p) → Dec (c ≡ p) → entry out r c < 256
      go (yes e) (yes f) = subst (λ (x : ℕ). entry out x c < 256) (sym e) (subst (λ (x : ℕ). entry out p x < 256) (sym f)
          (subst (λ (x : ℕ). x < 256) (sym t.pp) dsmall))
      go (yes e) (no nf) = subst (λ (x : ℕ). entry out x c < 256) (sym e) (subst (λ (x : ℕ). x < 256) (sym (t.pc c hc nf))
          (times-lt d (entry a p c) dsmall))
      go (no ne) (yes f) = subst (λ (x : ℕ). entry out r x < 256) (sym f) (subst (λ (x : ℕ). x < 256) (sym (t.rp r hr ne))
          (times-lt (entry a r p) d (small r p hr pk)))
      go (no ne) (no nf) =
          subst (λ (x : ℕ). x < 256) (sym (t.rc r c hr hc ne nf))
          (xor_lt 8 (entry a r c) (times (times (entry a r p) d) (entry a p c)) (small r c hr hc)
          (times-lt (times (entry a r p) d) (entry a p c) (times-lt (entry a r p) d (small r p hr pk))))

  pub turned_mat : Turned field laws k p (to_byte d) (mat a) (mat out)
  turned_mat = record {
    pp = ap to_byte t.pp;
    pc = λ c h ne. ap to_byte (t.pc c h ne) ∙ to-mul d (entry a p c) dsmall (small p c pk h);
    rp = λ r h ne. ap to_byte (t.rp r h ne) ∙ to-mul (entry a r p) d (small r p h pk) dsmall;
    rc = λ r c hr hc ne nc.
        let sr : entry a r p < 256 = small r p hr pk in
        let sp : entry a p c < 256 = small p c pk hc in
        ap to_byte (t.rc r c hr hc ne nc)
        ∙ to-add (entry a r c) (times (times (entry a r p) d) (entry a p c)) (small r c hr hc)
        (times-lt (times (entry a r p) d) (entry a p c) (times-lt (entry a r p) d sr))
        ∙ ap (add_b (mat a r c)) (to-mul (times (entry a r p) d) (entry a p c) (times-lt (entry a r p) d sr) sp ∙ ap (λ (x : Byte). mul_b x (mat a p c))
        (to-mul (entry a r p) d sr dsmall));
  }

-- an equal system is half solved alike
pub half_system : (k p : ℕ) (a b m : ℕ → ℕ → Byte) → ((r c : ℕ) → r < k → c < k → a r c ≡ b r c) → Half field laws k a p m → Half field laws k b p m
half_system k p a b m e half v u y u0 u1 y0 y1 r h =
    half v u y u0 u1 y0 y1 r h
    ∙ sum_ext field laws k (λ c. mul_b (a r c) (u c)) (λ c. mul_b (b r c) (u c)) (λ c hc. ap (λ (x : Byte). mul_b x (u c)) (e r c h hc))

pub pow-number : (z : Byte) (c : ℕ) → (pow field laws z c).0 ≡ power z.0 c
unfolding pow power
pow-number z zero = refl
pow-number z (suc c) =
    times-comm z.0 (pow field laws z c).0 z.1 (pow field laws z c).1 ∙ ap (λ (x : ℕ). times x z.0) (pow-number z c)

-- the points as bytes
abbrev pub point : List ℕ → ℕ → Byte
point xs r = to_byte (get_or xs r 0)

pub different : (k : ℕ) (xs : List ℕ) → ((i : ℕ) → get_or xs i 0 < 256) → AllDifferent k xs → Different field laws k (point xs)
different k xs s d i j hi hj ne e =
    d i j hi hj ne (sym (to_val (get_or xs i 0) (s i)) ∙ ap (λ (b : Byte). b.0) e ∙ to_val (get_or xs j 0) (s j))

-- the pivot is not zero
pub pivot_pos : (k p : ℕ) (xs : List ℕ) (a : List (List ℕ)) → ((i : ℕ) → get_or xs i 0 < 256) → AllDifferent k xs → p < k
    → Half field laws k (λ r c. pow field laws (point xs r) c) p (mat a) → 0 < entry a p p
pivot_pos k p xs a s d h half = go (entry a p p) refl
  where
    go : (n : ℕ) → entry a p p ≡ n → 0 < entry a p p
    go zero e = absurd (pivot field laws k p (point xs) (mat a) (different k xs s d) h half (same (mat a p p) nil_b (ap (λ (x : ℕ). x % 256) e)))
    go (suc n) e = omega arith

pub unit_law : (a : List (List ℕ)) (p : ℕ) → entry a p p < 256 → 0 < entry a p p → mul_b (mat a p p) (to_byte (inverse (entry a p p))) ≡ one_b
unit_law a p s h =
    ap (mul_b (mat a p p)) (to_inv (entry a p p) s)
    ∙ laws.mul-inv (mat a p p) (λ e. let z : entry a p p ≡ 0 = sym (to_val (entry a p p) s) ∙ ap (λ (b : Byte). b.0) e in omega arith)

-- ---- the solved system

pub sum_number : (k : ℕ) (f : ℕ → Byte) → (sum field laws k f).0 ≡ sum_to k (λ i. (f i).0)
unfolding sum_to sum
sum_number zero f = refl
sum_number (suc k) f = ap (λ (b : Byte). b.0) (sum_more field laws k f) ∙ ap (λ (x : ℕ). bit_xor x (f k).0) (sum_number k f)

pub tab_take : (k : ℕ) (xs : List ℕ) (f : ℕ → Byte) → k ≤ length xs → ((i : ℕ) → (f i).0 ≡ get_or xs i 0) → map (λ b. b.0) (tab field laws k f) ≡ take k
    xs
unfolding tab
tab_take zero xs f h e = refl
tab_take (suc k) [] f h e = absurd (not-suc-le-zero h)
tab_take (suc k) (x ∷ xs) f h e = ap₂ (λ (u : ℕ) (v : List ℕ). u ∷ v) (e 0) (tab_take k xs (λ i. f (suc i)) (le_of_suc-le-suc h) (λ i. e (suc i)))

pub tab-table : (k : ℕ) (f : ℕ → Byte) (y : ℕ → ℕ) → ((i : ℕ) → (f i).0 ≡ y i) → map (λ b. b.0) (tab field laws k f) ≡ table k y
unfolding tab table
tab-table zero f y e = refl
tab-table (suc k) f y e = ap₂ (λ (u : ℕ) (v : List ℕ). u ∷ v) (e 0) (tab-table k (λ i. f (suc i)) (λ i. y (suc i)) (λ i. e (suc i)))

pub solves : (k : ℕ) (xs : List ℕ) (a : List (List ℕ)) → k ≤ length xs → ((i : ℕ) → get_or xs i 0 < 256) → Small k a → AllDifferent k xs
    → Half field laws k (λ r c. pow field laws (point xs r) c) k (mat a) → Solves k xs a
unfolding weight_at
solves k xs a kx s sa d half z hz y sy =
    let v : ℕ → Byte = λ j. to_byte (y j) in
    let q : Byte = (z, hz) in
    let w : ℕ → Byte = λ j. sum field laws k (λ c. mul_b (pow field laws q c) (mat a c j)) in
    sum_to_ext k (λ j. times (y j) (weight_at k a z j)) (λ j. (mul_b (w j) (v j)).0)
    (λ j hj.
    let e : (w j).0 ≡ weight_at k a z j =
    sum_number k (λ c. mul_b (pow field laws q c) (mat a c j))
    ∙ sum_to_ext k (λ c. (mul_b (pow field laws q c) (mat a c j)).0) (λ c. times (power z c) (entry a c j))
    (λ c hc. ap₂ times (pow-number q c) (to_val (entry a c j) (sa c j hc hj))) in
    times-comm (y j) (weight_at k a z j) (sy j) (subst (λ (x : ℕ). x < 256) e (w j).1)
    ∙ ap₂ times (sym e) (sym (to_val (y j) (sy j))))
    ∙ sym (sum_number k (λ j. mul_b (w j) (v j)))
    ∙ ap (λ (b : Byte). b.0) (sym (weights field laws k (mat a) v q) ∙ all_turned field laws k (point xs) (mat a) (different k xs s d) half v q)
    ∙ through-number (tab field laws k (point xs)) (tab field laws k v) q
    ∙ ap₂ (λ (u t : List ℕ). through bytes u t z) (tab_take k xs (point xs) kx (λ i. to_val (get_or xs i 0) (s i)))
    (tab-table k v y (λ i. to_val (y i) (sy i)))

-- the system that the code begins with
module _ (k : ℕ) (xs : List ℕ) (a : List (List ℕ)) (s : (i : ℕ) → get_or xs i 0 < 256)
    (e : (i c : ℕ) → i < k → c < k → entry a i c ≡ power (get_or xs i 0) c) where
  pub begun : (r c : ℕ) → r < k → c < k → mat a r c ≡ pow field laws (point xs r) c
  begun r c hr hc =
      same (mat a r c) (pow field laws (point xs r) c)
      (ap (λ (x : ℕ). x % 256) (e r c hr hc) ∙ to_val (power (get_or xs r 0) c) (power-lt (get_or xs r 0) c (s r))
      ∙ sym (pow-number (point xs r) c ∙ ap (λ (x : ℕ). power x c) (to_val (get_or xs r 0) (s r))))

  pub begun-small : Small k a
  begun-small r c hr hc = subst (λ (x : ℕ). x < 256) (sym (e r c hr hc)) (power-lt (get_or xs r 0) c (s r))
