-- A content, run after run: each byte that rebuilding writes is the sum that its run's row weighs; with the weights of the points given it is the
-- value, at the run's point, of the polynomial through the fragments' bytes. Nothing is assumed.
use mathlib.Core.Path.{◌≡◌, sym, ap, ap₂, subst, ◌∙◌}
use mathlib.Core.List.{List, ◌++◌}
use Prim.Native.Nat.{ℕ, ◌+◌, ◌-◌, ◌*◌, ◌/◌, ◌%◌, ◌<◌, ◌≤◌}
use native.Mathlib.Nat.{mul-mod_left, mul-div_cancel, lt_of_lt_of_le, lt_of_mul-lt-mul_left, add-zero, mod-lt, mul-le-mul_right, suc-mul}
use native.Mathlib.Nat.{div-lt_iff_lt-mul, div-add-mod', mul-add-div_right, mul-add-mod_self_right, mod-eq_of_lt, div-eq_of_lt}
use native.Mathlib.Omega.{arith}
use lib.ListN.{length, get_or, take, get_or-append}
use Rattle.gf256.specs.Gf.{times}
use Rattle.gf256.specs.Poly.{through}
use Rattle.gf256.specs.Bytes.{bytes}
use Rattle.cluster.specs.Config.{point_of}
use Rattle.erasure.specs.Fragments.{table, fragment_size_def}
use Rattle.erasure.specs.System.{sum_to, AllDifferent}
use Rattle.erasure.specs.Lanes.{byte_at, sum_at, value_from, weighed_of, rebuilt_of}
use Rattle.erasure.specs.Weights.{weight_of, weight_rows, weighed_bytes}
use Rattle.erasure.proofs.Laws.{run-lt}
use Rattle.erasure.proofs.Lists.{length-table, get_or-table}
use Rattle.erasure.proofs.Placed.{table_ext, sum_through}
use Rattle.erasure.proofs.Sums.{sum_to_ext}
use Rattle.erasure.proofs.Units.{weigh}

-- ---- which run a byte stands in, and where

pub run-div : (f d i : ℕ) → d % f ≡ 0 → i < f → (d + i) / f ≡ d / f
run-div f d i e hi =
    let q : d / f * f ≡ d = sym (add-zero (d / f * f)) ∙ ap (λ (x : ℕ). d / f * f + x) (sym e) ∙ div-add-mod' d f in
    ap (λ (x : ℕ). (x + i) / f) (sym q) ∙ mul-add-div_right (omega arith) (d / f) i ∙ ap (λ (x : ℕ). d / f + x) (div-eq_of_lt hi) ∙ add-zero (d / f)

pub run-mod : (f d i : ℕ) → d % f ≡ 0 → i < f → (d + i) % f ≡ i
run-mod f d i e hi =
    let q : d / f * f ≡ d = sym (add-zero (d / f * f)) ∙ ap (λ (x : ℕ). d / f * f + x) (sym e) ∙ div-add-mod' d f in
    ap (λ (x : ℕ). (x + i) % f) (sym q) ∙ mul-add-mod_self_right (d / f) f i ∙ mod-eq_of_lt hi

-- a run has a byte where the content has one
pub run_pos : (k f n d : ℕ) → n ≤ k * f → d < n → 0 < f
run_pos k f n d hn hd = lt_of_mul-lt-mul_left k (omega arith)

pub run_point : (k f n d : ℕ) → n ≤ k * f → d < n → d / f < k
run_point k f n d hn hd = (div-lt_iff_lt-mul (run_pos k f n d hn hd)).1 (lt_of_lt_of_le hd hn)

-- ---- run after run

-- byte m of the content, as the code writes it
abbrev pub byte_of : (k f : ℕ) (rows fragments starts : List ℕ) → ℕ → ℕ
byte_of k f rows fragments starts m = sum_at k (λ j. get_or rows (m / f * k + j) 0) fragments starts (m % f)

-- byte q of run i, which the run's row weighs
pub run_byte : (k f i q : ℕ) (rows row fragments starts : List ℕ) → q < f → ((j : ℕ) → j < k → get_or row j 0 ≡ get_or rows (i * k + j) 0)
    → sum_at k (λ j. get_or row j 0) fragments starts q ≡ byte_of k f rows fragments starts (i * f + q)
unfolding sum_at
run_byte k f i q rows row fragments starts h are =
    let byte : ℕ → ℕ → ℕ = λ i. sum_at k (λ j. get_or rows (i * k + j) 0) fragments starts in
    let whole : i * f % f ≡ 0 = mul-mod_left i f in
    let run : i * f / f ≡ i = mul-div_cancel i (omega arith) in
    sum_to_ext k (λ j. times (byte_at fragments starts q j) (get_or row j 0)) (λ j. times (byte_at fragments starts q j) (get_or rows (i * k + j) 0))
    (λ j b. ap (times (byte_at fragments starts q j)) (are j b))
    ∙ ap₂ byte (sym (run-div f (i * f) q whole h ∙ run)) (sym (run-mod f (i * f) q whole h))

-- ---- the rows

-- weight j of row i stands at i * k + j
pub row-entry : (points xs pad : List ℕ) (k i j : ℕ) → i < k → j < k → get_or (weight_rows points k xs ++ pad) (i * k + j) 0 ≡ weight_of xs (get_or points i 0) j
unfolding weight_rows point_of
row-entry points xs pad k i j hi hj =
    let pos : 0 < k = omega arith in
    let here : i * k + j < k * k = omega (arith, mul-le-mul_right k hi, suc-mul i k) in
    let run : (i * k + j) / k ≡ i = mul-add-div_right pos i j ∙ ap (λ (x : ℕ). i + x) (div-eq_of_lt hj) ∙ add-zero i in
    let place : (i * k + j) % k ≡ j = mul-add-mod_self_right i k j ∙ mod-eq_of_lt hj in
    let back : i + 1 - 1 ≡ i = omega arith in
    get_or-append (weight_rows points k xs) pad 0 (i * k + j) (subst (λ (n : ℕ). i * k + j < n) (sym (length-table (k * k) _)) here)
    ∙ get_or-table (k * k) _ (i * k + j) 0 here
    ∙ ap₂ (λ (x y : ℕ). weight_of xs (get_or points (x + 1 - 1) 0) y) run place
    ∙ ap (λ (x : ℕ). weight_of xs (get_or points x 0) j) back

-- with the weights of the points given, each byte is the value at its run's point
pub weighed_rebuilt : (k f n : ℕ) (rows points given fragments starts : List ℕ) → n ≤ k * f → k ≤ length given → AllDifferent k given
    → ((j : ℕ) → get_or given j 0 < 256) → ((j : ℕ) → get_or points j 0 < 256) → ((j : ℕ) → get_or fragments j 0 < 256)
    → ((i j : ℕ) → i < k → j < k → get_or rows (i * k + j) 0 ≡ weight_of (take k given) (get_or points i 0) j)
    → weighed_of k f n rows fragments starts ≡ rebuilt_of k f n points given fragments starts
unfolding weighed_of rebuilt_of
weighed_rebuilt k f n rows points given fragments starts hn kl d sg sp small are =
    table_ext n (byte_of k f rows fragments starts) (λ m. get_or (value_from k f given fragments starts (get_or points (m / f) 0)) (m % f) 0)
    (λ m h.
    let i : ℕ = m / f in
    let z : ℕ = get_or points i 0 in
    let hi : i < k = run_point k f n m hn h in
    sum_through k (λ j. get_or rows (i * k + j) 0) (weight_of (take k given) z) fragments starts given z (m % f) (weigh k given kl sg d z (sp i))
    (λ j b. are i j hi b) small
    ∙ sym (get_or-table f _ (m % f) 0 (mod-lt m (run_pos k f n m hn h))))

-- points and starts matter only for the first k
pub rebuilt_as : (k f n : ℕ) (points given other fragments starts others : List ℕ) → n ≤ k * f → take k given ≡ take k other
    → ((j : ℕ) → j < k → get_or starts j 0 ≡ get_or others j 0)
    → rebuilt_of k f n points given fragments starts ≡ rebuilt_of k f n points other fragments others
unfolding rebuilt_of
rebuilt_as k f n points given other fragments starts others hn eg es =
    table_ext n (λ m. get_or (value_from k f given fragments starts (get_or points (m / f) 0)) (m % f) 0)
    (λ m. get_or (value_from k f other fragments others (get_or points (m / f) 0)) (m % f) 0)
    (λ m h.
    let q : ℕ = m % f in
    let z : ℕ = get_or points (m / f) 0 in
    let inside : q < f = mod-lt m (run_pos k f n m hn h) in
    get_or-table f _ q 0 inside
    ∙ ap₂ (λ (u v : List ℕ). through bytes u v z) eg
    (table_ext k (byte_at fragments starts q) (byte_at fragments others q) (λ j b. ap (λ (x : ℕ). get_or fragments (x + q) 0) (es j b)))
    ∙ sym (get_or-table f _ q 0 inside))

-- fragments that stand one after the other begin at multiples of their length
pub weighed-bytes : (k f n : ℕ) (rows fragments starts : List ℕ) → f ≡ fragment_size_def k n → ((j : ℕ) → j < k → get_or starts j 0 ≡ j * f)
    → weighed_of k f n rows fragments starts ≡ weighed_bytes k n rows fragments
unfolding weighed_of weighed_bytes sum_at
weighed-bytes k f n rows fragments starts e es =
    table_ext n (byte_of k f rows fragments starts) (λ m. sum_to k (λ j. times (get_or fragments (j * f + m % f) 0) (get_or rows (m / f * k + j) 0)))
    (λ m h.
    sum_to_ext k (λ j. times (byte_at fragments starts (m % f) j) (get_or rows (m / f * k + j) 0))
    (λ j. times (get_or fragments (j * f + m % f) 0) (get_or rows (m / f * k + j) 0))
    (λ j b. ap (λ (x : ℕ). times (get_or fragments (x + m % f) 0) (get_or rows (m / f * k + j) 0)) (es j b)))
    ∙ ap (λ (x : ℕ). table n (λ m. sum_to k (λ j. times (get_or fragments (j * x + m % x) 0) (get_or rows (m / x * k + j) 0)))) e

-- only the first k * k bytes of rows count
pub rows-counted : (k n : ℕ) (rows others fragments : List ℕ) → 0 < k → ((i : ℕ) → i < k * k → get_or rows i 0 ≡ get_or others i 0)
    → weighed_bytes k n rows fragments ≡ weighed_bytes k n others fragments
unfolding weighed_bytes
rows-counted k n rows others fragments pos same =
    let f : ℕ = fragment_size_def k n in
    let byte : List ℕ → ℕ → ℕ = λ l m. sum_to k (λ j. times (get_or fragments (j * f + m % f) 0) (get_or l (m / f * k + j) 0)) in
    table_ext n (byte rows) (byte others)
    (λ m h.
    let i : ℕ = m / f in
    let run : i < k = run-lt k n m h pos in
    sum_to_ext k (λ j. times (get_or fragments (j * f + m % f) 0) (get_or rows (i * k + j) 0))
    (λ j. times (get_or fragments (j * f + m % f) 0) (get_or others (i * k + j) 0))
    (λ j b. ap (times (get_or fragments (j * f + m % f) 0)) (same (i * k + j) (omega (arith, b, mul-le-mul_right k run, suc-mul i k)))))
