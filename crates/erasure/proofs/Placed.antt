-- At each place a sum of weights times bytes is the value of the polynomial through the runs' bytes, and at a run's own point it is the run's
-- byte: so a value is made by weights that `Weighed` shows right, and a plain run by a copy. Nothing is assumed.
use mathlib.Core.Path.{◌≡◌, sym, ap, ap₂, subst, ◌∙◌}
use mathlib.Core.List.{List, ◌++◌}
use Prim.Native.Nat.{ℕ, suc, zero, ◌+◌, ◌-◌, ◌*◌, ◌<◌, ◌≤◌}
use native.Mathlib.Nat.{zero-add, mul-le-mul_right, suc-mul}
use native.Mathlib.Decide.{dec_lt}
use native.Mathlib.Omega.{arith}
use lib.ListN.{length, get_or, take, drop, get_or-eq_default, replicate, length-replicate, get_or-replicate}
use lib.Seq.{length-take-le, get_or-take}
use Rattle.gf256.specs.Gf.{times}
use Rattle.gf256.specs.Poly.{through}
use Rattle.gf256.specs.Bytes.{bytes}
use Rattle.gf256.proofs.Byte.{through-value}
use Rattle.erasure.specs.Fragments.{table, fragment_size_def}
use Rattle.erasure.specs.System.{width, AllDifferent, Weighs}
use Rattle.erasure.specs.Lanes.{byte_at, sum_at, RunWritten, value_from, plain_of}
use Rattle.erasure.proofs.Laws.{runs-most}
use Rattle.erasure.proofs.Lists.{length-table, get_or-table, table_is, small_of, distinct_of, written_as, written_first}
use Rattle.erasure.proofs.Sums.{sum_to_ext}

pub table_ext : (n : ℕ) (g h : ℕ → ℕ) → ((i : ℕ) → i < n → g i ≡ h i) → table n g ≡ table n h
table_ext n g h e = table_is n (table n g) h (length-table n g) (λ i b. get_or-table n g i 0 b ∙ e i b)

-- ---- where the plain runs stand

-- they do not end far past the content
pub plain_end : (k n j : ℕ) → k ≤ width → j < k → j * fragment_size_def k n + fragment_size_def k n ≤ n + width
plain_end k n j kw h =
    let f : ℕ = fragment_size_def k n in
    let up : suc j * f ≤ k * f = mul-le-mul_right f h in
    omega (arith, up, suc-mul j f, runs-most k n (omega arith))

-- ---- one place

pub sum_through : (k : ℕ) (w v : ℕ → ℕ) (src starts xs : List ℕ) (z q : ℕ) → Weighs k xs v z → ((j : ℕ) → j < k → w j ≡ v j)
    → ((j : ℕ) → get_or src j 0 < 256) → sum_at k w src starts q ≡ through bytes (take k xs) (table k (byte_at src starts q)) z
unfolding sum_at
sum_through k w v src starts xs z q weighs e small =
    sum_to_ext k (λ j. times (byte_at src starts q j) (w j)) (λ j. times (byte_at src starts q j) (v j))
    (λ j h. ap (times (byte_at src starts q j)) (e j h))
    ∙ weighs (byte_at src starts q) (λ j. small (get_or starts j 0 + q))

-- at the j-th of k different points the polynomial has the j-th value
pub value_at : (k : ℕ) (xs : List ℕ) (y : ℕ → ℕ) → k ≤ length xs → ((i : ℕ) → i < k → get_or xs i 0 < 256) → ((i : ℕ) → y i < 256) → AllDifferent k xs
    → (j : ℕ) → j < k → through bytes (take k xs) (table k y) (get_or xs j 0) ≡ y j
value_at k xs y kx sx sy d j h =
    let long : length (take k xs) ≡ k = length-take-le k xs kx in
    let below : (i : ℕ) → i < length (take k xs) → i < k = λ i l. subst (λ (n : ℕ). i < n) long l in
    ap (through bytes (take k xs) (table k y)) (sym (get_or-take k xs j 0 h))
    ∙ through-value (take k xs) (table k y)
    (small_of (take k xs) (λ i l. subst (λ (x : ℕ). x < 256) (sym (get_or-take k xs i 0 (below i l))) (sx i (below i l))))
    (small_of (table k y) (λ i l. subst (λ (x : ℕ). x < 256) (sym (get_or-table k y i 0 (subst (λ (n : ℕ). i < n) (length-table k y) l))) (sy i)))
    (length-table k y ∙ sym long)
    (distinct_of (take k xs)
    (λ i m l c e.
    let hm : m < k = below m c in
    let hi : i < k = omega arith in
    d i m hi hm (λ q. omega arith) (sym (get_or-take k xs i 0 hi) ∙ e ∙ get_or-take k xs m 0 hm)))
    j (subst (λ (n : ℕ). j < n) (sym long) h)
    ∙ get_or-table k y j 0 h

-- ---- a fragment

pub drop-zeros : (n f : ℕ) → f ≤ n → drop {A = ℕ} f (replicate n 0) ≡ replicate (n - f) 0
drop-zeros n zero h = let z : n ≡ n - 0 = omega arith in ap (λ (m : ℕ). replicate {A = ℕ} m 0) z
drop-zeros zero (suc f) h = absurd (omega (arith, h))
drop-zeros (suc n) (suc f) h = let z : n - f ≡ suc n - suc f = omega arith in
    drop-zeros n f (omega (arith, h)) ∙ ap (λ (m : ℕ). replicate {A = ℕ} m 0) z

-- the first m bytes of xs, copied to the start of zeros
pub taken : (n m : ℕ) (xs old new : List ℕ) → old ≡ replicate n 0 → m ≤ n → m ≤ length xs → RunWritten old new 0 m (λ i. get_or xs (0 + i) 0)
    → new ≡ take m xs ++ replicate (n - m) 0
taken n m xs old new eo mn mx wr =
    let long : length old ≡ n = ap length eo ∙ length-replicate n 0 in
    written_first old new m (λ i. get_or xs (0 + i) 0) (omega arith) wr
    ∙ ap₂ (λ (u v : List ℕ). u ++ v)
    (sym (table_is m (take m xs) (λ i. get_or xs (0 + i) 0) (length-take-le m xs mx)
    (λ i h. get_or-take m xs i 0 h ∙ ap (λ (x : ℕ). get_or xs x 0) (sym (zero-add i)))))
    (ap (drop m) eo ∙ drop-zeros n m mn)

-- the sums are the value at z
pub made : (k f room z : ℕ) (w v : ℕ → ℕ) (src starts xs old out : List ℕ) → old ≡ replicate room 0 → f ≤ room → Weighs k xs v z
    → ((j : ℕ) → j < k → w j ≡ v j) → ((j : ℕ) → get_or src j 0 < 256) → RunWritten old out 0 f (sum_at k w src starts)
    → out ≡ value_from k f xs src starts z ++ replicate (room - f) 0
made k f room z w v src starts xs old out eo fr weighs e small wr =
    let long : length old ≡ room = ap length eo ∙ length-replicate room 0 in
    let value : ℕ → ℕ = λ q. through bytes (take k xs) (table k (byte_at src starts q)) z in
    written_first old out f value (omega arith)
    (written_as old out 0 f (sum_at k w src starts) value (λ q h. sum_through k w v src starts xs z q weighs e small) wr)
    ∙ ap (λ (u : List ℕ). value_from k f xs src starts z ++ u) (ap (drop f) eo ∙ drop-zeros room f fr)

-- a plain run, of which the first m bytes are there and were copied; past the content's end it is 00h, as the room was
pub copied : (f j m room : ℕ) (content old out : List ℕ) → old ≡ replicate room 0 → f ≤ room → m ≤ f → (m < length content - j * f → m ≡ f)
    → RunWritten old out 0 m (λ i. get_or content (j * f + i) 0) → out ≡ plain_of f j content ++ replicate (room - f) 0
unfolding plain_of
copied f j m room content old out eo fr hm end wr =
    let long : length old ≡ room = ap length eo ∙ length-replicate room 0 in
    written_first old out f (λ q. get_or content (j * f + q) 0) (omega arith)
    (record {
      long = wr.long;
      here = λ i h. entry i h (dec_lt i m);
      below = wr.below;
      above = λ i h. wr.above i (omega arith);
    })
    ∙ ap (λ (u : List ℕ). plain_of f j content ++ u) (ap (drop f) eo ∙ drop-zeros room f fr)
  where
    all : Dec (m < length content - j * f) → (i : ℕ) → i < f → m ≤ i → length content ≤ j * f + i
    all (yes b) i h past = absurd (omega (arith, end b))
    all (no nb) i h past = omega arith

    entry : (i : ℕ) → i < f → Dec (i < m) → get_or out (0 + i) 0 ≡ get_or content (j * f + i) 0
    entry i h (yes b) = wr.here i b
    entry i h (no nb) =
        ap (λ (x : ℕ). get_or out x 0) (zero-add i) ∙ wr.above i (omega arith) ∙ ap (λ (l : List ℕ). get_or l i 0) eo
        ∙ get_or-replicate room i 0 0 (omega arith)
        ∙ sym (get_or-eq_default content 0 (all (dec_lt m (length content - j * f)) i h (omega arith)))
