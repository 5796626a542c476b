-- The rows, one after the other: each is written behind the last, and after the last stand the weights that the definition names. Nothing is assumed.
use mathlib.Core.Path.{◌≡◌, sym, ap, ap₂, subst, ◌∙◌}
use mathlib.Core.List.{List, ◌++◌}
use Rattle.std.proofs.Common.{Option, Some, None}
use Prim.Native.Nat.{ℕ, ◌+◌, ◌-◌, ◌*◌, ◌/◌, ◌%◌, ◌<◌, ◌≤◌}
use native.Mathlib.Nat.{mod-lt, mul-le-mul, mul-le-mul_right, mul-mod_left, mul-div_cancel, suc-mul, div-lt_iff_lt-mul}
use native.Mathlib.Numerals.{add-one}
use native.Mathlib.Omega.{arith}
use lib.ListN.{length, get_or, take, drop, replicate, length-replicate}
use Rattle.cluster.specs.Config.{point_of}
use Rattle.erasure.specs.System.{width, AllDifferent, Solves}
use Rattle.erasure.specs.Lanes.{RunWritten}
use Rattle.erasure.specs.Standing.{weight_in}
use Rattle.erasure.specs.Weights.{weight_of, weight_rows, rows_room}
use Rattle.erasure.proofs.Lists.{written_next, written_as, written_first}
use Rattle.erasure.proofs.Placed.{table_ext, drop-zeros}
use Rattle.erasure.proofs.Rebuilt.{run-div, run-mod}
use Rattle.erasure.proofs.Units.{row_is}

-- a row stands in the room for all
pub row_below : (k i : ℕ) → k ≤ width → i < k → i * k + k ≤ rows_room
row_below k i kw h =
    let one : i * k + k ≤ k * k = omega (arith, mul-le-mul_right k h, suc-mul i k) in
    let all : k * k ≤ rows_room = mul-le-mul {n₁ = k} {m₁ = k} {n₂ = width} {m₂ = width} kw kw in
    omega (arith, one, all)

-- weight m of all, as the code makes it
abbrev pub made_at : (k : ℕ) (a : List (List ℕ)) (places : List (Option ℕ)) (points : List ℕ) → ℕ → ℕ
made_at k a places points m = weight_in k a (get_or places (m / k) None) (get_or points (m / k) 0) (m % k)

-- one row more
pub row_more : (k i : ℕ) (a : List (List ℕ)) (places : List (Option ℕ)) (points row old mid new : List ℕ) → i < k
    → ((j : ℕ) → j < k → get_or row j 0 ≡ weight_in k a (get_or places i None) (get_or points i 0) j) → RunWritten old mid 0 (i * k) (made_at k a places points)
    → RunWritten mid new (i * k) k (λ j. get_or row j 0) → RunWritten old new 0 ((i + 1) * k) (made_at k a places points)
row_more k i a places points row old mid new h are before piece =
    let d : ℕ = i * k in
    let whole : d % k ≡ 0 = mul-mod_left i k in
    let at : d / k ≡ i = mul-div_cancel i (omega arith) in
    let byte : ℕ → ℕ → ℕ = λ x. weight_in k a (get_or places x None) (get_or points x 0) in
    subst (λ (x : ℕ). RunWritten old new 0 x (made_at k a places points)) (omega (arith, suc-mul i k, ap (λ (x : ℕ). x * k) (add-one i)))
    (written_next old mid new d k (made_at k a places points) before
    (written_as mid new d k (λ j. get_or row j 0) (λ j. made_at k a places points (d + j))
    (λ j b.
    are j b
    ∙ ap₂ byte (sym (run-div k d j whole b ∙ at)) (sym (run-mod k d j whole b)))
    piece))

-- after the last
pub rows_made : (k : ℕ) (a : List (List ℕ)) (places : List (Option ℕ)) (points given old new : List ℕ) → old ≡ replicate rows_room 0 → 1 ≤ k → k ≤ width → k ≤ length given
    → AllDifferent k given → ((j : ℕ) → get_or given j 0 < 256) → ((j : ℕ) → get_or points j 0 < 256)
    → ((i p : ℕ) → i < k → get_or places i None ≡ Some p → (p < k) × (get_or given p 0 ≡ get_or points i 0))
    → ((i : ℕ) → i < k → get_or places i None ≡ None → Solves k given a) → RunWritten old new 0 (k * k) (made_at k a places points)
    → new ≡ weight_rows points k (take k given) ++ replicate (rows_room - k * k) 0
unfolding weight_rows point_of
rows_made k a places points given old new eo pos kw kg d sg sp stands solved wr =
    let fits : k * k ≤ rows_room = mul-le-mul {n₁ = k} {m₁ = k} {n₂ = width} {m₂ = width} kw kw in
    let long : length old ≡ rows_room = ap length eo ∙ length-replicate {A = ℕ} rows_room 0 in
    written_first old new (k * k) (made_at k a places points) (omega (arith, fits, long)) wr
    ∙ ap₂ (λ (u v : List ℕ). u ++ v)
    (table_ext (k * k) (made_at k a places points) (λ m. weight_of (take k given) (get_or points (m / k + 1 - 1) 0) (m % k))
    (λ m h.
    let i : ℕ = m / k in
    let hi : i < k = (div-lt_iff_lt-mul pos).1 h in
    let back : i ≡ i + 1 - 1 = omega arith in
    row_is k given kg sg d (get_or points i 0) (sp i) a (get_or places i None) (λ p. stands i p hi) (solved i hi) (m % k) (mod-lt m pos)
    ∙ ap (λ (x : ℕ). weight_of (take k given) (get_or points x 0) (m % k)) back))
    (ap (drop (k * k)) eo ∙ drop-zeros rows_room (k * k) fits)
