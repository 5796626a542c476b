-- Restoring is a sum of weights times given bytes, and the weights depend only on which servers are named (document 02, W-203). Weights are refused
-- as restoring is, but for what restoring asks of lengths; where restoring accepts, each byte is the sum that its run's row weighs, since the weights
-- of k different points give the polynomial through the k bytes given at its place. So the weights, made once, and the fragments of the servers used
-- give what restoring gives. Nothing is assumed.
use mathlib.Core.Path.{◌≡◌, sym, ap, ap₂, subst, ◌∙◌}
use mathlib.Core.Bool.{Bool, false, not, cond}
use mathlib.Core.List.{List, ◌++◌, map}
use Prim.Native.Nat.{ℕ, suc, ◌+◌, ◌-◌, ◌*◌, ◌/◌, ◌%◌, ◌<◌, ◌≤◌}
use native.Mathlib.Nat.{mod-lt, mul-le-mul_right, suc-mul}
use native.Mathlib.Omega.{arith}
use borrow.Author.Tests.{le-ltb, eq-eqb}
use lib.Dec.{eqb, ltb}
use lib.ListN.{length, get_or, take, drop, length-map, length-drop, replicate, get_or-append}
use lib.Seq.{length-take-le, get_or-take, get_or-drop, take-length, take_at}
use Rattle.gf256.specs.Gf.{times}
use Rattle.gf256.specs.Poly.{through}
use Rattle.gf256.specs.Bytes.{bytes}
use Rattle.cluster.specs.Config.{shelf, point_of, Legal}
use Rattle.cluster.specs.Ranges.{within, top_length, top_faults, content_room}
use Rattle.cluster.specs.declared.Outcome.{Outcome}
use Rattle.cluster.proofs.Legal.{legal-shelf}
use Rattle.cluster.proofs.Tests.{within_in}
use Rattle.erasure.specs.Weights.{WeightsOutcome}
use Rattle.erasure.specs.Fragments.{table, fragment_size_def, Part, restored}
use Rattle.erasure.specs.Choice.{servers_at, first_different, parts_at}
use Rattle.erasure.specs.Steps.{each, argument_checks, restore_refusal_def, restored_bytes, restore_step}
use Rattle.erasure.specs.System.{width, sum_to, AllDifferent}
use Rattle.erasure.specs.Weights.{weight_of, weights_checks, weights_refusal_def, used_servers, used_weights, rows_room, weights_step}
use Rattle.erasure.specs.Weights.{weighed_refusal_def, weighed_bytes, weighed_step}
use Rattle.erasure.proofs.Lists.{get_or-table, get_d_map, map-map, table_is}
use Rattle.erasure.proofs.Laws.{size_pos, run-lt, restored-length}
use Rattle.erasure.proofs.Sums.{sum_to_ext}
use Rattle.erasure.proofs.Units.{weigh}
use Rattle.erasure.proofs.Rebuilt.{row-entry}
use Rattle.erasure.proofs.WeightTests.{weights-accepted, weighed_tests, weighed-accepted}
use Rattle.erasure.proofs.Choosing.{chosen-different, chosen-lt, chosen-most}
use Rattle.erasure.proofs.Refused.{Restores, restores}
use Rattle.erasure.proofs.Chosen.{restore-accepted, none-refused, not-few, points-differ, points-small}
use Rattle.erasure.proofs.Round.{joined, length-joined, piece}

-- ---- the refusals are the same

-- where nothing is said against the content's length, the room and the fragments' length, restoring and the weights are refused with one number
pub same-refusal : (t n : ℕ) (servers : List ℕ) (given room : ℕ) → n ≤ top_length → content_room ≤ room
    → given ≡ length servers * fragment_size_def (shelf t).threshold n → restore_refusal_def t n servers given room ≡ weights_refusal_def t servers
unfolding restore_refusal_def argument_checks weights_refusal_def weights_checks
same-refusal t n servers given room short fits whole =
    let k : ℕ = (shelf t).threshold in
    let faults : Bool = not (within 1 top_faults t) in
    let outside : Bool = not (each (within 1 (shelf t).servers) servers) in
    let few : ℕ = cond (ltb (length (first_different k servers)) k) 16 0 in
    let c : ltb top_length n ≡ false = le-ltb top_length n short in
    let d : ltb room content_room ≡ false = le-ltb room content_room fits in
    let e : not (eqb given (length servers * fragment_size_def k n)) ≡ false = ap not (eq-eqb given (length servers * fragment_size_def k n) whole) in
    λ i. cond faults 3 (cond outside 4 (cond (c i) 6 (cond (d i) 15 (cond (e i) 16 few))))

-- ---- where restoring accepts

module _ (t n : ℕ) (servers fragments output : List ℕ) (accepts : restore_refusal_def t n servers (length fragments) (length output) ≡ 0) where
  abbrev k : ℕ
  k = (shelf t).threshold

  abbrev f : ℕ
  f = fragment_size_def k n

  asked : Restores t n servers (length fragments) (length output)
  asked = restores t n servers (length fragments) (length output) (none-refused t n servers fragments output accepts)

  none_applies : weights_refusal_def t servers ≡ 0
  none_applies = sym (same-refusal t n servers (length fragments) (length output) asked.bytes asked.fits asked.whole) ∙ accepts

  -- ---- the servers used are k different ones

  abbrev points : List ℕ
  points = (shelf t).points

  legal : Legal (shelf t)
  legal = legal-shelf t asked.faults.0 asked.faults.1

  k_pos : 0 < k
  unfolding shelf
  k_pos = omega arith

  -- where they stand
  abbrev places : List ℕ
  places = first_different k servers

  long : length places ≡ k
  unfolding first_different
  long = omega (arith, not-few t n servers fragments output accepts, chosen-most k servers (length servers))

  place-lt : (j : ℕ) → j < k → get_or places j 0 < length servers
  unfolding first_different
  place-lt j h = chosen-lt k servers (length servers) j (omega (arith, h, long))

  abbrev used : List ℕ
  used = servers_at servers places

  many : length used ≡ k
  many = length-map places (λ p. get_or servers p 0) ∙ long

  -- the weights are accepted, and are of k servers, which they tell
  pub weights-serve : ((weights_step t servers).number ≡ 0) × ((weights_step t servers).count ≡ (shelf t).threshold)
      × (take (shelf t).threshold (weights_step t servers).servers ≡ servers_at servers (first_different (shelf t).threshold servers))
  unfolding used_servers
  weights-serve =
      let e = weights-accepted t servers none_applies in (
        ap (λ (w : WeightsOutcome). w.number) e,
        ap (λ (w : WeightsOutcome). w.count) e,
        ap (λ (w : WeightsOutcome). take k w.servers) e ∙ take_at used (replicate (width - k) 0) k many,
      )

  -- their points
  xs : List ℕ
  xs = map (point_of points) used

  xs-long : length xs ≡ k
  unfolding xs
  xs-long = length-map used (point_of points) ∙ many

  xs-differ : AllDifferent k xs
  unfolding xs first_different
  xs-differ =
      points-differ k points used xs legal.apart
      (λ i j hi hj ne. chosen-different k servers (length servers) i j (omega (arith, hi, many)) (omega (arith, hj, many)) ne)
      (λ j h.
      let r = asked.numbers (get_or places j 0) (place-lt j h) in
      subst (λ (x : ℕ). (1 ≤ x) × (x ≤ length points)) (sym (get_d_map (λ p. get_or servers p 0) places j 0 0 (omega (arith, h, long))))
      (r.0, omega (arith, r.1, legal.table)))
      (λ j h. get_d_map (point_of points) used j 0 0 (omega (arith, h, many)))

  first_xs : take k xs ≡ xs
  first_xs = ap (λ (m : ℕ). take m xs) (sym xs-long) ∙ take-length xs

  abbrev rows : List ℕ
  rows = (weights_step t servers).rows

  row_at : (i j : ℕ) → i < k → j < k → get_or rows (i * k + j) 0 ≡ weight_of xs (get_or points i 0) j
  unfolding used_weights used_servers xs
  row_at i j hi hj =
      ap (λ (w : WeightsOutcome). get_or w.rows (i * k + j) 0) (weights-accepted t servers none_applies)
      ∙ row-entry points xs (replicate (rows_room - k * k) 0) k i j hi hj

  -- ---- their fragments

  abbrev piece_at : ℕ → List ℕ
  piece_at p = take f (drop (p * f) fragments)

  abbrev byte_at : ℕ → ℕ → ℕ
  byte_at q j = get_or fragments (get_or places j 0 * f + q) 0

  taken : (p q : ℕ) → q < f → get_or (piece_at p) q 0 ≡ get_or fragments (p * f + q) 0
  taken p q h = get_or-take f (drop (p * f) fragments) q 0 h ∙ get_or-drop (p * f) fragments q 0

  part : ℕ → Part
  part p = record { server = get_or servers p 0; bytes = piece_at p }

  first-parts : take k (map part places) ≡ map part places
  first-parts = ap (λ (m : ℕ). take m (map part places)) (sym (length-map places part ∙ long)) ∙ take-length (map part places)

  bytes_at_lem : (q : ℕ) → q < f → map (λ p. get_or p.bytes q 0) (map part places) ≡ table k (byte_at q)
  unfolding part
  bytes_at_lem q h =
      let g : ℕ → ℕ = λ p. get_or (piece_at p) q 0 in
      map-map (λ p. get_or p.bytes q 0) part places
      ∙ table_is k (map g places) (byte_at q) (length-map places g ∙ long)
      (λ j b. get_d_map g places j 0 0 (omega (arith, b, long)) ∙ taken (get_or places j 0) q h)

  -- ---- each byte

  module _ (small : (i : ℕ) → get_or fragments i 0 < 256) where
    byte : (m : ℕ) → m < n
        → get_or (restored_bytes t n servers fragments) m 0 ≡ sum_to k (λ j. times (byte_at (m % f) j) (get_or rows (m / f * k + j) 0))
    unfolding restored_bytes restored parts_at part xs point_of
    byte m h =
        let i : ℕ = m / f in
        let q : ℕ = m % f in
        let z : ℕ = get_or points i 0 in
        let inside : q < f = mod-lt m (size_pos k n (omega arith) k_pos) in
        let back : i + 1 - 1 ≡ i = omega arith in
        get_or-table n _ m 0 h
        ∙ ap₂ (λ (u v : List ℕ). through bytes u v (point_of points (i + 1)))
        (ap (map (λ p. point_of points p.server)) first-parts ∙ map-map (λ p. point_of points p.server) part places
        ∙ sym (map-map (point_of points) (λ p. get_or servers p 0) places) ∙ sym first_xs)
        (ap (map (λ p. get_or p.bytes q 0)) first-parts ∙ bytes_at_lem q inside)
        ∙ ap (λ (x : ℕ). through bytes (take k xs) (table k (byte_at q)) (get_or points x 0)) back
        ∙ sym (weigh k xs (omega (arith, xs-long)) (points-small points used legal.apart) xs-differ z (legal.apart.bytes i) (byte_at q)
        (λ j. small (get_or places j 0 * f + q)))
        ∙ sum_to_ext k (λ j. times (byte_at q j) (weight_of (take k xs) z j)) (λ j. times (byte_at q j) (get_or rows (i * k + j) 0))
        (λ j b. ap (times (byte_at q j)) (ap (λ (l : List ℕ). weight_of l z j) first_xs ∙ sym (row_at i j (run-lt k n m h k_pos) b)))

    restored-long : length (restored_bytes t n servers fragments) ≡ n
    unfolding restored_bytes
    restored-long = restored-length points k n (parts_at f servers fragments places)

    -- byte m of the content is the sum, over the fragments used, of their byte at its place, times the weight in its run's row
    pub each-byte : (m : ℕ) → m < n → get_or (restore_step t n servers fragments output).1 m 0
        ≡ sum_to k (λ j. times (get_or fragments (get_or (first_different k servers) j 0 * f + m % f) 0) (get_or (weights_step t servers).rows (m / f * k + j) 0))
    each-byte m h =
        ap (λ (r : Outcome × List ℕ). get_or r.1 m 0) (restore-accepted t n servers fragments output accepts)
        ∙ get_or-append (restored_bytes t n servers fragments) (drop n output) 0 m (subst (λ (x : ℕ). m < x) (sym restored-long) h)
        ∙ byte m h

    -- ---- by the weights and the fragments used alone

    -- the fragments used, one after the other
    abbrev used_fragments : List ℕ
    used_fragments = joined (map (λ p. take f (drop (p * f) fragments)) (first_different k servers))

    pieces-long : (i : ℕ) → i < length places → length (piece_at (get_or places i 0)) ≡ f
    pieces-long i b =
        let p : ℕ = get_or places i 0 in
        let up : suc p * f ≤ length servers * f = mul-le-mul_right f (place-lt i (omega (arith, b, long))) in
        length-take-le f (drop (p * f) fragments) (omega (arith, length-drop (p * f) fragments, up, suc-mul p f, asked.whole))

    used-byte : (j q : ℕ) → j < k → q < f → byte_at q j ≡ get_or used_fragments (j * f + q) 0
    used-byte j q hj hq =
        sym (sym (get_or-drop (j * f) used_fragments q 0) ∙ sym (get_or-take f (drop (j * f) used_fragments) q 0 hq)
        ∙ ap (λ (l : List ℕ). get_or l q 0) (piece f piece_at places pieces-long j (omega (arith, hj, long))) ∙ taken (get_or places j 0) q hq)

    sums-accepted : weighed_refusal_def t n (length used_fragments) (length output) ≡ 0
    sums-accepted =
        weighed_tests t n (length used_fragments) (length output) false false false false
        (ap not (within_in 1 top_faults t asked.faults.0 asked.faults.1)) (le-ltb top_length n asked.bytes)
        (le-ltb (length output) content_room asked.fits)
        (ap not (eq-eqb (length used_fragments) (k * f) (length-joined f piece_at places pieces-long ∙ ap (λ (x : ℕ). x * f) long)))

    bytes_are : restored_bytes t n servers fragments ≡ weighed_bytes k n rows used_fragments
    unfolding weighed_bytes
    bytes_are =
        table_is n (restored_bytes t n servers fragments) _ restored-long
        (λ m h.
        let weight : ℕ → ℕ = λ j. get_or rows (m / f * k + j) 0 in
        byte m h
        ∙ sum_to_ext k (λ j. times (byte_at (m % f) j) (weight j)) (λ j. times (get_or used_fragments (j * f + m % f) 0) (weight j))
        (λ j b. ap (λ (x : ℕ). times x (weight j)) (used-byte j (m % f) b (mod-lt m (size_pos k n (omega arith) k_pos)))))

    -- restoring is restoring by the weights of the servers named, from the fragments of those used
    pub same_as_restoring : restore_step t n servers fragments output
        ≡ weighed_step t n (weights_step t servers).rows (joined (map (λ p. take f (drop (p * f) fragments)) (first_different k servers))) output
    same_as_restoring =
        restore-accepted t n servers fragments output accepts
        ∙ ap (λ (l : List ℕ). (record { number = 0; count = n }, l ++ drop n output)) bytes_are
        ∙ sym (weighed-accepted t n rows used_fragments output sums-accepted)
