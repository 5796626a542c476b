-- What restoring answers, in terms of what the code chose and rebuilt: the chosen places hold the first k different servers, so the runs that
-- the code adds up are the parts that the definition takes. Nothing is assumed.
use mathlib.Core.Path.{◌≡◌, refl, sym, ap, ap₂, subst, ◌∙◌}
use mathlib.Core.Logic.{◌≢◌}
use mathlib.Core.Bool.{Bool, cond}
use mathlib.Core.List.{List, [], ◌∷◌, ◌++◌, map}
use Prim.Native.Nat.{ℕ, zero, suc, ◌+◌, ◌-◌, ◌*◌, ◌/◌, ◌%◌, ◌<◌, ◌≤◌}
use native.Mathlib.Nat.{zero-lt-suc, mod-lt, suc-ne-zero, mul-le-mul_right, suc-mul}
use native.Mathlib.Decide.{ℕ_discrete, dec_lt}
use native.Mathlib.Omega.{arith}
use borrow.Author.Tests.{lt-ltb, le-ltb}
use lib.Dec.{ltb}
use lib.ListN.{length, get_or, take, drop, length-map}
use lib.Seq.{length-take-le, get_or-take, get_or-drop, take-length}
use Rattle.gf256.specs.Poly.{through}
use Rattle.gf256.specs.Bytes.{bytes}
use Rattle.cluster.specs.Config.{shelf, point_of, PointTable}
use Rattle.cluster.specs.Refusals.{refuse, first_of, on_refusal}
use Rattle.cluster.specs.declared.Outcome.{Outcome}
use Rattle.cluster.proofs.Tests.{refused_is}
use Rattle.erasure.specs.declared.choice.Chosen.{Chosen}
use Rattle.erasure.specs.Fragments.{table, fragment_size_def, Part, restored}
use Rattle.erasure.specs.Choice.{servers_at, first_different, parts_at}
use Rattle.erasure.specs.Chosen.{Holds}
use Rattle.erasure.specs.Steps.{argument_checks, restore_refusal_def, restored_bytes, restore_step}
use Rattle.erasure.specs.System.{width, AllDifferent}
use Rattle.erasure.specs.Lanes.{byte_at, rebuilt_of}
use Rattle.erasure.proofs.Lists.{get_or-table, get_d_map, table_is}
use Rattle.erasure.proofs.Laws.{size_pos, take-map}
use Rattle.erasure.proofs.Placed.{table_ext}
use Rattle.erasure.proofs.Choosing.{chosen-different, chosen-lt}
use Rattle.cluster.specs.Ranges.{top_faults}
use Rattle.erasure.proofs.Answers.{Lent}
use Rattle.erasure.proofs.Refused.{first_of_first, first_of_second}

-- ---- the answer by its refusal

module _ (t n : ℕ) (servers fragments output : List ℕ) where
  abbrev arguments : ℕ
  arguments = first_of (argument_checks t n servers (length fragments) (length output))

  -- too few different servers
  abbrev few : Bool
  few = ltb (length (first_different (shelf t).threshold servers)) (shelf t).threshold

  pub restore-refused : (x : ℕ) → restore_refusal_def t n servers (length fragments) (length output) ≡ x → x ≢ 0
      → restore_step t n servers fragments output ≡ (record { number = x; count = 0 }, output)
  unfolding restore_step
  restore-refused x e h =
      let done : Outcome × List ℕ = (record { number = 0; count = n }, restored_bytes t n servers fragments ++ drop n output) in
      let refused : ℕ → Outcome × List ℕ = λ y. (record { number = y; count = 0 }, output) in
      ap (λ (y : ℕ). on_refusal y done (refused y)) e ∙ refused_is x done (refused x) h

  pub restore-accepted : restore_refusal_def t n servers (length fragments) (length output) ≡ 0
      → restore_step t n servers fragments output ≡ (record { number = 0; count = n }, restored_bytes t n servers fragments ++ drop n output)
  unfolding restore_step
  restore-accepted e =
      let done : Outcome × List ℕ = (record { number = 0; count = n }, restored_bytes t n servers fragments ++ drop n output) in
      ap (λ (y : ℕ). on_refusal y done (record { number = y; count = 0 }, output)) e

  pub refused_arguments : (x : ℕ) → x ≡ arguments → x ≢ 0 → restore_refusal_def t n servers (length fragments) (length output) ≡ x
  unfolding restore_refusal_def
  refused_arguments x e h = first_of_first (argument_checks t n servers (length fragments) (length output)) _ (λ q. h (e ∙ q)) ∙ sym e

  accepted_arguments : arguments ≡ 0 → restore_refusal_def t n servers (length fragments) (length output) ≡ cond few 16 0
  unfolding restore_refusal_def argument_checks
  accepted_arguments e =
      first_of_second (argument_checks t n servers (length fragments) (length output)) (refuse 16 few ∷ [])
      (suc-ne-zero 2, (suc-ne-zero 3, (suc-ne-zero 5, (suc-ne-zero 14, (suc-ne-zero 15, tt))))) e

  pub refused-few : arguments ≡ 0 → length (first_different (shelf t).threshold servers) < (shelf t).threshold
      → restore_refusal_def t n servers (length fragments) (length output) ≡ 16
  refused-few e h = accepted_arguments e ∙ ap (λ (b : Bool). cond b 16 0) (lt-ltb (length (first_different (shelf t).threshold servers))
      (shelf t).threshold h)

  pub refused_none : arguments ≡ 0 → (shelf t).threshold ≤ length (first_different (shelf t).threshold servers)
      → restore_refusal_def t n servers (length fragments) (length output) ≡ 0
  refused_none e h = accepted_arguments e ∙ ap (λ (b : Bool). cond b 16 0) (le-ltb (length (first_different (shelf t).threshold servers))
      (shelf t).threshold h)

  -- where restoring accepts, no test applies
  pub none-refused : restore_refusal_def t n servers (length fragments) (length output) ≡ 0 → arguments ≡ 0
  none-refused accepts = go (ℕ_discrete arguments 0)
    where
      go : Dec (arguments ≡ 0) → arguments ≡ 0
      go (yes e) = e
      go (no ne) = absurd (ne (sym (refused_arguments arguments refl ne) ∙ accepts))

  pub not-few : restore_refusal_def t n servers (length fragments) (length output) ≡ 0
      → (shelf t).threshold ≤ length (first_different (shelf t).threshold servers)
  not-few accepts = go (dec_lt (length (first_different (shelf t).threshold servers)) (shelf t).threshold)
    where
      go : Dec (length (first_different (shelf t).threshold servers) < (shelf t).threshold)
          → (shelf t).threshold ≤ length (first_different (shelf t).threshold servers)
      go (yes h) = absurd (suc-ne-zero 15 (sym (refused-few (none-refused accepts) h) ∙ accepts))
      go (no nh) = omega arith

-- ---- what was chosen

module _ (k : ℕ) (servers : List ℕ) (c : Chosen) (h : Holds k servers (first_different k servers) c) (kw : k ≤ width) (la : length c.at ≡ width)
    (ls : length c.servers ≡ width) where
  places : List ℕ
  places = first_different k servers

  -- the places are as many as the code counted
  pub counted : length (first_different k servers) ≡ c.count
  counted = ap length (sym h.places_is) ∙ length-take-le c.count c.at (omega (arith, h.room))

  module _ (full : k ≤ c.count) where
    count_is : c.count ≡ k
    count_is = omega (arith, h.room)

    places_at : take k c.at ≡ places
    unfolding places
    places_at = ap (λ (n : ℕ). take n c.at) (sym count_is) ∙ h.places_is

    servers_at_lem : take k c.servers ≡ servers_at servers places
    unfolding places
    servers_at_lem = ap (λ (n : ℕ). take n c.servers) (sym count_is) ∙ h.servers_is

    long : length places ≡ k
    unfolding places
    long = counted ∙ count_is

    place_is : (j : ℕ) → j < k → get_or places j 0 ≡ get_or c.at j 0
    place_is j b = ap (λ (l : List ℕ). get_or l j 0) (sym places_at) ∙ get_or-take k c.at j 0 b

    place-lt : (j : ℕ) → j < k → get_or c.at j 0 < length servers
    unfolding places first_different
    place-lt j b = subst (λ (x : ℕ). x < length servers) (place_is j b) (chosen-lt k servers (length servers) j (omega (arith, long)))

    pub differ : AllDifferent k c.servers
    unfolding places first_different
    differ i j hi hj ne e =
        let l : length (servers_at servers places) ≡ k = length-map places (λ p. get_or servers p 0) ∙ long in
        chosen-different k servers (length servers) i j (omega (arith, l)) (omega (arith, l)) ne
        (ap (λ (l : List ℕ). get_or l i 0) (sym servers_at_lem) ∙ get_or-take k c.servers i 0 hi ∙ e ∙ sym (get_or-take k c.servers j 0 hj)
        ∙ ap (λ (l : List ℕ). get_or l j 0) servers_at_lem)

    pub fit : (f given : ℕ) → given ≡ length servers * f → (j : ℕ) → j < k → get_or c.at j 0 * f + f ≤ given
    fit f given w j b =
        let m : suc (get_or c.at j 0) * f ≤ length servers * f = mul-le-mul_right f (place-lt j b) in
        omega (arith, m, suc-mul (get_or c.at j 0) f, w)

    -- a chosen server is one of those given
    server_is : (j : ℕ) → j < k → get_or c.servers j 0 ≡ get_or servers (get_or c.at j 0) 0
    unfolding places
    server_is j b =
        sym (get_or-take k c.servers j 0 b)
        ∙ ap (λ (l : List ℕ). get_or l j 0) servers_at_lem
        ∙ get_d_map (λ p. get_or servers p 0) places j 0 0 (omega (arith, long))
        ∙ ap (λ (p : ℕ). get_or servers p 0) (place_is j b)

    pub number_in : (s : ℕ) → ((i : ℕ) → i < length servers → (1 ≤ get_or servers i 0) × (get_or servers i 0 ≤ s))
        → (j : ℕ) → j < k → (1 ≤ get_or c.servers j 0) × (get_or c.servers j 0 ≤ s)
    number_in s numbers j b =
        subst (λ (x : ℕ). (1 ≤ x) × (x ≤ s)) (sym (server_is j b)) (numbers (get_or c.at j 0) (place-lt j b))

    -- ---- what the code adds up is what the definition takes
    module _ (points : List ℕ) (n : ℕ) (fragments : List ℕ) (kpos : 0 < k) where
      abbrev f : ℕ
      f = fragment_size_def k n

      part : ℕ → Part
      part p = record { server = get_or servers p 0; bytes = take f (drop (p * f) fragments) }

      points_are : (ps : List ℕ) → map (λ p. point_of points p.server) (map part ps) ≡ map (point_of points) (servers_at servers ps)
      unfolding part
      points_are [] = refl
      points_are (p ∷ ps) = ap (λ (xs : List ℕ). point_of points (get_or servers p 0) ∷ xs) (points_are ps)

      parts_at_lem : take k (map part places) ≡ map part places
      parts_at_lem = ap (λ (n : ℕ). take n (map part places)) (sym (length-map places part ∙ long)) ∙ take-length (map part places)

      byte_at_lem : (q : ℕ) → q < f → map (λ p. get_or p.bytes q 0) (map part places) ≡ table k (byte_at fragments (map (λ p. p * f) c.at) q)
      unfolding part
      byte_at_lem q b =
          table_is k (map (λ p. get_or p.bytes q 0) (map part places)) (byte_at fragments (map (λ p. p * f) c.at) q)
          (length-map (map part places) (λ p. get_or p.bytes q 0) ∙ length-map places part ∙ long)
          (λ j h.
          get_d_map (λ p. get_or p.bytes q 0) (map part places) j (part 0) 0 (omega (arith, length-map places part, long))
          ∙ ap (λ (p : Part). get_or p.bytes q 0) (get_d_map part places j 0 (part 0) (omega (arith, long)))
          ∙ get_or-take f (drop (get_or places j 0 * f) fragments) q 0 b ∙ get_or-drop (get_or places j 0 * f) fragments q 0
          ∙ ap (λ (x : ℕ). get_or fragments (x + q) 0)
          (ap (λ (p : ℕ). p * f) (place_is j h) ∙ sym (get_d_map (λ p. p * f) c.at j 0 0 (omega arith))))

      pub rebuilt_is : rebuilt_of k f n points (map (point_of points) c.servers) fragments (map (λ p. p * f) c.at)
          ≡ restored points k n (parts_at f servers fragments (first_different k servers))
      unfolding rebuilt_of restored parts_at part places point_of
      rebuilt_is =
          table_ext n _ _
          (λ m b.
          let q : ℕ = m % f in
          let inside : q < f = mod-lt m (size_pos k n (omega arith) kpos) in
          let run : m / f ≡ m / f + 1 - 1 = omega arith in
          get_or-table f _ q 0 inside
          ∙ sym (ap₂ (λ (u v : List ℕ). through bytes u v (point_of points (m / f + 1)))
          (ap (map (λ p. point_of points p.server)) parts_at_lem ∙ points_are places ∙ ap (map (point_of points)) (sym servers_at_lem)
          ∙ sym (take-map (point_of points) k c.servers))
          (ap (map (λ p. get_or p.bytes q 0)) parts_at_lem ∙ byte_at_lem q inside)
          ∙ ap (λ (i : ℕ). through bytes (take k (map (point_of points) c.servers))
          (table k (byte_at fragments (map (λ p. p * f) c.at) q)) (get_or points i 0)) (sym run)))

-- ---- the shelf's k

pub threshold-is : (t k : ℕ) → k ≡ (shelf t).threshold → k ≡ t + 1
unfolding shelf
threshold-is t k e = e

-- fewer than k are chosen, or enough
pub few_are : (t k count : ℕ) (servers : List ℕ) → k ≡ (shelf t).threshold → length (first_different k servers) ≡ count → count < k
    → length (first_different (shelf t).threshold servers) < (shelf t).threshold
few_are t k count servers e counts h = subst (λ (x : ℕ). length (first_different x servers) < x) e (omega (arith, counts))

pub enough_are : (t k count : ℕ) (servers : List ℕ) → k ≡ (shelf t).threshold → length (first_different k servers) ≡ count → k ≤ count
    → (shelf t).threshold ≤ length (first_different (shelf t).threshold servers)
enough_are t k count servers e counts h = subst (λ (x : ℕ). x ≤ length (first_different x servers)) e (omega (arith, counts))

-- ---- k servers that are chosen, with the table of the shelf

pub record Ready (k : ℕ) (points : List ℕ) (c : Chosen) : Type 0 where
  pub all : c.count ≡ k
  pub some : 1 ≤ c.count
  pub most : c.count ≤ width
  pub there : c.count ≤ length points
  pub table : PointTable points
  pub apart : AllDifferent c.count c.servers
  pub numbers : (j : ℕ) → j < c.count → (1 ≤ get_or c.servers j 0) × (get_or c.servers j 0 ≤ length points)

pub ready : (t k s : ℕ) (servers points : List ℕ) (c : Chosen) → (1 ≤ t) × (t ≤ top_faults)
    → ((i : ℕ) → i < length servers → (1 ≤ get_or servers i 0) × (get_or servers i 0 ≤ (shelf t).servers)) → k ≡ (shelf t).threshold
    → Holds k servers (first_different k servers) c → length c.at ≡ width → length c.servers ≡ width → k ≤ c.count → Lent t s points
    → Ready k (take s points) c
unfolding shelf
ready t k s servers points c faults numbers is h la ls full lent =
    let kw : k ≤ width = omega (arith, is, faults.1) in
    let all : c.count ≡ k = omega (arith, h.room, full) in
    record {
      all = all;
      some = omega (arith, all, is);
      most = omega (arith, all, kw);
      there = omega (arith, all, is, lent.long);
      table = lent.apart;
      apart = λ i j hi hj. differ k servers c h kw la ls full i j (omega (arith, all, hi)) (omega (arith, all, hj));
      numbers = λ j b.
          let r = number_in k servers c h kw la ls full (shelf t).servers numbers j (omega (arith, all, b)) in
          (r.0, omega (arith, r.1, lent.long));
    }

-- the points of different servers are different
pub points-differ : (k : ℕ) (points servers given : List ℕ) → PointTable points → AllDifferent k servers
    → ((j : ℕ) → j < k → (1 ≤ get_or servers j 0) × (get_or servers j 0 ≤ length points))
    → ((j : ℕ) → j < k → get_or given j 0 ≡ point_of points (get_or servers j 0)) → AllDifferent k given
unfolding point_of
points-differ k points servers given pt d at e i j hi hj ne q =
    let ri = at i hi in
    let rj = at j hj in
    pt.different (get_or servers i 0 - 1) (get_or servers j 0 - 1) (omega (arith, ri.0, ri.1)) (omega (arith, rj.0, rj.1))
    (λ p. d i j hi hj ne (omega (arith, p, ri.0, rj.0)))
    (sym (e i hi) ∙ q ∙ e j hj)

-- and are bytes
pub points-small : (points servers : List ℕ) → PointTable points → (j : ℕ) → get_or (map (point_of points) servers) j 0 < 256
unfolding point_of
points-small points [] pt j = zero-lt-suc 255
points-small points (s ∷ ss) pt zero = pt.bytes (s - 1)
points-small points (s ∷ ss) pt (suc j) = points-small points ss pt j
