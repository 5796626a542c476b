-- Fragments of any k different servers give a content back, for every content of bytes and every table of different points.
-- At each place the fragments are values of one polynomial of degree below k, and k of its values determine it. Nothing is assumed.
use mathlib.Core.Path.{◌≡◌, refl, sym, ap, ap₂, subst, ◌∙◌}
use mathlib.Core.Logic.{◌≢◌}
use mathlib.Core.List.{List, [], ◌∷◌, map}
use Prim.Native.Nat.{ℕ, zero, suc, ◌+◌, ◌-◌, ◌*◌, ◌/◌, ◌%◌, ◌<◌, ◌≤◌}
use native.Mathlib.Nat.{le_refl, mod-lt, lt_of_lt_of_le, div-add-mod', div-lt_iff_lt-mul, le-div_iff_mul-le, lt-mul-div-succ, mul_comm, mul-suc}
use native.Mathlib.Numerals.{add-one}
use native.Mathlib.Omega.{arith}
use lib.ListN.{length, get_or, take, length-map}
use lib.Seq.{ext_get_or, length-take-le, get_or-take}
use Rattle.std.specs.Int.{div_ceil}
use Rattle.std.proofs.lemmas.Grind.{div_ceil_times}
use Rattle.gf256.specs.Poly.{eval, through}
use Rattle.gf256.specs.Bytes.{bytes}
use Rattle.gf256.proofs.Apart.{Distinct}
use Rattle.gf256.proofs.Byte.{Small, restored-bytes, get_or-small, through-value, the_one as one-through, there_is as one-exists}
use Rattle.cluster.specs.Config.{point_of, PointTable}
use Rattle.erasure.specs.Fragments.{table, fragment_size_def, across, fragment, Part, restored}
use Rattle.erasure.proofs.Lists.{length-table, get_or-table, get_d_map, small_of, distinct_of, distinct_at}

-- ---- the runs cover the content: a place m below n stands in one of the k runs

-- n / k rounded up, in two ways
pub ceiled : (k n : ℕ) → 1 ≤ k → div_ceil n k ≡ (n + k - 1) / k
ceiled k n h =
    let q : ℕ = div_ceil n k in
    let b = div_ceil_times n k h in
    let lo : q ≤ (n + k - 1) / k = (le-div_iff_mul-le h).1 (omega (arith, b.1)) in
    let hi : (n + k - 1) / k < q + 1 = (div-lt_iff_lt-mul h).1 (omega (arith, b.0)) in
    omega (arith, lo, hi)

pub size_pos : (k n : ℕ) → 0 < n → 0 < k → 0 < fragment_size_def k n
unfolding fragment_size_def
size_pos k n hn hk = (le-div_iff_mul-le hk).1 (omega arith)

pub runs_cover : (k n : ℕ) → 0 < k → n ≤ k * fragment_size_def k n
unfolding fragment_size_def
runs_cover k n hk =
    let a : ℕ = n + k - 1 in
    let e : k * (a / k + 1) ≡ k * (a / k) + k = ap (λ (x : ℕ). k * x) (add-one (a / k)) ∙ mul-suc k (a / k) in
    omega (arith, lt-mul-div-succ a hk, e)

-- and do not end far past it
pub runs-most : (k n : ℕ) → 0 < k → k * fragment_size_def k n ≤ n + k - 1
unfolding fragment_size_def
runs-most k n hk =
    let f : ℕ = (n + k - 1) / k in
    let all : f * k ≤ n + k - 1 = (le-div_iff_mul-le hk).0 (le_refl f) in
    omega (arith, mul_comm f k, all)

pub run-lt : (k n m : ℕ) → m < n → 0 < k → m / fragment_size_def k n < k
run-lt k n m h hk = (div-lt_iff_lt-mul (size_pos k n (omega arith) hk)).1 (lt_of_lt_of_le h (runs_cover k n hk))

-- ---- lengths

pub fragment-length : (points : List ℕ) (k : ℕ) (content : List ℕ) (server : ℕ) → length (fragment points k content server) ≡ fragment_size_def k
    (length content)
unfolding fragment
fragment-length points k content server = length-table (fragment_size_def k (length content)) _

pub restored-length : (points : List ℕ) (k n : ℕ) (parts : List Part) → length (restored points k n parts) ≡ n
unfolding restored
restored-length points k n parts = length-table n _

-- the fragment of a server, as a part
abbrev pub part_of : List ℕ → ℕ → List ℕ → ℕ → Part
part_of points k content server = record { server = server; bytes = fragment points k content server }

pub take-map : {A B : Type 0} (f : A → B) (k : ℕ) (xs : List A) → take k (map f xs) ≡ map f (take k xs)
take-map f zero xs = refl
take-map f (suc k) [] = refl
take-map {A} {B} f (suc k) (x ∷ xs) = ap (λ (z : List B). f x ∷ z) (take-map f k xs)

-- these servers stand in the table
abbrev pub Servers : List ℕ → List ℕ → Type 0
Servers points servers = (i : ℕ) → i < length servers → (1 ≤ get_or servers i 0) × (get_or servers i 0 ≤ length points)

-- different servers have different points
pub points_of_lem : (points servers : List ℕ) → PointTable points → Servers points servers → Distinct servers → Distinct (map (point_of points) servers)
unfolding point_of
points_of_lem points servers pt at d =
    distinct_of (map (point_of points) servers)
    (λ i j l b e.
    let hj : j < length servers = subst (λ (n : ℕ). j < n) (length-map servers (point_of points)) b in
    let hi : i < length servers = omega arith in
    let a : ℕ = get_or servers i 0 in
    let c : ℕ = get_or servers j 0 in
    let ra : (1 ≤ a) × (a ≤ length points) = at i hi in
    let rc : (1 ≤ c) × (c ≤ length points) = at j hj in
    let ne : a ≢ c = distinct_at servers d i j l hj in
    pt.different (a - 1) (c - 1) (below a ra.0 ra.1) (below c rc.0 rc.1) (λ q. ne (back a c ra.0 rc.0 q))
    (sym (get_d_map (point_of points) servers i 0 0 hi) ∙ e ∙ get_d_map (point_of points) servers j 0 0 hj))
  where
    below : (a : ℕ) → 1 ≤ a → a ≤ length points → a - 1 < length points
    below a lo hi = omega arith

    back : (a c : ℕ) → 1 ≤ a → 1 ≤ c → a - 1 ≡ c - 1 → a ≡ c
    back a c la lc e = omega arith

pub points-small : (points servers : List ℕ) → PointTable points → Small (map (point_of points) servers)
unfolding point_of
points-small points [] pt = tt
points-small points (s ∷ ss) pt = (pt.bytes (s - 1), points-small points ss pt)

module _ (points : List ℕ) (k : ℕ) (content : List ℕ) (pt : PointTable points) (kpos : 0 < k) (kp : k ≤ length points) (small : Small content) where
  abbrev f : ℕ
  f = fragment_size_def k (length content)

  lead : length (take k points) ≡ k
  lead = length-take-le k points kp

  small-column : (q : ℕ) → Small (across k content q)
  unfolding across
  small-column q =
      small_of (across k content q)
      (λ j h. subst (λ (x : ℕ). x < 256) (sym (get_or-table k _ j 0 (subst (λ (n : ℕ). j < n) (length-table k _) h))) (get_or-small content small _))

  small_lead : Small (take k points)
  small_lead =
      small_of (take k points) (λ i h. subst (λ (x : ℕ). x < 256) (sym (get_or-take k points i 0 (subst (λ (n : ℕ). i < n) lead h))) (pt.bytes i))

  distinct_lead : Distinct (take k points)
  distinct_lead =
      distinct_of (take k points)
      (λ i j l h e.
      let hj : j < k = subst (λ (n : ℕ). j < n) lead h in
      let hi : i < k = omega arith in
      pt.different i j (omega arith) (omega arith) (λ q. omega arith) (sym (get_or-take k points i 0 hi) ∙ e ∙ get_or-take k points j 0 hj))

  length-column : (q : ℕ) → length (across k content q) ≡ length (take k points)
  unfolding across
  length-column q = length-table k _ ∙ sym lead

  -- the point of run j + 1
  lead_at : (j : ℕ) → j < k → get_or (take k points) j 0 ≡ point_of points (j + 1)
  unfolding point_of
  lead_at j h = get_or-take k points j 0 h ∙ ap (λ (x : ℕ). get_or points x 0) (omega arith)

  values : (q : ℕ) → q < f → (xs : List ℕ)
      → map (λ p. get_or p.bytes q 0) (map (part_of points k content) xs) ≡ map (through bytes (take k points) (across k content q))
      (map (point_of points) xs)
  unfolding fragment
  values q h [] = refl
  values q h (x ∷ xs) = ap₂ (λ (u : ℕ) (v : List ℕ). u ∷ v) (get_or-table f _ q 0 h) (values q h xs)

  places : (xs : List ℕ) → map (λ p. point_of points p.server) (map (part_of points k content) xs) ≡ map (point_of points) xs
  places [] = refl
  places (x ∷ xs) = ap (λ (v : List ℕ). point_of points x ∷ v) (places xs)

  -- the fragments of any k different servers, in any order; more than k of them do no harm
  pub restores : (servers : List ℕ) → Servers points servers → Distinct servers → k ≤ length servers
      → restored points k (length content) (map (part_of points k content) servers) ≡ content
  unfolding restored across
  restores servers at d l = ext_get_or 0 (restored points k n (map part servers)) content (restored-length points k n (map part servers))
      (λ m h.
      let b : m < n = subst (λ (x : ℕ). m < x) (restored-length points k n (map part servers)) h in
      let run : m / f < k = run-lt k n m b kpos in
      let q : ℕ = m % f in
      let inside : q < f = mod-lt m (size_pos k n (omega arith) kpos) in
      get_or-table n _ m 0 b
      ∙ ap₂ (λ (u v : List ℕ). through bytes u v (point_of points (m / f + 1)))
      (ap (map (λ p. point_of points p.server)) (take-map part k servers) ∙ places first)
      (ap (map (λ p. get_or p.bytes q 0)) (take-map part k servers) ∙ values q inside first)
      ∙ ap (through bytes xs (map (through bytes (take k points) (across k content q)) xs)) (sym (lead_at (m / f) run))
      ∙ restored-bytes (take k points) (across k content q) xs small_lead (small-column q) (points-small points first pt) (length-column q)
      distinct_lead
      (length-map first (point_of points) ∙ length-take-le k servers l ∙ sym lead) (points_of_lem points first pt first_at first_distinct) (m / f)
      (subst (λ (x : ℕ). m / f < x) (sym lead) run)
      ∙ get_or-table k _ (m / f) 0 run
      ∙ ap (λ (x : ℕ). get_or content x 0) (div-add-mod' m f))
    where
      n : ℕ
      n = length content

      part : ℕ → Part
      part = part_of points k content

      first : List ℕ
      first = take k servers

      xs : List ℕ
      xs = map (point_of points) first

      long : length first ≡ k
      long = length-take-le k servers l

      first_at : Servers points first
      first_at i h =
          let b : i < k = subst (λ (x : ℕ). i < x) long h in
          subst (λ (s : ℕ). (1 ≤ s) × (s ≤ length points)) (sym (get_or-take k servers i 0 b)) (at i (omega arith))

      first_distinct : Distinct first
      first_distinct =
          distinct_of first
          (λ i j lt h e.
          let hj : j < k = subst (λ (x : ℕ). j < x) long h in
          let hi : i < k = omega arith in
          distinct_at servers d i j lt (omega arith) (sym (get_or-take k servers i 0 hi) ∙ e ∙ get_or-take k servers j 0 hj))

  -- the fragment of a server from 1 to k is its run of the padded content
  pub plain : (j : ℕ) → j < k → fragment points k content (j + 1) ≡ table f (λ q. get_or content (j * f + q) 0)
  unfolding fragment across
  plain j h =
      ext_get_or 0 (fragment points k content (j + 1)) (table f (λ q. get_or content (j * f + q) 0)) (length-table f _ ∙ sym (length-table f _))
      (λ q b.
      let inside : q < f = subst (λ (x : ℕ). q < x) (length-table f _) b in
      get_or-table f _ q 0 inside
      ∙ ap (through bytes (take k points) (across k content q)) (sym (lead_at j h))
      ∙ through-value (take k points) (across k content q) small_lead (small-column q) (length-column q) distinct_lead j
      (subst (λ (x : ℕ). j < x) (sym lead) h)
      ∙ get_or-table k _ j 0 h ∙ sym (get_or-table f _ q 0 inside))

  -- p has degree below k and takes at each of the first k points the byte of that run at place q
  pub record Through (q : ℕ) (p : List ℕ) : Type 0 where
    pub degree : length p ≡ k
    pub byteful : Small p
    pub passes : (j : ℕ) → j < k → eval bytes p (point_of points (j + 1)) ≡ get_or (across k content q) j 0

  -- there is such a polynomial
  pub there_is : (q : ℕ) → (p : List ℕ) × Through q p
  there_is q =
      let (p, l, s, e) = one-exists (take k points) (across k content q) small_lead (small-column q) in (
        p,
        record {
          degree = l ∙ lead;
          byteful = s;
          passes = λ j h.
              let b : j < length (take k points) = subst (λ (x : ℕ). j < x) (sym lead) h in
              ap (eval bytes p) (sym (lead_at j h)) ∙ e (get_or (take k points) j 0) (get_or-small (take k points) small_lead j)
              ∙ through-value (take k points) (across k content q) small_lead (small-column q) (length-column q) distinct_lead j b;
        },
      )

  -- and there is but one: whichever it is, the fragment of each server is its value at the server's point
  pub the_one : (q : ℕ) → q < f → (p : List ℕ) → Through q p → (i : ℕ) → get_or (fragment points k content i) q 0 ≡ eval bytes p (point_of points i)
  unfolding fragment point_of
  the_one q h p t i =
      get_or-table f _ q 0 h
      ∙ sym (one-through (take k points) (across k content q) p small_lead (small-column q) t.byteful (t.degree ∙ sym lead) (length-column q)
      distinct_lead
      (λ j b. let c : j < k = subst (λ (x : ℕ). j < x) lead b in ap (eval bytes p) (lead_at j c) ∙ t.passes j c) (point_of points i)
      (pt.bytes (i - 1)))
