-- What the private functions on lanes promise each other; no public contract names these.
-- A lane is a run of places that are worked on together.
use Rattle.std.specs.Prelude.{◌≡◌, List, ℕ, ◌+◌, ◌*◌, ◌/◌, ◌%◌, ◌^◌, ◌≤◌, ◌<◌, get_or, length, take}
use Rattle.gf256.specs.Gf.{times}
use Rattle.erasure.specs.Fragments.{table, value_of}
use Rattle.erasure.specs.System.{sum_to}

abbrev pub lane : ℕ
lane = 128

-- bit b of w
abbrev pub bit_of : ℕ → ℕ → ℕ
bit_of w b = w / 2 ^ b % 2

-- each place i of a lane holds g i
abbrev pub Lane : List ℕ → (ℕ → ℕ) → Type 0
Lane x g = (i : ℕ) → i < lane → get_or x i 0 ≡ g i

-- the byte of run j at place q, where the runs begin at starts
abbrev pub byte_at : (src starts : List ℕ) (q j : ℕ) → ℕ
byte_at src starts q j = get_or src (get_or starts j 0 + q) 0

-- at place q, the sum of the k runs, each times its weight
unfoldable pub sum_at : (k : ℕ) (weight : ℕ → ℕ) (src starts : List ℕ) → ℕ → ℕ
sum_at k weight src starts q = sum_to k (λ j. times (byte_at src starts q j) (weight j))

-- new is old, with g 0, .., g (m - 1) written from place at on
pub record RunWritten (old new : List ℕ) (at m : ℕ) (g : ℕ → ℕ) : Type 0 where
  pub long : length new ≡ length old
  pub here : (i : ℕ) → i < m → get_or new (at + i) 0 ≡ g i
  pub below : (i : ℕ) → i < at → get_or new i 0 ≡ get_or old i 0
  pub above : (i : ℕ) → at + m ≤ i → get_or new i 0 ≡ get_or old i 0

-- the value at z, from the k runs that begin at starts, at the first k points
abbrev pub value_from : (k f : ℕ) (points src starts : List ℕ) (z : ℕ) → List ℕ
value_from k f points src starts z = value_of (take k points) z f (λ q. table k (byte_at src starts q))

-- run j as it stands in the content
unfoldable pub plain_of : (f j : ℕ) (content : List ℕ) → List ℕ
plain_of f j content = table f (λ q. get_or content (j * f + q) 0)

-- what weights give: byte m stands at place m % f of run m / f, and is the sum that the run's row weighs there
unfoldable pub weighed_of : (k f n : ℕ) (rows fragments starts : List ℕ) → List ℕ
weighed_of k f n rows fragments starts = table n (λ m. sum_at k (λ j. get_or rows (m / f * k + j) 0) fragments starts (m % f))

-- what rebuilding writes: byte m stands at place m % f of run m / f, which is the value at its point
unfoldable pub rebuilt_of : (k f n : ℕ) (points given fragments starts : List ℕ) → List ℕ
rebuilt_of k f n points given fragments starts = table n (λ m. get_or (value_from k f given fragments starts (get_or points (m / f) 0)) (m % f) 0)
