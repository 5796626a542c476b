-- Fragments of a content and how they give it back (document 01, "Digest, tag, fragment").
-- The points of the servers are a table and k is a number; document 01 has the points 1 to S and k = t+1.
-- A content is padded with 00h by reading 0 past its end.
use Rattle.std.specs.Prelude.{List, [], ◌∷◌, map, ℕ, zero, suc, ◌+◌, ◌-◌, ◌*◌, ◌/◌, ◌%◌, length, get_or, take}
use Rattle.gf256.specs.Poly.{through}
use Rattle.gf256.specs.Bytes.{bytes}
use Rattle.cluster.specs.Config.{point_of}

-- g 0, g 1, .., g (n - 1)
unfoldable pub table : {A : Type 0} → ℕ → (ℕ → A) → List A
table zero g = []
table (suc n) g = g 0 ∷ table n (λ i. g (suc i))

-- f: the length of each fragment of a content of n bytes, n / k rounded up
unfoldable pub fragment_size_def : ℕ → ℕ → ℕ
fragment_size_def k n = (n + k - 1) / k

-- the bytes of the k runs of f bytes at place q
unfoldable pub across : ℕ → List ℕ → ℕ → List ℕ
across k content q = table k (λ j. get_or content (j * fragment_size_def k (length content) + q) 0)

-- the value at the point z, from the runs of f bytes at the points xs: at each place, the value at z of the one polynomial of degree below
-- their number that takes at these points the bytes of the runs there
abbrev pub value_of : (xs : List ℕ) (z f : ℕ) (there : ℕ → List ℕ) → List ℕ
value_of xs z f there = table f (λ q. through bytes xs (there q) z)

-- the fragment of a server: the value at its point, from the k runs of the content at the first k points
unfoldable pub fragment : List ℕ → ℕ → List ℕ → ℕ → List ℕ
fragment points k content server = value_of (take k points) (point_of points server) (fragment_size_def k (length content)) (across k content)

-- a fragment, and the server that gave it
pub record Part : Type 0 where
  pub server : ℕ
  pub bytes : List ℕ

-- the content of n bytes that the first k of these parts give: byte m stands in run m / f at place m % f
unfoldable pub restored : List ℕ → ℕ → ℕ → List Part → List ℕ
restored points k n parts =
    table n
    (λ m.
    through bytes (map (λ p. point_of points p.server) (take k parts)) (map (λ p. get_or p.bytes (m % fragment_size_def k n) 0) (take k parts))
    (point_of points (m / fragment_size_def k n + 1)))
