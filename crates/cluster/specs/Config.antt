-- A shelf's parameters (document 01, "The parts"; document 01 says box for server).
-- Every threshold and every length is a function of these: no other definition writes 2t+1, t+1 or 3t+1.
-- `PointTable` and `Legal` are for the laws and for private functions; no public contract names them.
use Rattle.std.specs.Prelude.{◌≡◌, ◌≢◌, List, [], ◌∷◌, ◌++◌, ℕ, zero, suc, ◌+◌, ◌-◌, ◌*◌, ◌≤◌, ◌<◌, length, get_or}
use Rattle.cluster.specs.Ranges.{most_servers}

pub record Config : Type 0 where
  -- how many servers may lie
  pub t : ℕ
  -- S: how many servers there are, numbered from 1
  pub servers : ℕ
  -- k: how many fragments give a content back
  pub threshold : ℕ
  -- the point of each server, a byte; those of servers 1 to k belong to the plain runs of a content
  pub points : List ℕ

-- 1, 2, .., n
unfoldable pub up_to : ℕ → List ℕ
up_to zero = []
up_to (suc n) = up_to n ++ (suc n ∷ [])

-- document 01's shelf: S = 3t+1, k = t+1, and server i has the point i
unfoldable pub shelf : ℕ → Config
shelf t = record { t = t; servers = 3 * t + 1; threshold = t + 1; points = up_to (3 * t + 1) }

-- how many replies end a round: S - t, which is document 01's 2t+1
unfoldable pub quorum : Config → ℕ
quorum s = s.servers - s.t

-- the point of server i, counted from 1
unfoldable pub point_of : List ℕ → ℕ → ℕ
point_of points i = get_or points (i - 1) 0

-- what a table of points must be: bytes, all different
pub record PointTable (points : List ℕ) : Type 0 where
  pub bytes : (i : ℕ) → get_or points i 0 < 256
  pub different : (i j : ℕ) → i < length points → j < length points → i ≢ j → get_or points i 0 ≢ get_or points j 0

-- all that proofs use of the numbers
pub record Legal (s : Config) : Type 0 where
  pub faulty : 1 ≤ s.t
  pub most : 3 * s.t + 1 ≤ s.servers
  pub restores : s.t + 1 ≤ s.threshold
  pub covered : s.threshold + 2 * s.t ≤ s.servers
  pub few : s.servers ≤ most_servers
  pub table : length s.points ≡ s.servers
  pub apart : PointTable s.points
