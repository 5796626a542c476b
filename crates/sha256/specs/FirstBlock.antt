-- A message whose first block was taken in beforehand. `digest-after` of proofs/Hashed.antt says that its digest is the standard's, so
-- nobody has to believe the definition.
use Rattle.std.specs.Prelude.{ℕ, ◌+◌, List, ◌++◌, length}
use Rattle.sha256.specs.Sha256.{padding, digest_from}

-- the digest of a message whose first block gave the hash value h, and which goes on with x
unfoldable pub digest_after_def : List ℕ → List ℕ → List ℕ
digest_after_def h x = digest_from h (x ++ padding (64 + length x))
