-- The functions that the protocol rests on, and the bytes that are tagged.
-- `Lengths` is for the laws; no contract names it.
use Rattle.std.specs.Prelude.{◌≡◌, List, [], ◌∷◌, ◌++◌, ℕ, length}
use Rattle.sha256.specs.Sha256.{sha256}
use Rattle.hmac.specs.Hmac.{tag_of, tag_size}
use Rattle.erasure.specs.Fragments.{Part, fragment, fragment_size_def, restored}
use Rattle.protocol.specs.declared.Stamp.{Stamp}
use Rattle.format.specs.Format.{print4}
use Rattle.protocol.specs.Values.{digest_size}

pub record Primitives : Type 0 where
  pub digest : List ℕ → List ℕ
  -- key, message
  pub tag : List ℕ → List ℕ → List ℕ
  -- points, k, content, server
  pub fragment : List ℕ → ℕ → List ℕ → ℕ → List ℕ
  -- points, k, length, fragments of different servers
  pub restored : List ℕ → ℕ → ℕ → List Part → List ℕ

-- FIPS 180-4, RFC 2104, and the polynomials over the field of FIPS 197
unfoldable pub real : Primitives
real = record { digest = sha256; tag = tag_of; fragment = fragment; restored = restored }

-- all that the layouts need of them
pub record Lengths (P : Primitives) : Type 0 where
  pub digest : (m : List ℕ) → length (P.digest m) ≡ digest_size
  pub tag : (k m : List ℕ) → length (P.tag k m) ≡ tag_size
  pub fragment : (points : List ℕ) (k : ℕ) (r : List ℕ) (i : ℕ) → length (P.fragment points k r i) ≡ fragment_size_def k (length r)
  pub content : (points : List ℕ) (k n : ℕ) (ps : List Part) → length (P.restored points k n ps) ≡ n

-- what the writers' key tags: number (4 bytes) and writer
unfoldable pub stamp_message_def : ℕ → ℕ → List ℕ
stamp_message_def n w = print4 n ++ (w ∷ [])

-- what server i's key tags: the stamp and the nonce's digest
unfoldable pub candidate_message : Stamp → List ℕ → List ℕ
candidate_message a d = stamp_message_def a.number a.writer ++ (a.tag ++ d)
