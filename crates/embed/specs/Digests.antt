-- The refusals of the digest, of the tag and of the whole HMAC, in order.
use Rattle.std.specs.Prelude.{not, List, [], ◌∷◌, ℕ, eqb, ltb, length}
use Rattle.cluster.specs.Ranges.{key_size}
use Rattle.cluster.specs.Refusals.{wrong_size, refuse, first_of}
use Rattle.protocol.specs.Values.{digest_size}

unfoldable pub digest_refusal : List ℕ → ℕ
digest_refusal out = first_of (refuse wrong_size (ltb (length out) digest_size) ∷ [])

-- of what is made with a key, and has n bytes
unfoldable pub keyed_refusal_def : ℕ → List ℕ → ℕ → ℕ
keyed_refusal_def n key room = first_of (refuse wrong_size (not (eqb (length key) key_size)) ∷ refuse wrong_size (ltb room n) ∷ [])
