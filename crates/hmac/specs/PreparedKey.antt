-- A key whose two blocks were taken in beforehand. `prepared-hmac` and `prepared-tag` of proofs/Laws.antt say that it gives the HMAC and
-- the tag of RFC 2104, so nobody has to believe these definitions.
use Rattle.std.specs.Prelude.{ℕ, List, take}
use Rattle.sha256.specs.Sha256.{initial, hashed}
use Rattle.sha256.specs.FirstBlock.{digest_after_def}
use Rattle.hmac.specs.declared.Prepared.{Prepared}
use Rattle.hmac.specs.Hmac.{key_block, masked_of, tag_size}

-- the hash values after the key's two blocks
unfoldable pub prepared_of : List ℕ → Prepared
prepared_of k = record { inner = hashed initial 1 (masked_of (key_block k) 0x36); outer = hashed initial 1 (masked_of (key_block k) 0x5c) }

-- what follows a block each time: the message, then the digest of it
unfoldable pub prepared_hmac_def : Prepared → List ℕ → List ℕ
prepared_hmac_def p m = digest_after_def p.outer (digest_after_def p.inner m)

unfoldable pub prepared_tag : Prepared → List ℕ → List ℕ
prepared_tag p m = take tag_size (prepared_hmac_def p m)
