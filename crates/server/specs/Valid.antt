-- What private functions promise each other; no public contract names these.
-- What the test of a candidate answers, where the memory opens and the candidate's bytes are those of a candidate.
use Rattle.std.specs.Prelude.{◌≡◌, Bool, cond, List, ◌++◌, ℕ}
use Rattle.cluster.specs.Config.{shelf}
use Rattle.sha256.specs.Sha256.{sha256}
use Rattle.hmac.specs.declared.Prepared.{Prepared}
use Rattle.hmac.specs.Hmac.{tag_size}
use Rattle.hmac.specs.PreparedKey.{prepared_of, prepared_tag}
use Rattle.protocol.specs.declared.Stamp.{Stamp}
use Rattle.protocol.specs.Values.{Candidate, Write, same_list, nth, stamp_size, nonce_size}
use Rattle.protocol.specs.Packet.{stamp_f, candidate_f}
use Rattle.protocol.specs.Memory.{lookup, encode_memory}
use Rattle.protocol.specs.Primitives.{real}
use Rattle.protocol.specs.Server.{memory_of, Server, has_digest, valid, raise}
use Rattle.protocol.specs.View.{candidate_at}
use Rattle.format.specs.Reading.{bytes_at}
use Rattle.protocol.specs.ServerBytes.{server_in}
use Rattle.server.specs.declared.memory.Opened.{Opened}
use Rattle.server.specs.Reads.{Holds, OpenedAs}
use Rattle.server.specs.Answers.{memory_in}

-- the digest of the candidate x's nonce
abbrev pub nonce_hash : List ℕ → List ℕ
nonce_hash x = sha256 (bytes_at x stamp_size nonce_size)

-- whether the stored writes hold the stamp at the start of x, with the nonce digest g
abbrev pub HistoryAs : List ℕ → Opened → List ℕ → List ℕ → Bool → Type 0
HistoryAs d told x g r = (ws : List Write) → Holds d told ws → (a : Stamp) → bytes_at x 0 stamp_size ≡ stamp_f.print a → r ≡ has_digest g (lookup a ws)

-- whether this server's tag in the candidate x is the prepared key's tag of its stamp's bytes and the nonce digest g
unfoldable pub tag_checks : Prepared → Opened → List ℕ → List ℕ → Bool
tag_checks prepared told x g =
    same_list (nth tag_size (candidate_at (shelf told.t) x).tags told.server) (prepared_tag prepared (bytes_at x 0 stamp_size ++ g))

-- the bytes x are those of a candidate
abbrev pub CandidateIn : Opened → List ℕ → Type 0
CandidateIn told x = let s = shelf told.t in (x ≡ (candidate_f s).print (candidate_at s x)) × (candidate_f s).Ok (candidate_at s x)

abbrev pub ValidAs : List ℕ → List ℕ → Opened → List ℕ → Bool → Type 0
ValidAs d key told x r =
    let s = shelf told.t in
    (o : OpenedAs d told) → CandidateIn told x → r ≡ valid real s key told.server (server_in (memory_in o)) (candidate_at s x)

-- the same for every key that is prepared so
abbrev pub ValidPrepared : List ℕ → Prepared → Opened → List ℕ → Bool → Type 0
ValidPrepared d prepared told x r = (key : List ℕ) → prepared ≡ prepared_of key → ValidAs d key told x r

abbrev pub repaired : List ℕ → ℕ → ℕ → Server → Candidate → Server
repaired key t b v c = cond (valid real (shelf t) key b v c) (raise c v) v

-- the memory m holds the server with the candidate x raised, where it is valid
abbrev pub RaisedAs : List ℕ → List ℕ → Opened → List ℕ → List ℕ → Type 0
RaisedAs d key told x m =
    let t = told.t in
    let b = told.server in
    (o : OpenedAs d told) → CandidateIn told x → m ≡ encode_memory (memory_of t b (repaired key t b (server_in (memory_in o)) (candidate_at (shelf t) x)))
