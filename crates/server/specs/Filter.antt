-- What private functions promise each other; no public contract names these.
-- What filter chooses from a list of candidates, and what it replies, where the memory opens.
use Rattle.std.specs.Prelude.{◌≡◌, false, List, [], ℕ, ◌*◌, ◌≤◌, ◌<◌, length, take, drop, MatchOption}
use Rattle.std.specs.declared.option.Option.{Option}
use Rattle.cluster.specs.Config.{Config, shelf}
use Rattle.hmac.specs.declared.Prepared.{Prepared}
use Rattle.hmac.specs.Hmac.{tag_size}
use Rattle.hmac.specs.PreparedKey.{prepared_of}
use Rattle.protocol.specs.declared.Head.{Head}
use Rattle.protocol.specs.declared.Stamp.{Stamp}
use Rattle.protocol.specs.Values.{Candidate, Write, stamp_size, candidate_size_def, blank_candidate}
use Rattle.protocol.specs.Packet.{candidate_f, held_f}
use Rattle.protocol.specs.Memory.{lookup}
use Rattle.protocol.specs.Primitives.{real}
use Rattle.protocol.specs.Server.{valid, best}
use Rattle.protocol.specs.View.{candidate_at}
use Rattle.protocol.specs.ClientBytes.{Filled}
use Rattle.protocol.specs.ServerBytes.{server_in}
use Rattle.wire.specs.Places.{candidate_list, length_at, share_size_def}
use Rattle.wire.specs.Make.{packet_step}
use Rattle.server.specs.declared.memory.Opened.{Opened}
use Rattle.server.specs.Reads.{Holds, OpenedAs}
use Rattle.server.specs.Answers.{memory_in, reply_head_def}
use Rattle.server.specs.Ranks.{slot_of, rank_of}

-- ---- the highest valid candidate

-- m candidates stand one after the other in y
pub record Listed (s : Config) (m : ℕ) (y : List ℕ) : Type 0 where
  pub made : (j : ℕ) → j < m → slot_of s y j ≡ (candidate_f s).print (candidate_at s (slot_of s y j))
  pub ok : (j : ℕ) → j < m → (candidate_f s).Ok (candidate_at s (slot_of s y j))
  pub same : (j : ℕ) → j < m → candidate_at s (slot_of s y j) ≡ candidate_at s (drop (candidate_size_def s * j) y)

-- c is the candidate in slot i
pub record ChosenAt (s : Config) (y : List ℕ) (c : Candidate) (i : ℕ) : Type 0 where
  pub made : slot_of s y i ≡ (candidate_f s).print (candidate_at s (slot_of s y i))
  pub ok : (candidate_f s).Ok (candidate_at s (slot_of s y i))
  pub best : c ≡ candidate_at s (slot_of s y i)

-- the candidate's slot, if one is valid. Neither answer refuses anything: filter replies with the candidate's stamp, or with the blank one
abbrev pub ChosenIs : Config → List ℕ → Candidate → Option ℕ → Type 0
ChosenIs s y c r = MatchOption r (c ≡ blank_candidate s) (λ i. ChosenAt s y c i)

abbrev pub ChosenAs : List ℕ → List ℕ → Opened → List ℕ → ℕ → Option ℕ → Type 0
ChosenAs d key told y m r =
    let s = shelf told.t in
    (o : OpenedAs d told) → Listed s m y
    → ChosenIs s y (best real s key told.server (server_in (memory_in o)) (blank_candidate s) (candidate_list s m y)) r

-- of m candidates in y, none of rank bound or higher is valid
abbrev pub NoneFrom : List ℕ → List ℕ → Opened → List ℕ → ℕ → ℕ → Type 0
NoneFrom d key told y m bound =
    let s = shelf told.t in
    (o : OpenedAs d told) → Listed s m y → (j : ℕ) → j < m → bound ≤ rank_of s y j
    → valid real s key told.server (server_in (memory_in o)) (candidate_at s (slot_of s y j)) ≡ false

-- the choice where none of rank bound or higher is valid, for every key that is prepared so
abbrev pub ChosenUnder : List ℕ → Prepared → Opened → List ℕ → ℕ → ℕ → Option ℕ → Type 0
ChosenUnder d prepared told y m bound r =
    (key : List ℕ) → prepared ≡ prepared_of key → NoneFrom d key told y m bound → ChosenAs d key told y m r

-- ---- the reply

-- the bytes of the share of the stored write at a place
unfoldable pub share_bytes_def : Config → List ℕ → ℕ → List ℕ
share_bytes_def s d at = let y = drop stamp_size (drop at d) in take (share_size_def s (length_at y)) y

-- w is the reply with what the stored writes hold for the stamp a
abbrev pub HeldAs : List ℕ → Head → Opened → Stamp → List ℕ → Filled → Type 0
HeldAs d h told a output w =
    (ws : List Write) → Holds d told ws → length a.tag ≡ tag_size
    → w ≡ packet_step (reply_head_def h 10) ((held_f (shelf told.t)).print (record { stamp = a; share = lookup a ws })) [] output
