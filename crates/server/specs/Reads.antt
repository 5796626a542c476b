-- What private functions promise each other; no public contract names these.
-- What each reader of a server's memory answers. The stored writes have no fixed length, so they are told by the places where they leave the bytes.
use Rattle.std.specs.Prelude.{◌≡◌, Bool, true, cond, List, [], ◌∷◌, ℕ, ◌+◌, ltb, max, drop, MatchOption, Some, None}
use Rattle.std.specs.declared.option.Option as rust
use Rattle.std.proofs.Math.Option.{Option, none, some}
use Rattle.cluster.specs.Config.{Config, shelf}
use Rattle.format.specs.Format.{Bytes, many}
use Rattle.protocol.specs.Values.{Write, same_list, is_some, rank, stamp_size}
use Rattle.protocol.specs.Packet.{stamp_f, write_f}
use Rattle.protocol.specs.Memory.{Memory, lookup, distinct, decode_memory, latest_place, writes_place_def}
use Rattle.protocol.specs.View.{stamp_at_def, candidate_at}
use Rattle.format.specs.Reading.{bytes_at, Leaves}
use Rattle.wire.specs.Places.{length_at, share_size_def, write_at_def}
use Rattle.server.specs.declared.memory.Top.{Top}
use Rattle.server.specs.declared.memory.Opened.{Opened}

-- n stored writes stand in the memory d, up to the place e
abbrev pub Stored : Config → ℕ → List ℕ → List Write → ℕ → Type 0
Stored s n d ws e = Leaves (many n (write_f s)) d (writes_place_def s) ws e

-- bytes of the stored write that x begins with
abbrev pub write_size : Config → List ℕ → ℕ
write_size s x = stamp_size + share_size_def s (length_at (drop stamp_size x))

-- ---- the first write whose stamp has the bytes key

unfoldable pub first_with : List ℕ → List Write → Option Write
first_with key [] = none
first_with key (w ∷ ws) = cond (same_list (stamp_f.print w.stamp) key) (some w) (first_with key ws)

pub record FoundAt (s : Config) (d : List ℕ) (at : ℕ) (o : Option Write) : Type 0 where
  pub next : ℕ
  pub there : Leaves (write_f s) d at (write_at_def s (drop at d)) next
  pub first : o ≡ some (write_at_def s (drop at d))

-- the place of the write, if there is one. Neither answer refuses anything: to a store, a place becomes the reply 10, and none 0 or 11
-- (Server's on_store_def)
abbrev pub FindIs : Config → List ℕ → Option Write → rust.Option ℕ → Type 0
FindIs s d o r = MatchOption r (o ≡ none) (λ at. FoundAt s d at o)

abbrev pub SearchAs : Config → ℕ → List ℕ → List ℕ → rust.Option ℕ → Type 0
SearchAs s n d key r = (ws : List Write) (e : ℕ) → Stored s n d ws e → FindIs s d (first_with key ws) r

-- the highest of k and the writes' ranks
unfoldable pub highest_of : ℕ → List Write → ℕ
highest_of k [] = k
highest_of k (w ∷ ws) = highest_of (max k (rank w.stamp)) ws

-- top is the highest of the writes: its key is their highest rank; at its place stands a write of that rank, and a stamp with the bytes there is found
-- there
pub record TopOf (s : Config) (d : List ℕ) (top : Top) (ws : List Write) : Type 0 where
  pub key : top.key ≡ highest_of 0 ws
  pub place : rank (write_at_def s (drop top.at d)).stamp ≡ top.key
  pub first : (key : List ℕ) → same_list (bytes_at (drop top.at d) 0 stamp_size) key ≡ true → FoundAt s d top.at (first_with key ws)

-- the highest of the writes, where there is one
abbrev pub HighestOf : Config → List ℕ → rust.Option Top → List Write → Type 0
HighestOf s d o ws = MatchOption o (ws ≡ []) (λ top. TopOf s d top ws)

-- the writes ws stand in the memory d as told: their count, the place past them, and the highest of them
pub record Holds (d : List ℕ) (told : Opened) (ws : List Write) : Type 0 where
  pub there : Stored (shelf told.t) told.count d ws told.end
  pub up : HighestOf (shelf told.t) d told.top ws

-- the first of them whose stamp has the bytes that x begins with
abbrev pub FindAs : List ℕ → Opened → List ℕ → rust.Option ℕ → Type 0
FindAs d told x r = (ws : List Write) → Holds d told ws → FindIs (shelf told.t) d (first_with (bytes_at x 0 stamp_size) ws) r

-- ---- no stamp twice

-- the higher of top, if there is one, and the write of key k at a place
unfoldable pub raised_top : rust.Option Top → ℕ → ℕ → Top
raised_top None k at = record { key = k; at = at }
raised_top (Some top) k at = cond (ltb top.key k) (record { key = k; at = at }) top

-- whether the stamp of the write that stands past them is that of one of them
abbrev pub RepeatsAs : List ℕ → Opened → Bool → Type 0
RepeatsAs d told r =
    let s = shelf told.t in
    let x = drop told.end d in
    (ws : List Write) (next : ℕ) → Holds d told ws → Leaves (write_f s) d told.end (write_at_def s x) next → r ≡ is_some (lookup (stamp_at_def x) ws)

-- writes of which no two have one stamp; where there are none, no n such writes stand there
pub record Checked (d : List ℕ) (told : Opened) : Type 0 where
  pub writes : List Write
  pub holds : Holds d told writes
  pub once : distinct writes ≡ true

abbrev pub NoWrites : Config → ℕ → List ℕ → Type 0
NoWrites s n d = (ws : List Write) (e : ℕ) → Stored s n d ws e → distinct ws ≡ true → ⊥

-- n writes of the server b of t: the place past them, and the highest of them
abbrev pub WritesAs : ℕ → ℕ → ℕ → List ℕ → rust.Option (ℕ × rust.Option Top) → Type 0
WritesAs t b n d r =
    MatchOption r (NoWrites (shelf t) n d) (λ x. Checked d (record { t = t; server = b; count = n; end = x.0; top = x.1 }))

-- ---- the whole memory: what decode_memory gives, by its numbers, the places of its parts, and the highest stored write; or none, refusal 2

abbrev pub memory_with : List ℕ → Opened → List Write → Memory
memory_with d told ws = record { t = told.t; server = told.server; latest = candidate_at (shelf told.t) (drop latest_place d); writes = ws }

pub record OpenedAs (d : List ℕ) (told : Opened) : Type 0 where
  pub bytes : Bytes d
  pub writes : List Write
  pub holds : Holds d told writes
  pub decoded : decode_memory d ≡ some (memory_with d told writes)

-- of a memory that has its length: what it tells
abbrev pub MemoryAs : List ℕ → rust.Option Opened → Type 0
MemoryAs d r = MatchOption r (decode_memory d ≡ none) (λ told. OpenedAs d told)
