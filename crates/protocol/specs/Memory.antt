-- A server's memory: what it holds, and the 40,960 bytes that fix it (document 01, "The box").
-- `MemoryOk` is for the laws that a record and its bytes fix each other; no contract names it.
use Rattle.std.specs.Prelude.{Bool, true, cond, not, ◌&&◌, List, [], ◌∷◌, ◌++◌, ℕ, ◌+◌, ◌-◌, length, replicate, eqb}
use Rattle.std.proofs.Math.Option.{Option, none, some}
use Rattle.cluster.specs.Config.{Config, shelf}
use Rattle.cluster.specs.Ranges.{top_faults, memory_size, capacity}
use Rattle.protocol.specs.declared.Stamp.{Stamp}
use Rattle.format.specs.Format.{Fmt, guard, zeros, byte, seq, via, such, many}
use Rattle.protocol.specs.Values.{Candidate, Share, Write, same_stamp, is_some, candidate_size_def, blank_candidate}
use Rattle.protocol.specs.Packet.{write_f, any_candidate_f}

-- a server's record; document 01 says box for server
pub record Memory : Type 0 where
  pub t : ℕ
  pub server : ℕ
  pub latest : Candidate
  pub writes : List Write

-- what the stored writes hold for a stamp, found by the whole stamp
unfoldable pub lookup : Stamp → List Write → Option Share
lookup a [] = none
lookup a (w ∷ ws) = cond (same_stamp w.stamp a) (some w.share) (lookup a ws)

-- no write's stamp is that of one seen before it
abbrev pub fresh_after : List Write → List Write → Bool
fresh_after seen [] = true
fresh_after seen (w ∷ ws) = not (is_some (lookup w.stamp seen)) && fresh_after (seen ++ (w ∷ [])) ws

abbrev pub distinct : List Write → Bool
distinct ws = fresh_after [] ws

-- t, server, count of stored writes, latest candidate, the stored writes in order of arrival
unfoldable pub memory_f : Fmt Memory
memory_f =
    such (λ m. distinct m.writes)
    (via (λ x. record { t = x.0; server = x.1.0; latest = x.1.1.1.0; writes = x.1.1.1.1 })
    (λ m. (m.t, (m.server, (length m.writes, (m.latest, m.writes)))))
    (seq (byte 1 top_faults)
    (λ t. seq (byte 1 (shelf t).servers) (λ b. seq (byte 0 capacity) (λ n. seq (any_candidate_f (shelf t)) (λ l. many n (write_f (shelf t))))))))

-- the places in it of the latest candidate, which t, server and count stand before, and of the stored writes
abbrev pub latest_place : ℕ
latest_place = 3

abbrev pub writes_place_def : Config → ℕ
writes_place_def s = latest_place + candidate_size_def s

-- nothing but zeros after it
abbrev pub zero_tail : {A : Type 0} → Option (A × List ℕ) → Option A
zero_tail none = none
zero_tail (some x) = guard (zeros x.1) (some x.0)

unfoldable pub decode_memory : List ℕ → Option Memory
decode_memory b = guard (eqb (length b) memory_size) (zero_tail (memory_f.parse b))

-- the refusal of bytes that are no server's record
abbrev pub no_record : ℕ
no_record = 2

unfoldable pub encode_memory : Memory → List ℕ
encode_memory m = memory_f.print m ++ replicate (memory_size - length (memory_f.print m)) 0

-- the fields are in their ranges
unfoldable pub MemoryOk : Memory → Type 0
MemoryOk m = memory_f.Ok m

abbrev pub blank_memory : ℕ → ℕ → Memory
blank_memory t b = record { t = t; server = b; latest = blank_candidate (shelf t); writes = [] }
