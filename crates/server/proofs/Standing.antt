-- A memory that opens is its printed fields and zeros: its latest candidate and its stored writes stand at their places, and it holds a server.
-- By the round-trip laws of memories. Assumes nothing.
use mathlib.Core.Path.{◌≡◌, sym, ap, ◌∙◌}
use mathlib.Core.List.{List, ◌++◌, append_assoc}
use Prim.Native.Nat.{ℕ, ◌-◌}
use lib.ListN.{length, take, drop, replicate}
use lib.Seq.{take_at}
use Rattle.cluster.specs.Config.{Config, shelf}
use Rattle.cluster.specs.Ranges.{memory_size}
use Rattle.hmac.specs.Hmac.{tag_size}
use Rattle.format.specs.Format.{Bytes, print_many, byte, such, via, seq, run, many}
use Rattle.protocol.specs.Values.{Candidate, stamp_size, candidate_size_def}
use Rattle.protocol.specs.Packet.{stamp_f, candidate_f, write_f, any_candidate_f}
use Rattle.protocol.specs.Memory.{memory_f, encode_memory, latest_place}
use Rattle.format.specs.Reading.{bytes_at}
use Rattle.protocol.specs.ServerBytes.{server_in}
use Rattle.protocol.proofs.Acts.{ServerOk}
use Rattle.protocol.proofs.Memories.{Fields, fields, memory-length, decode-memory-ok, encode-decode-memory}
use Rattle.protocol.proofs.Packets.{stamp-length, any-print, any-candidate-length, any-candidate-lengths}
use Rattle.server.specs.declared.memory.Opened.{Opened}
use Rattle.server.specs.Reads.{OpenedAs}
use Rattle.server.specs.Answers.{memory_in}

-- a candidate's bytes begin with its stamp's
pub candidate-stamp : (s : Config) (c : Candidate) → length c.stamp.tag ≡ tag_size → (r : List ℕ) → take stamp_size ((candidate_f s).print c ++ r) ≡
    stamp_f.print c.stamp
unfolding candidate_f via seq run
candidate-stamp s c l r =
    ap (take stamp_size) (append_assoc (stamp_f.print c.stamp) (c.nonce ++ c.tags) r)
    ∙ take_at (stamp_f.print c.stamp) (c.nonce ++ c.tags ++ r) stamp_size (stamp-length c.stamp l)

module _ {d : List ℕ} {told : Opened} (o : OpenedAs d told) where
  abbrev s : Config
  s = shelf told.t

  pub memory-fields : Fields (memory_in o)
  memory-fields = fields (memory_in o) (decode-memory-ok d (memory_in o) o.decoded)

  pub server-ok : ServerOk s (server_in (memory_in o))
  unfolding server_in
  server-ok = let f = memory-fields in record { few = f.few; latest = f.latest; writes = f.writes; once = f.once }

  module _ (bs : Bytes d) where
    pub memory-bytes : encode_memory (memory_in o) ≡ d
    memory-bytes = encode-decode-memory d (memory_in o) bs o.decoded

    pub memory-size_of : length d ≡ memory_size
    memory-size_of = ap length (sym memory-bytes) ∙ memory-length (memory_in o) (decode-memory-ok d (memory_in o) o.decoded)

    after : List ℕ
    after = print_many (write_f s) o.writes ++ replicate (memory_size - length (memory_f.print (memory_in o))) 0

    latest_on : drop latest_place d ≡ (any_candidate_f s).print (memory_in o).latest ++ after
    unfolding encode_memory memory_f such via seq byte many after
    latest_on =
        ap (drop latest_place) (sym memory-bytes)
        ∙ append_assoc ((any_candidate_f s).print (memory_in o).latest) (print_many (write_f s) o.writes) _

    pub latest-part : bytes_at d latest_place (candidate_size_def s) ≡ (any_candidate_f s).print (memory_in o).latest
    unfolding bytes_at
    latest-part =
        ap (take (candidate_size_def s)) latest_on
        ∙ take_at ((any_candidate_f s).print (memory_in o).latest) after (candidate_size_def s)
        (any-candidate-length s (memory_in o).latest memory-fields.latest)

    pub latest-stamp : bytes_at d latest_place stamp_size ≡ stamp_f.print (memory_in o).latest.stamp
    unfolding bytes_at
    latest-stamp =
        ap (take stamp_size) (latest_on ∙ ap (λ (y : List ℕ). y ++ after) (any-print s (memory_in o).latest))
        ∙ candidate-stamp s (memory_in o).latest (any-candidate-lengths s (memory_in o).latest memory-fields.latest).tag after
