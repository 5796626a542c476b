-- Writing to a buffer, and making packets.
use Rattle.std.specs.Prelude.{cond, List, [], ◌∷◌, ◌++◌, ℕ, ◌+◌, leb, ltb, length}
use Rattle.cluster.specs.Ranges.{packet_room}
use Rattle.cluster.specs.Refusals.{refuse, wrong_size, first_of, on_refusal}
use Rattle.protocol.specs.declared.Head.{Head}
use Rattle.protocol.specs.Packet.{head_f}
use Rattle.format.specs.Reading.{over, put}
use Rattle.protocol.specs.ClientBytes.{Filled}

-- the place past what was written, and the buffer
pub record Placed : Type 0 where
  pub next : ℕ
  pub output : List ℕ

-- the bytes b at a place; nothing where there is no room for them
unfoldable pub placed : List ℕ → ℕ → List ℕ → Placed
placed d at b = cond (leb (at + length b) (length d)) (record { next = at + length b; output = put d at b }) (record { next = at; output = d })

-- a packet's bytes over the start of a buffer: 15 where it is below its least length, which has room for every packet; wrong_size where it is too
-- short for the bytes, which are then no packet's
unfoldable pub put_step_def : List ℕ → List ℕ → Filled
put_step_def bytes output =
    let n = first_of (refuse 15 (ltb (length output) packet_room) ∷ refuse wrong_size (ltb (length output) (length bytes)) ∷ []) in
    on_refusal n (record { result = record { number = n; count = length bytes }; output = over bytes output })
    (record { result = record { number = n; count = 0 }; output = output })

-- a packet of a head, and of a body in two runs
unfoldable pub packet_step : Head → List ℕ → List ℕ → List ℕ → Filled
packet_step h first second output = put_step_def (head_f.print h ++ (first ++ second)) output
