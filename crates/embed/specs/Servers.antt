-- A server for other languages: the operations of protocol's ServerBytes, and whether the memory was changed, so that a host need not store it again;
-- `wrong_size` where the key is lent with another length.
use Rattle.std.specs.Prelude.{cond, not, List, [], ◌∷◌, ℕ, eqb, length}
use Rattle.cluster.specs.Ranges.{key_size}
use Rattle.cluster.specs.Refusals.{wrong_size, refuse, first_of, on_refusal}
use Rattle.protocol.specs.Values.{same_list}
use Rattle.protocol.specs.Primitives.{real}
use Rattle.protocol.specs.ServerBytes.{Served, server_take}
use Rattle.embed.specs.Packing.{packed}

-- an answer, and the memory and the output after it
pub record Exchange : Type 0 where
  pub answer : ℕ
  pub memory : List ℕ
  pub output : List ℕ

unfoldable pub key_sized : List ℕ → ℕ
key_sized key = first_of (refuse wrong_size (not (eqb (length key) key_size)) ∷ [])

-- the result: 1 where a byte of the memory is another
unfoldable pub changed : List ℕ → List ℕ → ℕ
changed old new = cond (same_list old new) 0 1

abbrev pub served_out : List ℕ → Served → Exchange
served_out memory s =
    record { answer = packed s.result.number (changed memory s.memory) 0 s.result.count; memory = s.memory; output = s.output }

unfoldable pub take_by : List ℕ → List ℕ → List ℕ → List ℕ → Exchange
take_by memory key packet out =
    let n = key_sized key in
    on_refusal n (served_out memory (server_take real memory key packet out)) (record { answer = packed n 0 0 0; memory = memory; output = out })
