-- Making a server's latest candidate blank, its history as it is: 1, 2.
use Rattle.std.specs.Prelude.{not, List, [], ◌∷◌, ℕ, eqb, length}
use Rattle.std.proofs.Math.Option.{Option, none, some}
use Rattle.cluster.specs.Config.{shelf}
use Rattle.cluster.specs.Ranges.{memory_size}
use Rattle.cluster.specs.Refusals.{refuse, first_of, on_refusal}
use Rattle.protocol.specs.Values.{is_some, blank_candidate}
use Rattle.protocol.specs.Memory.{Memory, decode_memory, encode_memory, no_record}
use Rattle.protocol.specs.ServerBytes.{Blanked}

-- the number n and the memory m
abbrev pub blanked : ℕ → List ℕ → Blanked
blanked n m = record { result = record { number = n; count = 0 }; memory = m }

-- the memory that holds m, with a blank latest candidate
unfoldable pub unraised : Memory → List ℕ
unraised m = encode_memory (record { t = m.t; server = m.server; latest = blank_candidate (shelf m.t); writes = m.writes })

unfoldable pub latest_refusal : List ℕ → ℕ
latest_refusal memory =
    first_of (refuse 1 (not (eqb (length memory) memory_size)) ∷ refuse no_record (not (is_some (decode_memory memory))) ∷ [])

-- bytes that are no server's record are refused before, and stay
abbrev latest_blanked : List ℕ → Option Memory → List ℕ
latest_blanked memory none = memory
latest_blanked memory (some m) = unraised m

unfoldable pub blank_latest_def : List ℕ → Blanked
blank_latest_def memory =
    let n = latest_refusal memory in
    blanked n (on_refusal n (latest_blanked memory (decode_memory memory)) memory)
