-- The client's operations over kept bytes of any length, for a caller that keeps many clients in one area: refused where it is another than theirs.
use Rattle.std.specs.Prelude.{cond, List, ℕ, eqb, length}
use Rattle.cluster.specs.Refusals.{wrong_size}
use Rattle.protocol.specs.declared.Call.{Call}
use Rattle.protocol.specs.Answers.{refused_answer}
use Rattle.protocol.specs.Primitives.{real}
use Rattle.protocol.specs.View.{kept_size}
use Rattle.protocol.specs.ClientBytes.{Begun, Filled, Took, begin_write_def, begin_read_def, client_make, client_take}

abbrev pub not_begun_def : Call → List ℕ → Begun
not_begun_def c kept = record { result = record { number = wrong_size; count = 0 }; call = c; kept = kept }

unfoldable pub core_write : ℕ → ℕ → Call → List ℕ → List ℕ → List ℕ → Begun
core_write t client c kept content nonce = cond (eqb (length kept) kept_size) (begin_write_def t client c kept content nonce) (not_begun_def c kept)

unfoldable pub core_read : ℕ → ℕ → Call → List ℕ → Begun
core_read t client c kept = cond (eqb (length kept) kept_size) (begin_read_def t client c kept) (not_begun_def c kept)

unfoldable pub core_make : ℕ → ℕ → ℕ → Call → List ℕ → List ℕ → Filled
core_make t client b c kept output =
    cond (eqb (length kept) kept_size) (client_make t client b c kept output)
    (record { result = record { number = wrong_size; count = 0 }; output = output })

unfoldable pub core_take : ℕ → ℕ → List ℕ → List (List ℕ) → Call → List ℕ → List ℕ → List ℕ → Took
core_take t client writers keys c kept reply output =
    cond (eqb (length kept) kept_size) (client_take real t client writers keys c kept reply output)
    (record { answer = refused_answer wrong_size; call = c; kept = kept; output = output })
