-- How an answer stands in one u64 (include/cendrulas.h has the same table for C):
--   bits 56 to 63   the refusal, 0 where the call was accepted
--   bits 52 to 55   the writer of a stamp that is told, else 0
--   bits 48 to 51   the result of a client's step, as a drill listing shows it
--   bits 16 to 47   a stamp's number
--   bits  0 to 15   how many bytes of the output were written; of a plan, how many numbers; of weights, how many servers
use Rattle.std.specs.Prelude.{cond, List, ℕ, ◌+◌, ◌-◌, ◌*◌, ◌^◌, ◌/◌, ◌%◌, leb, ltb, length, Result, Ok, Err}
use Rattle.cluster.specs.Refusals.{on_refusal, refusal_number}
use Rattle.cluster.specs.declared.Refusal.{Refusal}
use Rattle.cluster.specs.declared.Refusal.TheVariants.{WrongSize}
use Rattle.format.specs.Reading.{over}
use Rattle.protocol.specs.declared.Answer.{Answer}
use Rattle.protocol.specs.Answers.{refusals, bare}
use Rattle.embed.specs.declared.pack.Told.{Told}

unfoldable pub packed : ℕ → ℕ → ℕ → ℕ → ℕ
packed refusal result number count = refusal * 2 ^ 56 + result * 2 ^ 48 + number * 2 ^ 16 + count

-- what a call told, in one number: a refusal stands alone
abbrev pub packed_told : Result Told Refusal → ℕ
packed_told (Ok t) = packed 0 t.result t.number t.count
packed_told (Err why) = packed (refusal_number why) 0 0 0

-- a count, and nothing else
abbrev pub only_count : ℕ → Told
only_count n = record { result = 0; number = 0; count = n }

-- the parts of an answer, as a caller reads them
unfoldable pub refusal_in : ℕ → ℕ
refusal_in answer = answer / 2 ^ 56

unfoldable pub writer_in_def : ℕ → ℕ
writer_in_def answer = answer / 2 ^ 52 % 2 ^ 4

unfoldable pub result_in : ℕ → ℕ
result_in answer = answer / 2 ^ 48 % 2 ^ 4

unfoldable pub number_in : ℕ → ℕ
number_in answer = answer / 2 ^ 16 % 2 ^ 32

unfoldable pub count_in : ℕ → ℕ
count_in answer = answer % 2 ^ 16

-- ---- an answer in document 01's numbers: four bits have room for a writer, 1 to 8, and for a result below the refusals

unfoldable pub packed_answer : Answer → ℕ
packed_answer a =
    cond (leb refusals a.result) (packed (a.result - refusals) 0 0 0)
    (packed 0 (16 * (a.writer % 16) + a.result % 16) a.number a.length)

-- as a caller reads it
unfoldable pub answer_in : ℕ → Answer
answer_in x =
    let n = refusal_in x in
    on_refusal n (record { result = result_in x; number = number_in x; writer = writer_in_def x; length = count_in x }) (bare (refusals + n))

-- ---- a call that is refused, or writes bytes to the front of its output

abbrev pub answer : ℕ → List ℕ → ℕ
answer refusal bytes = packed refusal 0 0 (on_refusal refusal (length bytes) 0)

abbrev pub written_by : ℕ → List ℕ → List ℕ → List ℕ
written_by refusal bytes out = on_refusal refusal (over bytes out) out

-- bytes for an output of so much room: they are counted, or the room is too little
unfoldable pub given_def : List ℕ → ℕ → Result Told Refusal
given_def bytes room = cond (ltb room (length bytes)) (Err WrongSize) (Ok (only_count (length bytes)))
