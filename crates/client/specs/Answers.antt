-- What the covered functions return, as the definitions' records: an enum by its answer in document 01's numbers.
-- `written_as_def` and `read_as` are for what private functions promise; no public contract names them.
use Rattle.std.specs.Prelude.{List, ℕ, Result, Ok, Err}
use Rattle.cluster.specs.declared.Refusal.{Refusal}
use Rattle.cluster.specs.Refusals.{refusal_number, number_told}
use Rattle.protocol.specs.declared.Call.{Call}
use Rattle.protocol.specs.declared.Stamp.{Stamp}
use Rattle.protocol.specs.declared.Taken.{Taken}
use Rattle.protocol.specs.declared.Taken.TheVariants as taken
use Rattle.protocol.specs.Answers.{refused_answer, taken_answer, aborted_answer}
use Rattle.protocol.specs.ClientBytes.{GaveUp, Begun, Took}
use Rattle.client.specs.declared.begin.Stopped.{Stopped}
use Rattle.client.specs.declared.answers.Answered.{Answered}

-- the call that was begun; a refusal leaves the call c
abbrev call_left : Call → Result Call Refusal → Call
call_left c (Ok d) = d
call_left c (Err why) = c

-- with the kept bytes as they are left
abbrev pub begun : Call → Result Call Refusal → List ℕ → Begun
begun c r kept = record { result = record { number = number_told r; count = 0 }; call = call_left c r; kept = kept }

-- what giving up the call c leads to
abbrev pub stopped : Call → Result Stopped Refusal → GaveUp
stopped c (Ok s) = record { answer = aborted_answer s.answer; call = s.call }
stopped c (Err why) = record { answer = refused_answer (refusal_number why); call = c }

-- what a reply to the call c leads to, with the kept bytes and the output as they are left
abbrev pub answered : Call → Result Answered Refusal → List ℕ → List ℕ → Took
answered c (Ok a) kept output = record { answer = taken_answer a.answer; call = a.call; kept = kept; output = output }
answered c (Err why) kept output = record { answer = refused_answer (refusal_number why); call = c; kept = kept; output = output }

-- a write and a read of a stamp
abbrev pub written_as_def : Stamp → Taken
written_as_def a = taken.Written a.number a.writer

abbrev pub read_as : Stamp → ℕ → Taken
read_as a n = taken.Read a.number a.writer n
