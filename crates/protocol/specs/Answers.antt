-- Answers in document 01's numbers ("Drill sheets"): for each case of what code answers, its result and the values told with it.
-- The contracts, a drill's listing and the exported functions use these tables, and no other.
use Rattle.std.specs.Prelude.{cond, List, ℕ, zero, suc, ◌+◌, ◌-◌, leb, eqb, take, Ok, Err}
use Rattle.std.specs.declared.result.Result as answers
use Rattle.cluster.specs.declared.Refusal.{Refusal}
use Rattle.cluster.specs.Refusals.{refusal_number}
use Rattle.protocol.specs.declared.Label.{Label}
use Rattle.protocol.specs.declared.Answer.{Answer}
use Rattle.protocol.specs.declared.Taken.{Taken}
use Rattle.protocol.specs.declared.Taken.TheVariants as taken
use Rattle.protocol.specs.declared.Aborted.{Aborted}
use Rattle.protocol.specs.declared.Aborted.TheVariants as aborts
use Rattle.protocol.specs.Pending.{Result, refused, more, written, gave, gave_blank, aborted}

-- a result without values: 0 stands for each
abbrev pub bare : ℕ → Answer
bare n = record { result = n; number = 0; writer = 0; length = 0 }

-- results from it on tell a refusal: it and the refusal's number
abbrev pub refusals : ℕ
refusals = 100

-- number and writer of the stamp
abbrev pub label_in_def : Answer → Label
label_in_def a = record { number = a.number; writer = a.writer }

-- a refusal by its number
abbrev pub refused_answer : ℕ → Answer
refused_answer n = bare (refusals + n)

-- goes on, written, read, blank
abbrev pub taken_answer : Taken → Answer
taken_answer taken.More = bare 0
taken_answer (taken.Written k w) = record { result = 1; number = k; writer = w; length = 0 }
taken_answer (taken.Read k w n) = record { result = 2; number = k; writer = w; length = n }
taken_answer taken.Blank = bare 3

-- given up before complete or in a read, given up in complete
abbrev pub aborted_answer : Aborted → Answer
aborted_answer aborts.Before = bare 4
aborted_answer aborts.InComplete = bare 5

-- what code returns: one of these, or a refusal
abbrev pub taken_told : answers.Result Taken Refusal → Answer
taken_told (Ok a) = taken_answer a
taken_told (Err why) = refused_answer (refusal_number why)

abbrev pub aborted_told : answers.Result Aborted Refusal → Answer
aborted_told (Ok a) = aborted_answer a
aborted_told (Err why) = refused_answer (refusal_number why)

-- ---- what an answer says of a step

abbrev pub result_of : ℕ → Result
result_of zero = more
result_of (suc n) = refused (suc n)

-- what an answer of a client says, by the case whose result it has: a content is read from the output buffer
abbrev pub result_by : Answer → List ℕ → Result
result_by a output =
    let n = a.result in
    let k = a.number in
    let w = a.writer in
    cond (leb refusals n) (refused (n - refusals))
    (cond (eqb n (taken_answer taken.More).result) more
    (cond (eqb n (taken_answer (taken.Written k w)).result) (written (label_in_def a))
    (cond (eqb n (taken_answer (taken.Read k w a.length)).result) (gave (label_in_def a) (take a.length output))
    (cond (eqb n (taken_answer taken.Blank).result) gave_blank
    (aborted (eqb n (aborted_answer aborts.InComplete).result))))))
