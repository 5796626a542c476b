-- Numbers of kinds of packets, of rounds of a call, and of what a reply to store says (document 01, "Packets" and "The client").
-- `Head.kind` and `Tally.round` hold any number; these definitions say which value a number has, if it has one.
use Rattle.std.specs.Prelude.{cond, ℕ, eqb}
use Rattle.std.specs.declared.option.Option.{Option}
use Rattle.std.specs.Prelude.{Some, None}
use Rattle.protocol.specs.declared.kinds.Kind.{Kind}
use Rattle.protocol.specs.declared.kinds.Kind.TheVariants as kind
use Rattle.protocol.specs.declared.rounds.Round.{Round}
use Rattle.protocol.specs.declared.rounds.Round.TheVariants as round
use Rattle.protocol.specs.declared.codes.Code.{Code}
use Rattle.protocol.specs.declared.codes.Code.TheVariants as code

-- ---- kinds

abbrev pub kind_number : Kind → ℕ
kind_number kind.Clock = 1
kind_number kind.ClockReply = 2
kind_number kind.Store = 3
kind_number kind.StoreReply = 4
kind_number kind.Complete = 5
kind_number kind.CompleteReply = 6
kind_number kind.Collect = 7
kind_number kind.CollectReply = 8
kind_number kind.Filter = 9
kind_number kind.FilterReply = 10
kind_number kind.Repair = 11
kind_number kind.RepairReply = 12

-- the kind of a number
abbrev pub kind_told : ℕ → Option Kind
kind_told n =
    cond (eqb n (kind_number kind.Clock)) (Some kind.Clock)
    (cond (eqb n (kind_number kind.ClockReply)) (Some kind.ClockReply)
    (cond (eqb n (kind_number kind.Store)) (Some kind.Store)
    (cond (eqb n (kind_number kind.StoreReply)) (Some kind.StoreReply)
    (cond (eqb n (kind_number kind.Complete)) (Some kind.Complete)
    (cond (eqb n (kind_number kind.CompleteReply)) (Some kind.CompleteReply)
    (cond (eqb n (kind_number kind.Collect)) (Some kind.Collect)
    (cond (eqb n (kind_number kind.CollectReply)) (Some kind.CollectReply)
    (cond (eqb n (kind_number kind.Filter)) (Some kind.Filter)
    (cond (eqb n (kind_number kind.FilterReply)) (Some kind.FilterReply)
    (cond (eqb n (kind_number kind.Repair)) (Some kind.Repair)
    (cond (eqb n (kind_number kind.RepairReply)) (Some kind.RepairReply) None)))))))))))

-- ---- rounds

abbrev pub round_number : Round → ℕ
round_number round.Clock = 1
round_number round.Store = 2
round_number round.Complete = 3
round_number round.Collect = 4
round_number round.Filter = 5
round_number round.Repair = 6

-- the round of a number; 0 is no call in hand
abbrev pub round_told : ℕ → Option Round
round_told n =
    cond (eqb n (round_number round.Clock)) (Some round.Clock)
    (cond (eqb n (round_number round.Store)) (Some round.Store)
    (cond (eqb n (round_number round.Complete)) (Some round.Complete)
    (cond (eqb n (round_number round.Collect)) (Some round.Collect)
    (cond (eqb n (round_number round.Filter)) (Some round.Filter)
    (cond (eqb n (round_number round.Repair)) (Some round.Repair) None)))))

-- what a round sends, and what it awaits
abbrev pub request_of : Round → Kind
request_of round.Clock = kind.Clock
request_of round.Store = kind.Store
request_of round.Complete = kind.Complete
request_of round.Collect = kind.Collect
request_of round.Filter = kind.Filter
request_of round.Repair = kind.Repair

abbrev pub reply_of : Round → Kind
reply_of round.Clock = kind.ClockReply
reply_of round.Store = kind.StoreReply
reply_of round.Complete = kind.CompleteReply
reply_of round.Collect = kind.CollectReply
reply_of round.Filter = kind.FilterReply
reply_of round.Repair = kind.RepairReply

-- ---- what a reply to store says

abbrev pub code_number : Code → ℕ
code_number code.Kept = 0
code_number code.Held = 10
code_number code.Full = 11

abbrev pub code_told : ℕ → Option Code
code_told n =
    cond (eqb n (code_number code.Kept)) (Some code.Kept)
    (cond (eqb n (code_number code.Held)) (Some code.Held)
    (cond (eqb n (code_number code.Full)) (Some code.Full) None))
