-- Answers in document 01's numbers: a refusal is read as it was told, and what code returned in two cases has different answers, so that an answer
-- determines what code returned. Each table has an inverse, by the result. Assumes nothing.
use mathlib.Core.Path.{◌≡◌, refl, sym, ap, ◌∙◌}
use mathlib.Core.Bool.{cond}
use mathlib.Core.List.{List}
use Prim.Native.Nat.{ℕ, ◌+◌, ◌-◌, ◌≤◌}
use native.Mathlib.Omega.{arith}
use lib.Dec.{leb, eqb}
use borrow.Author.Tests.{le-leb}
use Rattle.std.specs.Prelude.{Ok, Err}
use Rattle.std.specs.declared.result.Result.{Result}
use Rattle.cluster.specs.declared.Refusal.{Refusal}
use Rattle.cluster.specs.declared.Refusal.TheVariants.{MemorySize, Memory, Faults, Server, Client, Length, Layout, Addressee, Sender, Reply, Hand, Numbers, Room, Fragments, Line, Stores, WrongSize}
use Rattle.cluster.specs.Refusals.{refusal_number}
use Rattle.protocol.specs.declared.Answer.{Answer}
use Rattle.protocol.specs.declared.Taken.{Taken}
use Rattle.protocol.specs.declared.Taken.TheVariants as taken
use Rattle.protocol.specs.declared.Aborted.{Aborted}
use Rattle.protocol.specs.declared.Aborted.TheVariants as aborts
use Rattle.protocol.specs.Answers.{refusals, refused_answer, taken_told, aborted_told, result_by}
use Rattle.protocol.specs.Client.{refused}

refusal_back : (n : ℕ) → refusals + n - refusals ≡ n
refusal_back n = omega arith

-- the answer to a refused call says so
pub refused_back : (n : ℕ) (output : List ℕ) → result_by (refused_answer n) output ≡ refused n
refused_back n output = rw (le-leb refusals (refusals + n) (omega arith), refusal_back n) refl

-- ---- the inverse of each table

refusal_by : ℕ → Refusal
refusal_by n =
    cond (eqb n 1) MemorySize
    (cond (eqb n 2) Memory
    (cond (eqb n 3) Faults
    (cond (eqb n 4) Server
    (cond (eqb n 5) Client
    (cond (eqb n 6) Length
    (cond (eqb n 7) Layout
    (cond (eqb n 8) Addressee
    (cond (eqb n 9) Sender
    (cond (eqb n 12) Reply
    (cond (eqb n 13) Hand
    (cond (eqb n 14) Numbers
    (cond (eqb n 15) Room
    (cond (eqb n 16) Fragments
    (cond (eqb n 17) Line
    (cond (eqb n 18) Stores WrongSize)))))))))))))))

refusal_known : (why : Refusal) → refusal_by (refusal_number why) ≡ why
unfolding refusal_by
refusal_known MemorySize = refl
refusal_known Memory = refl
refusal_known Faults = refl
refusal_known Server = refl
refusal_known Client = refl
refusal_known Length = refl
refusal_known Layout = refl
refusal_known Addressee = refl
refusal_known Sender = refl
refusal_known Reply = refl
refusal_known Hand = refl
refusal_known Numbers = refl
refusal_known Room = refl
refusal_known Fragments = refl
refusal_known Line = refl
refusal_known Stores = refl
refusal_known WrongSize = refl

refusal_told : (why : Refusal) → refusal_by (refusals + refusal_number why - refusals) ≡ why
refusal_told why = ap refusal_by (refusal_back (refusal_number why)) ∙ refusal_known why

taken_by : Answer → Result Taken Refusal
taken_by a =
    let n = a.result in
    cond (leb refusals n) (Err (refusal_by (n - refusals)))
    (cond (eqb n 0) (Ok taken.More) (cond (eqb n 1) (Ok (taken.Written a.number a.writer))
    (cond (eqb n 2) (Ok (taken.Read a.number a.writer a.length)) (Ok taken.Blank))))

taken_back : (x : Result Taken Refusal) → taken_by (taken_told x) ≡ x
unfolding taken_by
taken_back (Err why) = rw (le-leb refusals (refusals + refusal_number why) (omega arith)) (ap Err (refusal_told why))
taken_back (Ok taken.More) = refl
taken_back (Ok (taken.Written k w)) = refl
taken_back (Ok (taken.Read k w n)) = refl
taken_back (Ok taken.Blank) = refl

aborted_by : Answer → Result Aborted Refusal
aborted_by a =
    let n = a.result in
    cond (leb refusals n) (Err (refusal_by (n - refusals))) (cond (eqb n 4) (Ok aborts.Before) (Ok aborts.InComplete))

aborted_back : (x : Result Aborted Refusal) → aborted_by (aborted_told x) ≡ x
unfolding aborted_by
aborted_back (Err why) = rw (le-leb refusals (refusals + refusal_number why) (omega arith)) (ap Err (refusal_told why))
aborted_back (Ok aborts.Before) = refl
aborted_back (Ok aborts.InComplete) = refl

-- ---- an answer determines what was returned

pub taken_injective : (x y : Result Taken Refusal) → taken_told x ≡ taken_told y → x ≡ y
taken_injective x y e = sym (taken_back x) ∙ ap taken_by e ∙ taken_back y

pub aborted_injective : (x y : Result Aborted Refusal) → aborted_told x ≡ aborted_told y → x ≡ y
aborted_injective x y e = sym (aborted_back x) ∙ ap aborted_by e ∙ aborted_back y

-- ---- an answer's result fits a byte above the refusals

refusal-few : (why : Refusal) → refusal_number why ≤ 255
refusal-few MemorySize = omega arith
refusal-few Memory = omega arith
refusal-few Faults = omega arith
refusal-few Server = omega arith
refusal-few Client = omega arith
refusal-few Length = omega arith
refusal-few Layout = omega arith
refusal-few Addressee = omega arith
refusal-few Sender = omega arith
refusal-few Reply = omega arith
refusal-few Hand = omega arith
refusal-few Numbers = omega arith
refusal-few Room = omega arith
refusal-few Fragments = omega arith
refusal-few Line = omega arith
refusal-few Stores = omega arith
refusal-few WrongSize = omega arith

pub taken-few : (x : Result Taken Refusal) → (taken_told x).result ≤ refusals + 255
taken-few (Err why) = omega (arith, refusal-few why)
taken-few (Ok taken.More) = omega arith
taken-few (Ok (taken.Written k w)) = omega arith
taken-few (Ok (taken.Read k w n)) = omega arith
taken-few (Ok taken.Blank) = omega arith

pub aborted-few : (x : Result Aborted Refusal) → (aborted_told x).result ≤ refusals + 255
aborted-few (Err why) = omega (arith, refusal-few why)
aborted-few (Ok aborts.Before) = omega arith
aborted-few (Ok aborts.InComplete) = omega arith
