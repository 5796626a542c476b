-- Refusals as an ordered list of tests (document 01, "What is turned down": if several apply, the lowest is given).
-- The order is the list's own, so that a later table may put a new number anywhere.
use Rattle.std.specs.Prelude.{Bool, true, false, cond, List, [], ◌∷◌, ℕ, zero, suc, eqb, Result, Ok, Err}
use Rattle.cluster.specs.declared.Outcome.{Outcome}
use Rattle.cluster.specs.declared.Refusal.{Refusal}
use Rattle.cluster.specs.declared.Refusal.TheVariants.{MemorySize, Memory, Faults, Server, Client, Length, Layout, Addressee, Sender, Reply, Hand, Numbers, Room, Fragments, Line, Stores, WrongSize}

pub record Check : Type 0 where
  pub number : ℕ
  pub when : Bool

abbrev pub refuse : ℕ → Bool → Check
refuse n b = record { number = n; when = b }

-- A number above those of documents 01 and 02: a lent buffer, for whose length the table has no number, is not of its size.
-- Only callers that lend slices can meet it, and it is tested before all others (making a packet tests 15 first)
abbrev pub wrong_size : ℕ
wrong_size = 255

-- the number of the first test that applies, or 0
abbrev pub first_of : List Check → ℕ
first_of [] = 0
first_of (c ∷ cs) = cond c.when c.number (first_of cs)

-- accepted, or refused with a number
abbrev pub on_refusal : {A : Type 0} → ℕ → A → A → A
on_refusal zero accepted refused = accepted
on_refusal (suc n) accepted refused = refused

-- A where the test holds; where it does not, nothing that could be so
abbrev pub Where : Bool → Type 0 → Type 0
Where true A = A
Where false A = ⊥

-- what an answer says by its number: A where it is 0, B where it is the refusal n; it has no third
abbrev pub ByNumber : ℕ → Type 0 → Type 0 → ℕ → Type 0
ByNumber n A B zero = A
ByNumber n A B (suc m) = Where (eqb (suc m) n) B

-- a refusal's number in the tables of documents 01 and 02
abbrev pub refusal_number : Refusal → ℕ
refusal_number MemorySize = 1
refusal_number Memory = 2
refusal_number Faults = 3
refusal_number Server = 4
refusal_number Client = 5
refusal_number Length = 6
refusal_number Layout = 7
refusal_number Addressee = 8
refusal_number Sender = 9
refusal_number Reply = 12
refusal_number Hand = 13
refusal_number Numbers = 14
refusal_number Room = 15
refusal_number Fragments = 16
refusal_number Line = 17
refusal_number Stores = 18
refusal_number WrongSize = wrong_size

-- 0, or the refusal's number
abbrev pub number_told : {A : Type 0} → Result A Refusal → ℕ
number_told (Ok a) = 0
number_told (Err why) = refusal_number why

-- the number and the bytes written, none by a refusal
abbrev pub outcome_told : Result ℕ Refusal → Outcome
outcome_told (Ok count) = record { number = 0; count = count }
outcome_told (Err why) = record { number = refusal_number why; count = 0 }

-- the same where nothing is written
abbrev pub done_told : Result (Unit {0}) Refusal → Outcome
done_told (Ok u) = record { number = 0; count = 0 }
done_told (Err why) = record { number = refusal_number why; count = 0 }
