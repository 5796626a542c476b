-- What a row shows of an answer, case by case. By cases. Assumes nothing.
use mathlib.Core.Path.{◌≡◌, refl, sym, ap, ◌∙◌}
use mathlib.Core.List.{List, []}
use mathlib.Core.Logic.{◌≢◌}
use Prim.Native.Nat.{ℕ, zero, suc}
use lib.ListN.{length, take, get_or}
use Rattle.std.specs.Prelude.{Result, Ok, Err, MatchResult, IsOkAnd}
use Rattle.cluster.specs.declared.Refusal.{Refusal}
use Rattle.cluster.specs.Refusals.{refusal_number, number_told}
use Rattle.erasure.proofs.Refused.{refused-number}
use Rattle.protocol.specs.declared.Answer.{Answer}
use Rattle.protocol.specs.declared.Taken.{Taken}
use Rattle.protocol.specs.declared.Taken.TheVariants as taken
use Rattle.protocol.specs.declared.Aborted.{Aborted}
use Rattle.protocol.specs.declared.Aborted.TheVariants as aborts
use Rattle.protocol.specs.Answers.{refused_answer, taken_answer, taken_told, aborted_told}
use Rattle.protocol.specs.Client.{refused, more}
use Rattle.format.specs.Reading.{bytes_at}
use Rattle.runs.specs.Runs.{result_of, result_by}
use Rattle.protocol.proofs.Told.{refused_back}
use Rattle.drill.specs.Steps.{shown_as, shown}

shown-more : shown_as (taken_answer taken.More) [] ≡ shown more
unfolding shown
shown-more = refl

-- a refusal has no values
pub shown-refused : (n : ℕ) → shown_as (refused_answer n) [] ≡ shown (refused n)
unfolding shown
shown-refused n = refl

number_refused : (n : ℕ) → n ≢ 0 → refused n ≡ result_of n
number_refused zero h = absurd (h refl)
number_refused (suc n) h = refl

-- the row of a beginning
pub shown-begun : (r : Result (Unit {0}) Refusal) (s : Result Taken Refusal) → MatchResult r (λ u. s ≡ Ok taken.More) (λ why. s ≡ Err why)
    → shown_as (taken_told s) [] ≡ shown (result_of (number_told r))
shown-begun (Ok u) s e = rw e shown-more
shown-begun (Err why) s e =
    rw e (shown-refused (refusal_number why) ∙ ap shown (number_refused (refusal_number why) (refused-number why)))

pub mapped : {R : Unit {0} → Taken → Type 0} (r : Result (Unit {0}) Refusal) (s : Result Taken Refusal)
    → MatchResult r (λ u. IsOkAnd s (R u)) (λ why. s ≡ Err why) → ((u : Unit {0}) (t : Taken) → R u t → t ≡ taken.More)
    → MatchResult r (λ u. s ≡ Ok taken.More) (λ why. s ≡ Err why)
mapped (Ok u) (Ok t) h k = ap Ok (k u t h)
mapped (Ok u) (Err why) h k = absurd h
mapped (Err why) s h k = h

-- .. of a refused call, whatever the output holds
pub shown-back : (n : ℕ) (o : List ℕ) → shown (result_by (refused_answer n) o) ≡ shown (refused n)
shown-back n o = ap shown (refused_back n o)

shown-taken : (x : Result Taken Refusal) (o : List ℕ) → shown (result_by (taken_told x) o) ≡ shown_as (taken_told x) (take (taken_told x).length o)
unfolding shown
shown-taken (Err why) o = ap shown (refused_back (refusal_number why) o)
shown-taken (Ok taken.More) o = refl
shown-taken (Ok (taken.Written k w)) o = refl
shown-taken (Ok (taken.Read k w n)) o = unfold shown_as in refl
shown-taken (Ok taken.Blank) o = refl

pub shown-aborted : (x : Result Aborted Refusal) → shown_as (aborted_told x) [] ≡ shown (result_by (aborted_told x) [])
unfolding shown
shown-aborted (Err why) = sym (ap shown (refused_back (refusal_number why) []))
shown-aborted (Ok aborts.Before) = refl
shown-aborted (Ok aborts.InComplete) = refl

-- the row of a taken reply, with the content read from the output
pub row-taken : (x : Result Taken Refusal) (o : List ℕ) (a : Answer) (content : List ℕ) (first : ℕ) → a ≡ taken_told x → content ≡ bytes_at o 0 a.length
    → first ≡ get_or content 0 0
    → record { result = a.result; stamp = a.number; length = length content; first = first } ≡ shown (result_by (taken_told x) o)
unfolding shown_as bytes_at
row-taken x o a content first e p f =
    rw f (ap (shown_as a) p ∙ ap (λ (z : Answer). shown_as z (take z.length o)) e ∙ sym (shown-taken x o))
