-- Each round's step as the relation that the contracts of the code cite: what its function answers is what the definition says of the reply.
-- By the round's law, with the code's answer put in. Assumes nothing.
use Rattle.std.specs.Prelude.{Ok}
use mathlib.Core.Path.{◌≡◌, refl, sym, ap, ◌∙◌}
use mathlib.Core.Bool.{Bool, true, false, cond}
use mathlib.Core.List.{List}
use Prim.Native.Nat.{ℕ, ◌+◌, ◌-◌, ◌*◌, ◌≤◌}
use lib.Dec.{eqb}
use lib.ListN.{length, drop, get_or}
use lib.Seq.{get_or-drop}
use Rattle.cluster.specs.Config.{shelf}
use Rattle.cluster.specs.Ranges.{content_room}
use Rattle.protocol.specs.declared.Call.{Call}
use Rattle.protocol.specs.declared.Head.{Head}
use Rattle.protocol.specs.declared.Taken.TheVariants as taken
use Rattle.format.specs.Format.{Bytes}
use Rattle.protocol.specs.Packet.{head_size}
use Rattle.format.specs.Reading.{over, put}
use Rattle.protocol.specs.View.{chosen_of, content_of, candidates_place, candidate_slot}
use Rattle.protocol.specs.ClientBytes.{key_of, fresh}
use Rattle.client.specs.Rounds.{take_by_rounds, counted, noted, ends, with_tally_def}
use Rattle.client.specs.declared.answers.Answered.{Answered}
use Rattle.client.specs.Answers.{answered, written_as_def, read_as}
use Rattle.client.specs.Steps.{Ready, TakesAs}
use Rattle.client.proofs.TakenReplies.{took-store, took-complete, took-collect, took-repair}

-- an answer by a test, with and without an output by the same test
by-test : (c : Call) (e : Bool) (a b : Answered) (kept output : List ℕ)
    → answered c (Ok (cond e a b)) kept output ≡ cond e (answered c (Ok a) kept output) (answered c (Ok b) kept output)
by-test c true a b kept output = refl
by-test c false a b kept output = refl

by_both : (c : Call) (e : Bool) (a b : Answered) (kept o p : List ℕ)
    → answered c (Ok (cond e a b)) kept (cond e o p) ≡ cond e (answered c (Ok a) kept o) (answered c (Ok b) kept p)
by_both c true a b kept o p = refl
by_both c false a b kept o p = refl

module _ (t client : ℕ) (writers : List ℕ) (keys : List (List ℕ)) (c : Call) (kept reply output : List ℕ) (h : Head) (y : Ready t client c reply h)
    (room : content_room ≤ length output) where
  -- the call after a reply to store, by the code in it
  abbrev stored : ℕ → Answered
  stored code = record {
    answer = taken.More;
    call = with_tally_def c (cond (eqb code 11) (counted (shelf t) c.tally)
        (cond (ends (shelf t) c h.server) (fresh 3) (noted (shelf t) c.tally h.server)));
  }

  abbrev noting : Answered
  noting = record { answer = taken.More; call = with_tally_def c (noted (shelf t) c.tally h.server) }

  abbrev wrote : Answered
  wrote = record { answer = written_as_def (chosen_of (shelf t) kept).stamp; call = with_tally_def c (fresh 0) }

  abbrev collected : Answered
  collected = record {
    answer = taken.More;
    call = with_tally_def c (cond (ends (shelf t) c h.server) (fresh 5)
        (noted (shelf t) c.tally h.server));
  }

  abbrev delivered : Answered
  delivered = record { answer = read_as (chosen_of (shelf t) kept).stamp (length (content_of c kept)); call = with_tally_def c (fresh 0) }

  pub takes-store : c.tally.round ≡ 2 → (code : ℕ) → code ≡ get_or reply head_size 0 → (a : Answered) → a ≡ stored code → TakesAs t client writers keys
      c kept reply output (Ok a) kept output
  unfolding take_by_rounds
  takes-store e code d a r =
      ap (λ (z : Answered). answered c (Ok z) kept output) (r ∙ ap stored (d ∙ sym (get_or-drop head_size reply 0 0)))
      ∙ sym (took-store t client writers (key_of keys) c kept output reply h y room e)

  pub takes-complete : c.tally.round ≡ 3 → (a : Answered) → a ≡ cond (ends (shelf t) c h.server) wrote noting
      → TakesAs t client writers keys c kept reply
      output (Ok a) kept output
  unfolding take_by_rounds
  takes-complete e a r =
      ap (λ (z : Answered). answered c (Ok z) kept output) r
      ∙ (by-test c (ends (shelf t) c h.server) wrote noting kept output
      ∙ sym (took-complete t client writers (key_of keys) c kept output reply h y room e))

  pub takes-collect : c.tally.round ≡ 4 → Bytes reply → (body : List ℕ) → body ≡ drop head_size reply → (a : Answered) → a ≡ collected
      → (kept' : List ℕ) → kept' ≡ put kept (candidates_place + candidate_slot * (h.server - 1)) body
      → TakesAs t client writers keys c kept reply output
      (Ok a) kept' output
  unfolding take_by_rounds
  takes-collect e bs body d a r kept' k =
      ap (λ (z : Answered). answered c (Ok z) kept' output) r
      ∙ (ap (λ (z : List ℕ). answered c (Ok collected) z output) (k ∙ ap (put kept (candidates_place + candidate_slot * (h.server - 1))) d)
      ∙ sym (took-collect t client writers (key_of keys) c kept output reply h y room bs e))

  pub takes-repair : c.tally.round ≡ 6 → (a : Answered) → a ≡ cond (ends (shelf t) c h.server) delivered noting
      → (output' : List ℕ) → output' ≡ cond (ends (shelf t) c h.server) (over (content_of c kept) output) output
      → TakesAs t client writers keys c kept reply
      output (Ok a) kept output'
  unfolding take_by_rounds
  takes-repair e a r output' o =
      ap (λ (z : Answered). answered c (Ok z) kept output') r
      ∙ (ap (λ (z : List ℕ). answered c (Ok (cond (ends (shelf t) c h.server) delivered noting)) kept z) o
      ∙ (by_both c (ends (shelf t) c h.server) delivered noting kept (over (content_of c kept) output) output
      ∙ sym (took-repair t client writers (key_of keys) c kept output reply h y room e)))
