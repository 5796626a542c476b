-- What each round does with a reply that is taken, as one record: the answer, the call, the kept bytes and the output.
-- Each is by cases on the round's tests. Assumes nothing.
use mathlib.Core.Path.{◌≡◌, refl}
use mathlib.Core.Bool.{Bool, true, false, cond}
use mathlib.Core.List.{List}
use mathlib.Core.Option.{some}
use Prim.Native.Nat.{ℕ, ◌+◌, ◌-◌, ◌*◌}
use lib.Dec.{eqb}
use lib.ListN.{length}
use Rattle.cluster.specs.Config.{shelf}
use Rattle.protocol.specs.declared.Call.{Call}
use Rattle.protocol.specs.declared.Tally.{Tally}
use Rattle.protocol.specs.declared.Head.{Head}
use Rattle.protocol.specs.declared.Taken.{Taken}
use Rattle.protocol.specs.declared.Taken.TheVariants as taken
use Rattle.protocol.specs.Answers.{taken_answer}
use Rattle.protocol.specs.Packet.{Body, any_candidate_f}
use Rattle.protocol.specs.Primitives.{real}
use Rattle.protocol.specs.Rules.{ByServer}
use Rattle.protocol.specs.Client.{candidate_in, code_in}
use Rattle.format.specs.Reading.{over, put}
use Rattle.protocol.specs.View.{chosen_of, content_of, candidates_place, candidate_slot}
use Rattle.protocol.specs.ClientBytes.{Took, fresh}
use Rattle.client.specs.Answers.{written_as_def, read_as}
use Rattle.client.specs.Rounds.{took, take_on, take_store_def, take_complete_def, take_collect_def, take_repair_def, delivers, counted, noted, ends, with_tally_def}

module _ (t client : ℕ) (writers : List ℕ) (keys : ByServer (List ℕ)) (c : Call) (kept output : List ℕ) (h : Head) (x : Body) where
  abbrev on : ℕ → Took
  on r = take_on real (shelf t) client writers keys c kept output r (some (record { head = h; body = x }))

  -- the call goes on; it ends
  abbrev going : Call → List ℕ → Took
  going c' k = record { answer = taken_answer taken.More; call = c'; kept = k; output = output }

  abbrev ending : Taken → List ℕ → Took
  ending a o = record { answer = taken_answer a; call = with_tally_def c (fresh 0); kept = kept; output = o }

  abbrev marks : Tally
  marks = noted (shelf t) c.tally h.server

  goes : (e : Bool) (y z : Tally) (k : List ℕ) → cond e (going (with_tally_def c y) k) (going (with_tally_def c z) k) ≡ going (with_tally_def c (cond e y z)) k
  goes true y z k = refl
  goes false y z k = refl

  stored : (b e : Bool) (x y z : Tally)
      → cond b (going (with_tally_def c x) kept) (cond e (going (with_tally_def c y) kept) (going (with_tally_def c z) kept))
      ≡ going (with_tally_def c (cond b x (cond e y z))) kept
  stored true e x y z = refl
  stored false e x y z = goes e y z kept

  pub on_store : on 2
      ≡ going (with_tally_def c (cond (eqb (code_in x) 11) (counted (shelf t) c.tally) (cond (ends (shelf t) c h.server) (fresh 3) marks))) kept
  unfolding take_on take_store_def took
  on_store = stored (eqb (code_in x) 11) (ends (shelf t) c h.server) (counted (shelf t) c.tally) (fresh 3) marks

  pub on-complete : on 3 ≡ cond (ends (shelf t) c h.server) (ending (written_as_def (chosen_of (shelf t) kept).stamp) output)
      (going (with_tally_def c marks) kept)
  unfolding take_on take_complete_def took
  on-complete = refl

  pub on-collect : on 4
      ≡ going (with_tally_def c (cond (ends (shelf t) c h.server) (fresh 5) marks)) (put kept (candidates_place + candidate_slot * (h.server - 1))
      ((any_candidate_f (shelf t)).print (candidate_in (shelf t) x)))
  unfolding take_on take_collect_def took
  on-collect = goes (ends (shelf t) c h.server) (fresh 5) marks (put kept (candidates_place + candidate_slot * (h.server - 1))
      ((any_candidate_f (shelf t)).print (candidate_in (shelf t) x)))

  pub on-repair : on 6
      ≡ cond (ends (shelf t) c h.server) (ending (read_as (chosen_of (shelf t) kept).stamp (length (content_of c kept)))
      (over (content_of c kept) output)) (going (with_tally_def c marks) kept)
  unfolding take_on take_repair_def delivers took
  on-repair = refl
