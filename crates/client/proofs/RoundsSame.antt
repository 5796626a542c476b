-- A reply in its round: what the step by rounds on bytes gives is what the step on values gives, put back into the bytes.
-- In each round the same bytes are written. Nothing is assumed.
use mathlib.Core.Path.{◌≡◌, refl, sym, ◌∙◌}
use mathlib.Core.Bool.{Bool, true, false, cond}
use mathlib.Core.List.{List, [], ◌∷◌}
use mathlib.Core.Option.{Option, none, some}
use Prim.Native.Nat.{ℕ, ◌-◌}
use lib.Dec.{eqb}
use lib.ListN.{length, set}
use Rattle.cluster.specs.Config.{Config}
use Rattle.protocol.specs.declared.Call.{Call}
use Rattle.protocol.specs.declared.Taken.TheVariants as taken
use Rattle.protocol.specs.Values.{Candidate, Held, label_of, same_list}
use Rattle.protocol.specs.Packet.{Body, candidate_f}
use Rattle.protocol.specs.Primitives.{Primitives}
use Rattle.protocol.specs.Rules.{ByServer, count_to, upd, nobody, gather, live, choice, leader, restored_by, tags_in}
use Rattle.protocol.specs.Client.{more, gave, idle, storing, completing, repairing, awaits, onto, update, judge, found, prepared, code_in, held_in_def}
use Rattle.format.specs.Reading.{over, put}
use Rattle.protocol.specs.View.{marked, chosen_of, shares_in, candidates_in, replies_in, hand_of, view, chosen_place}
use Rattle.protocol.specs.ClientBytes.{fresh, Took, begins, put_back, after, took_by}
use Rattle.protocol.proofs.Marks.{count-nobody}
use Rattle.protocol.proofs.PutMarks.{marks-same}
use Rattle.protocol.proofs.Noted.{Reply, in_round, with_mark, collected, filtered, fresh-marks, noted-marks, marks_now, slots_now, replies_now}
use Rattle.client.specs.Rounds.{counted, noted, with_tally_def, took, delivers, take_clock_def, take_store_def, take_complete_def, take_collect_def, take_filter_def, take_repair_def, found_in, judge_in}

module _ (P : Primitives) (client : ℕ) (writers : List ℕ) (keys : ByServer (List ℕ)) (output : List ℕ)
    {s : Config} {c : Call} {kept : List ℕ} {b : ℕ} {x : Body} (a : Reply s c kept b x) where
  abbrev C : ℕ → Call
  C r = in_round c r

  abbrev m : ByServer Bool
  m = with_mark c b

  -- what the step on values leaves in round r: q tells that with this reply a quorum has replied, k are the kept bytes with it
  abbrev stepped : ℕ → List ℕ → Bool → Took
  stepped r k q = took_by s (C r) kept k output (update P s client writers keys (view s (C r) kept) b x m q (hand_of s r (C r) kept))

  none-counted : count_to s.servers nobody ≡ 0
  none-counted = count-nobody s.servers

  pub clock_one : (q : Bool) → stepped 1 kept q ≡ take_clock_def P s client writers keys (C 1) kept output q b x
  unfolding update take_clock_def took view hand_of onto prepared took_by after put_back begins awaits over fresh noted
  clock_one true = rw (fresh-marks a, none-counted)
  clock_one false = rw (noted-marks a)

  pub store_one : (q : Bool) → stepped 2 kept q ≡ take_store_def P s client writers keys (C 2) kept output q b x
  unfolding update take_store_def took view hand_of onto took_by after put_back begins awaits over fresh counted noted
  store_one q = go (eqb (code_in x) 11) q
    where
      go : (z q : Bool)
          → took_by s (C 2) kept kept output
          (cond z (record { client = view s (C 2) kept; result = more })
          (cond q (record { client = onto (view s (C 2) kept) nobody (completing (chosen_of s kept)); result = more })
          (record { client = onto (view s (C 2) kept) m (storing (chosen_of s kept) (shares_in s kept)); result = more })))
          ≡ cond z (took P s client writers keys (C 2) kept output taken.More (with_tally_def (C 2) (counted s (C 2).tally)) kept)
          (cond q (took P s client writers keys (C 2) kept output taken.More (with_tally_def (C 2) (fresh 3)) kept)
          (took P s client writers keys (C 2) kept output taken.More (with_tally_def (C 2) (noted s (C 2).tally b)) kept))
      go true q = rw (marks-same c.tally.marks)
      go false true = rw (fresh-marks a, none-counted)
      go false false = rw (noted-marks a)

  pub complete_one : (q : Bool) → stepped 3 kept q ≡ take_complete_def P s client writers keys (C 3) kept output q b
  unfolding update take_complete_def took view hand_of onto took_by after put_back begins awaits over fresh noted
  complete_one true = rw (fresh-marks a, none-counted)
  complete_one false = rw (noted-marks a)

  pub repair_one : (q : Bool) → stepped 6 kept q ≡ take_repair_def P s client writers keys (C 6) kept output q b
  unfolding update take_repair_def took delivers view hand_of onto took_by after put_back begins awaits over fresh noted
  repair_one true = rw (fresh-marks a, none-counted)
  repair_one false = rw (noted-marks a)

  pub collect_one : (q : Bool) → stepped 4 (collected s kept b x) q ≡ take_collect_def P s client writers keys (C 4) kept output q b x
  unfolding update take_collect_def took view hand_of onto took_by after put_back begins awaits over fresh noted
  collect_one true = rw (fresh-marks a, none-counted)
  collect_one false = rw (noted-marks a)

  -- ---- filter

  abbrev k : List ℕ
  k = filtered s kept b x

  abbrev g : ByServer Held
  g = upd (replies_in s c.tally.marks kept) b (held_in_def x)

  abbrev cs : List Candidate
  cs = gather (candidates_in s kept) s.servers

  abbrev c' : Call
  c' = with_tally_def (C 5) (noted s (C 5).tally b)

  -- the step by rounds, over the values that the bytes show
  abbrev judged : Bool → ByServer Bool → ByServer Held → List Candidate → Took
  judged q m g cs =
      cond q (judge_in P s client writers keys (C 5) kept output c' m g k (live P s m g cs) (choice P s m g cs))
      (took P s client writers keys (C 5) kept output taken.More c' k)

  found_one : (d : Candidate) (n : ℕ)
      → took_by s (C 5) kept k output (found P s client writers keys (view s (C 5) kept) m g d n)
      ≡ found_in P s client writers keys (C 5) kept output m g k d n
  unfolding found found_in delivers took view onto took_by after put_back begins awaits over fresh
  found_one d n = go (same_list (tags_in P s d (g n).share) d.tags) (tags_in P s d (g n).share) (restored_by P s m g d n (g n).share)
    where
      go : (z : Bool) (tags content : List ℕ)
          → took_by s (C 5) kept k output
          (cond z (record { client = onto (view s (C 5) kept) nobody idle; result = gave (label_of d.stamp) content })
          (record {
            client = onto (view s (C 5) kept) nobody (repairing (record { stamp = d.stamp; nonce = d.nonce; tags = tags }) content);
            result
                = more;
          }))
          ≡ cond z (delivers P s client writers keys (C 5) kept output d.stamp content k)
          (took P s client writers keys (C 5) kept output taken.More
          (record { number = c.number; last = c.last; high = c.high; length = length content; tally = fresh 6 })
          (put (put k 0 content) chosen_place ((candidate_f s).print (record { stamp = d.stamp; nonce = d.nonce; tags = tags }))))
      go true tags content = rw (fresh-marks a, none-counted)
      go false tags content = rw (fresh-marks a, none-counted)

  judge_one : (l : List Candidate) (o : Option Candidate)
      → took_by s (C 5) kept k output (judge P s client writers keys (view s (C 5) kept) m cs g l o)
      ≡ judge_in P s client writers keys (C 5) kept output c' m g k l o
  unfolding judge judge_in took view onto took_by after put_back begins awaits over fresh noted
  judge_one [] o = rw (fresh-marks a, none-counted)
  judge_one (y ∷ l) none = rw (noted-marks a)
  judge_one (y ∷ l) (some d) = found_one d (leader P s m g d s.servers)

  pub filter_one : (q : Bool) → stepped 5 k q ≡ take_filter_def P s client writers keys (C 5) kept output q b x
  filter_one q = values q ∙ sym (λ i. judged q (marks_now a i) (replies_now a i) (gather (slots_now a i) s.servers)) ∙ bytes q
    where
      ended : stepped 5 k true ≡ judged true m g cs
      ended = unfold update hand_of view in judge_one (live P s m g cs) (choice P s m g cs)

      going : stepped 5 k false ≡ judged false m g cs
      going = unfold update hand_of view took onto took_by after put_back begins awaits over noted in rw (noted-marks a)

      values : (q : Bool) → stepped 5 k q ≡ judged q m g cs
      values true = ended
      values false = going

      bytes : (q : Bool) → let zs = set c.tally.marks (b - 1) 1 in
          judged q (marked zs) (replies_in s zs k) (gather (candidates_in s k) s.servers)
          ≡ take_filter_def P s client writers keys (C 5) kept output q b x
      bytes q = unfold take_filter_def noted in refl
