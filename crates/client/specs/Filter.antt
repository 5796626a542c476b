-- What private functions promise each other; no public contract names these.
-- The steps of the filter round, one for each function of the code. A slot is counted from 0, a server from 1.
use Rattle.std.specs.Prelude.{cond, List, ◌++◌, ℕ, suc, ◌+◌, ◌-◌, ◌*◌, eqb, length, replicate}
use Rattle.cluster.specs.Config.{shelf}
use Rattle.cluster.specs.Ranges.{content_room}
use Rattle.protocol.specs.declared.Call.{Call}
use Rattle.protocol.specs.declared.Taken.TheVariants as taken
use Rattle.protocol.specs.Values.{stamp_size, nonce_size, tags_size_def}
use Rattle.protocol.specs.Answers.{bare, taken_answer}
use Rattle.format.specs.Reading.{over, bytes_at, put}
use Rattle.protocol.specs.View.{chosen_place, candidates_place, candidate_slot, candidates_in, replies_place, reply_slot}
use Rattle.protocol.specs.ClientBytes.{Took, fresh}
use Rattle.client.specs.Answers.{read_as}
use Rattle.client.specs.Rounds.{with_tally_def}
use Rattle.decide.specs.declared.Decision.TheVariants as decisions
use Rattle.decide.specs.Decided.{Verdict, decision_answer, Decided, tags_place_def, same_tags_def, decided}

-- the candidate of slot i with the tags in server b's reply, of a content of n bytes
unfoldable pub repair_bytes : ℕ → List ℕ → ℕ → ℕ → ℕ → List ℕ
repair_bytes t kept i b n =
    bytes_at kept (candidates_place + candidate_slot * i) (stamp_size + nonce_size)
    ++ bytes_at kept (replies_place + reply_slot * (b - 1) + tags_place_def t n) (tags_size_def (shelf t))

-- the call in its repair round, with a content of n bytes
abbrev pub repair_call : Call → ℕ → Call
repair_call c n = record { number = c.number; last = c.last; high = c.high; length = n; tally = fresh 6 }

-- the candidate of slot i is chosen, and server b leads its group: its content is delivered, or with other tags than the group's it is repaired first
unfoldable pub found_at : ℕ → Call → List ℕ → List ℕ → ℕ → ℕ → List ℕ → Took
found_at t c kept output i b content =
    cond (same_tags_def t kept i b)
    (record {
      answer = taken_answer (read_as (candidates_in (shelf t) kept (suc i)).stamp (length content));
      call = with_tally_def c (fresh 0);
      kept = kept;
      output = over content output;
    })
    (record {
      answer = taken_answer taken.More;
      call = repair_call c (length content);
      kept = put (put kept 0 content) chosen_place (repair_bytes t kept i b (length content));
      output = output;
    })

-- what a verdict leads to: what is found goes on as above, with the content at the start of room; else the reply has the verdict's result, and
-- blank ends the call
unfoldable pub judged_by : ℕ → Call → List ℕ → List ℕ → Verdict → List ℕ → Took
judged_by t c kept output v room =
    cond (eqb v.result (decision_answer (decisions.Found 0 0 0)).result)
    (found_at t c kept output v.slot v.server (bytes_at room 0 v.length))
    (record {
      answer = bare v.result;
      call = cond (eqb v.result (decision_answer decisions.Blank).result) (with_tally_def c (fresh 0)) c;
      kept = kept;
      output = output;
    })

-- the decision over the replies of the servers that the call marks, with room for a content
abbrev pub decided_now : ℕ → Call → List ℕ → Decided
decided_now t c kept = decided t c.tally.marks kept (replicate content_room 0)

unfoldable pub judged_in : ℕ → Call → List ℕ → List ℕ → Took
judged_in t c kept output = judged_by t c kept output (decided_now t c kept).answer (decided_now t c kept).output
