-- What a filter round has decided, by document 01's rules on the view of the kept bytes, and the content that it gives.
use Rattle.std.specs.Prelude.{Result, Ok, Err, Bool, cond, not, ◌&&◌, List, [], ◌∷◌, ℕ, zero, suc, ◌+◌, ◌-◌, leb, ltb, eqb, length, drop}
use Rattle.std.proofs.Math.Option.{Option, none, some}
use Rattle.cluster.specs.Config.{Config, shelf}
use Rattle.cluster.specs.Ranges.{within, top_faults, top_length, content_room}
use Rattle.cluster.specs.Refusals.{wrong_size, refuse, first_of, on_refusal, refusal_number}
use Rattle.cluster.specs.declared.Refusal.{Refusal}
use Rattle.erasure.specs.Fragments.{fragment_size_def}
use Rattle.protocol.specs.Values.{Candidate, Share, Held, same_list, same_candidate, stamp_size, digest_size, digests_size_def}
use Rattle.protocol.specs.declared.Taken.TheVariants as taken
use Rattle.protocol.specs.Answers.{refusals, taken_answer}
use Rattle.protocol.specs.Primitives.{real}
use Rattle.protocol.specs.Rules.{ByServer, gather, live, choice, leader, restored_by}
use Rattle.format.specs.Reading.{over}
use Rattle.protocol.specs.View.{kept_size, marked, candidates_in, replies_in, reply_slot_of, share_at}
use Rattle.decide.specs.declared.Decision.{Decision}
use Rattle.decide.specs.declared.Decision.TheVariants as decisions
use Rattle.decide.specs.Listing.{usable}

-- a decision in document 01's numbers ("Drill sheets"): the result and, of what is found, the slot of the candidate, the server that leads its group
-- and the content's length; 0 stands for a value that is not told
pub record Verdict : Type 0 where
  pub result : ℕ
  pub slot : ℕ
  pub server : ℕ
  pub length : ℕ

abbrev pub bare_verdict : ℕ → Verdict
bare_verdict n = record { result = n; slot = 0; server = 0; length = 0 }

-- Goes on and blank have the results of a reply that is taken. What is found may still need repair, so its 2 is the result when the tags
-- agree (client's judged_by says what each does to the call).
abbrev pub decision_answer : Decision → Verdict
decision_answer decisions.Wait = bare_verdict (taken_answer taken.More).result
decision_answer decisions.Blank = bare_verdict (taken_answer taken.Blank).result
decision_answer (decisions.Found i b n) = record { result = (taken_answer (taken.Read 0 0 n)).result; slot = i; server = b; length = n }

-- the same, or a refusal's result
abbrev pub decision_told : Result Decision Refusal → Verdict
decision_told (Ok d) = decision_answer d
decision_told (Err why) = bare_verdict (refusals + refusal_number why)

-- the answer, and the output buffer after it
pub record Decided : Type 0 where
  pub answer : Verdict
  pub output : List ℕ

-- the first of the first n slots that holds the candidate, or n
unfoldable pub slot_of : ByServer Candidate → Candidate → ℕ → ℕ
slot_of g c zero = 0
slot_of g c (suc n) = cond (ltb (slot_of g c n) n) (slot_of g c n) (cond (same_candidate (g (suc n)) c) n (suc n))

module _ (s : Config) (m : ByServer Bool) (g : ByServer Held) (held : ByServer Candidate) (output : List ℕ) where
  -- of those still in the list and of the choice: no candidate is left; none is proven yet; or the slot that holds the choice,
  -- the server that leads its group, and the length of the content, which is written to the output
  unfoldable pub decided_on : List Candidate → Option Candidate → Decided
  decided_on [] o = record { answer = decision_answer decisions.Blank; output = output }
  decided_on (l ∷ ls) none = record { answer = decision_answer decisions.Wait; output = output }
  decided_on (l ∷ ls) (some c) =
      let b = leader real s m g c s.servers in
      let content = restored_by real s m g c b (g b).share in
      record { answer = decision_answer (decisions.Found (slot_of held c s.servers) b (length content)); output = over content output }

-- size: how many kept bytes there are; room: the output's length
unfoldable pub decide_refusal_def : ℕ → ℕ → ℕ → ℕ
decide_refusal_def t size room =
    first_of (refuse wrong_size (not (eqb size kept_size)) ∷ refuse 3 (not (within 1 top_faults t)) ∷ refuse 15 (ltb room content_room) ∷ [])

-- t, marks, kept bytes and output
unfoldable pub decided : ℕ → List ℕ → List ℕ → List ℕ → Decided
decided t marks kept output =
    let s = shelf t in
    let m = marked marks in
    let g = replies_in s marks kept in
    let cs = gather (candidates_in s kept) s.servers in
    let n = decide_refusal_def t (length kept) (length output) in
    on_refusal n (decided_on s m g (candidates_in s kept) output (live real s m g cs) (choice real s m g cs))
    (record { answer = bare_verdict (refusals + n); output = output })

-- where the tags stand in a reply of a content of n bytes: past stamp, byte, length, fragment, digests and nonce digest
abbrev pub tags_place_def : ℕ → ℕ → ℕ
tags_place_def t n = stamp_size + 3 + fragment_size_def (shelf t).threshold n + digests_size_def (shelf t) + digest_size

-- the share in server b's reply, whatever its byte and its mark say
unfoldable pub share_of : ℕ → List ℕ → ℕ → Share
share_of t kept b = share_at (shelf t) (drop (stamp_size + 1) (reply_slot_of kept (b - 1)))

-- server b's reply has a length in its range and the tags of the candidate in slot i
unfoldable pub same_tags_at : ℕ → List ℕ → ℕ → ℕ → Bool
same_tags_at t kept i b =
    leb (share_of t kept b).size top_length && same_list (share_of t kept b).tags (candidates_in (shelf t) kept (suc i)).tags

-- the same, with other arguments false
unfoldable pub same_tags_def : ℕ → List ℕ → ℕ → ℕ → Bool
same_tags_def t kept i b = (usable t kept && (ltb i (shelf t).servers && within 1 (shelf t).servers b)) && same_tags_at t kept i b
