-- What private functions promise each other; no public contract names these.
-- The client's operations by rounds on bytes: a step on the way to the definitions of crate protocol, which they equal
-- for every state (`same_take` and the like in proofs/).
use Rattle.std.specs.Prelude.{Bool, true, cond, ◌&&◌, List, [], ◌∷◌, ℕ, suc, ◌+◌, ◌-◌, ◌*◌, leb, eqb, length, set, replicate}
use Rattle.std.proofs.Math.Option.{Option, none, some}
use Rattle.cluster.specs.Config.{Config, shelf}
use Rattle.cluster.specs.Ranges.{most_servers, top_number}
use Rattle.cluster.specs.Refusals.{on_refusal}
use Rattle.protocol.specs.declared.Stamp.{Stamp}
use Rattle.protocol.specs.declared.Call.{Call}
use Rattle.protocol.specs.declared.Tally.{Tally}
use Rattle.protocol.specs.declared.Taken.{Taken}
use Rattle.protocol.specs.declared.Taken.TheVariants as taken
use Rattle.protocol.specs.declared.Aborted.TheVariants as aborts
use Rattle.protocol.specs.Values.{Candidate, Held, same_list}
use Rattle.protocol.specs.Packet.{Body, Packet, decode, encode, any_candidate_f, candidate_f, held_f}
use Rattle.protocol.specs.Primitives.{Primitives}
use Rattle.protocol.specs.Rules.{ByServer, upd, count_to, gather, live, choice, leader, restored_by, tags_in}
use Rattle.protocol.specs.Client.{is_full_def, higher, stamp_in, code_in, candidate_in, held_in_def, made, candidate_made, shares_made, write_refusal_def, read_refusal_def, make_refusal_def, abort_refusal_def, take_refusal}
use Rattle.protocol.specs.Answers.{taken_answer, aborted_answer, refused_answer}
use Rattle.format.specs.Reading.{over, put}
use Rattle.protocol.specs.View.{view, marked, content_of, nonce_of_def, chosen_of, candidates_in, replies_in, nonce_place, chosen_place, candidate_slot, candidates_place, replies_place, reply_slot}
use Rattle.protocol.specs.ClientBytes.{put_shares, key_of, fresh, in_hand, awaited, Begun, GaveUp, Filled, Took}
use Rattle.client.specs.Answers.{written_as_def, read_as}

-- the count is that of the marks
unfoldable pub counted : Config → Tally → Tally
counted s y = record { round = y.round; count = count_to s.servers (marked y.marks); marks = y.marks }

-- server b has replied in this round
unfoldable pub noted : Config → Tally → ℕ → Tally
noted s y b = record { round = y.round; count = count_to s.servers (upd (marked y.marks) b true); marks = set y.marks (b - 1) 1 }

abbrev pub with_tally_def : Call → Tally → Call
with_tally_def c y = record { number = c.number; last = c.last; high = c.high; length = c.length; tally = y }

-- with server b's reply a quorum has replied
unfoldable pub ends : Config → Call → ℕ → Bool
ends s c b = is_full_def s (upd (marked c.tally.marks) b true)

-- ---- begins, giving up, making a packet

unfoldable pub write_by_rounds : ℕ → ℕ → Call → List ℕ → List ℕ → List ℕ → Begun
write_by_rounds t client c kept content nonce =
    let n = write_refusal_def (shelf t) client (length content) (in_hand c) c.number in
    on_refusal n
    (record {
      result = record { number = n; count = 0 };
      call = record { number = suc c.number; last = c.last; high = c.last; length = length content; tally = fresh 1 };
      kept = put (put kept 0 content) nonce_place nonce;
    })
    (record { result = record { number = n; count = 0 }; call = c; kept = kept })

unfoldable pub read_by_rounds : ℕ → ℕ → Call → List ℕ → Begun
read_by_rounds t client c kept =
    let n = read_refusal_def (shelf t) client (in_hand c) c.number in
    on_refusal n
    (record {
      result = record { number = n; count = 0 };
      call = record { number = suc c.number; last = c.last; high = c.high; length = c.length; tally = fresh 4 };
      kept = put kept candidates_place (replicate (candidate_slot * most_servers) 0);
    })
    (record { result = record { number = n; count = 0 }; call = c; kept = kept })

unfoldable pub abort_by_rounds : ℕ → ℕ → Call → GaveUp
abort_by_rounds t client c =
    let n = abort_refusal_def (shelf t) client (awaited c) in
    on_refusal n (record { answer = aborted_answer (cond (eqb c.tally.round 3) aborts.InComplete aborts.Before); call = with_tally_def c (fresh 0) })
    (record { answer = refused_answer n; call = c })

unfoldable pub make_by_rounds : ℕ → ℕ → ℕ → Call → List ℕ → List ℕ → Filled
make_by_rounds t client b c kept output =
    let n = make_refusal_def (shelf t) client b (awaited c) (length output) in
    let bytes = encode (made t client (view (shelf t) c kept) b) in
    on_refusal n (record { result = record { number = n; count = length bytes }; output = over bytes output })
    (record { result = record { number = n; count = 0 }; output = output })

-- ---- taking a reply

module _ (P : Primitives) (s : Config) (client : ℕ) (writers : List ℕ) (keys : ByServer (List ℕ)) (c : Call) (kept output : List ℕ) where
  -- the answer, with the call and the kept bytes after it, and the output as it was
  unfoldable pub took : Taken → Call → List ℕ → Took
  took a c' k = record { answer = taken_answer a; call = c'; kept = k; output = output }

  -- a content is delivered
  unfoldable pub delivers : Stamp → List ℕ → List ℕ → Took
  delivers stamp content k =
      record { answer = taken_answer (read_as stamp (length content)); call = with_tally_def c (fresh 0); kept = k; output = over content output }

  -- each round takes `e`: this reply is the one that makes a quorum
  unfoldable pub take_clock_def : Bool → ℕ → Body → Took
  take_clock_def e b x =
      let h = higher P writers c.high (stamp_in x) in
      cond e
      (took taken.More (record { number = c.number; last = suc h; high = c.high; length = c.length; tally = fresh 2 })
      (put_shares s (put kept chosen_place ((candidate_f s).print (candidate_made P s client writers keys (nonce_of_def kept) (suc h))))
      (shares_made P s client writers keys (content_of c kept) (nonce_of_def kept) (suc h)) s.servers))
      (took taken.More (record { number = c.number; last = c.last; high = h; length = c.length; tally = noted s c.tally b }) kept)

  unfoldable pub take_store_def : Bool → ℕ → Body → Took
  take_store_def e b x =
      cond (eqb (code_in x) 11) (took taken.More (with_tally_def c (counted s c.tally)) kept)
      (cond e (took taken.More (with_tally_def c (fresh 3)) kept) (took taken.More (with_tally_def c (noted s c.tally b)) kept))

  unfoldable pub take_complete_def : Bool → ℕ → Took
  take_complete_def e b =
      cond e (took (written_as_def (chosen_of s kept).stamp) (with_tally_def c (fresh 0)) kept) (took taken.More (with_tally_def c (noted s c.tally b)) kept)

  unfoldable pub take_collect_def : Bool → ℕ → Body → Took
  take_collect_def e b x =
      let k = put kept (candidates_place + candidate_slot * (b - 1)) ((any_candidate_f s).print (candidate_in s x)) in
      cond e (took taken.More (with_tally_def c (fresh 5)) k) (took taken.More (with_tally_def c (noted s c.tally b)) k)

  unfoldable pub found_in : ByServer Bool → ByServer Held → List ℕ → Candidate → ℕ → Took
  found_in m g k d b =
      let content = restored_by P s m g d b (g b).share in
      let tags = tags_in P s d (g b).share in
      cond (same_list tags d.tags) (delivers d.stamp content k)
      (took taken.More (record { number = c.number; last = c.last; high = c.high; length = length content; tally = fresh 6 })
      (put (put k 0 content) chosen_place ((candidate_f s).print (record { stamp = d.stamp; nonce = d.nonce; tags = tags }))))

  unfoldable pub judge_in : Call → ByServer Bool → ByServer Held → List ℕ → List Candidate → Option Candidate → Took
  judge_in c' m g k [] o = took taken.Blank (with_tally_def c (fresh 0)) k
  judge_in c' m g k (l ∷ ls) none = took taken.More c' k
  judge_in c' m g k (l ∷ ls) (some d) = found_in m g k d (leader P s m g d s.servers)

  unfoldable pub take_filter_def : Bool → ℕ → Body → Took
  take_filter_def e b x =
      let k = put kept (replies_place + reply_slot * (b - 1)) ((held_f s).print (held_in_def x)) in
      let c' = with_tally_def c (noted s c.tally b) in
      let m = marked c'.tally.marks in
      let g = replies_in s c'.tally.marks k in
      let cs = gather (candidates_in s k) s.servers in
      cond e (judge_in c' m g k (live P s m g cs) (choice P s m g cs)) (took taken.More c' k)

  unfoldable pub take_repair_def : Bool → ℕ → Took
  take_repair_def e b =
      cond e (delivers (chosen_of s kept).stamp (content_of c kept) kept) (took taken.More (with_tally_def c (noted s c.tally b)) kept)

  unfoldable pub take_on : ℕ → Option Packet → Took
  take_on r none = took taken.More c kept
  take_on r (some p) =
      let b = p.head.server in
      let e = ends s c b in
      cond (eqb r 1) (take_clock_def e b p.body) (cond (eqb r 2) (take_store_def e b p.body) (cond (eqb r 3) (take_complete_def e b)
      (cond (eqb r 4) (take_collect_def e b p.body) (cond (eqb r 5) (take_filter_def e b p.body) (take_repair_def e b)))))

  unfoldable pub high_in : ℕ → Body → Bool
  high_in b x = eqb c.tally.round 1 && (ends s c b && leb top_number (higher P writers c.high (stamp_in x)))

  unfoldable pub take_in_def : Option Packet → Took
  take_in_def o =
      let n = take_refusal s client o c.number (awaited c) (marked c.tally.marks) high_in (length output) in
      on_refusal n (take_on c.tally.round o) (record { answer = refused_answer n; call = c; kept = kept; output = output })

unfoldable pub take_by_rounds : Primitives → ℕ → ℕ → List ℕ → List (List ℕ) → Call → List ℕ → List ℕ → List ℕ → Took
take_by_rounds P t client writers keys c kept reply output = take_in_def P (shelf t) client writers (key_of keys) c kept output (decode reply)
