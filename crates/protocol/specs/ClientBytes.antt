-- The client's operations on bytes: what the contracts of the code cite. The bytes are looked at as a client (View), the step is that of Client,
-- and the client after it is put back. No rule of the protocol stands here: this file says only which bytes a client is kept in.
use Rattle.std.specs.Prelude.{Bool, cond, List, [], ◌∷◌, ℕ, zero, suc, ◌+◌, ◌-◌, ◌*◌, ◌/◌, eqb, length, replicate}
use Rattle.std.proofs.Math.Option.{Option, none, some}
use Rattle.cluster.specs.Config.{Config, shelf}
use Rattle.cluster.specs.Ranges.{within, most_servers}
use Rattle.cluster.specs.Refusals.{on_refusal}
use Rattle.protocol.specs.declared.Call.{Call}
use Rattle.protocol.specs.declared.Tally.{Tally}
use Rattle.protocol.specs.declared.Answer.{Answer}
use Rattle.cluster.specs.declared.Outcome.{Outcome}
use Rattle.protocol.specs.declared.Taken.TheVariants as taken
use Rattle.protocol.specs.declared.Aborted.TheVariants as aborts
use Rattle.protocol.specs.Values.{Share}
use Rattle.protocol.specs.Packet.{Packet, kind_of, decode, encode, candidate_f, any_candidate_f, share_f, held_f}
use Rattle.protocol.specs.Primitives.{Primitives}
use Rattle.protocol.specs.Rules.{ByServer, count_to}
use Rattle.protocol.specs.Client.{Client, Hand, idle, clocking, storing, completing, collecting, filtering, repairing, Result, refused, more, written, gave, gave_blank, aborted, Turn, awaits, candidate_in, held_in_def, write_step, read_step, abort_step, make_step, take_step}
use Rattle.format.specs.Reading.{put, over}
use Rattle.protocol.specs.Answers.{refused_answer, taken_answer, aborted_answer}
use Rattle.protocol.specs.View.{view, nonce_place, chosen_place, candidate_slot, candidates_place, replies_place, reply_slot}

-- ---- what the operations give

pub record Begun : Type 0 where
  pub result : Outcome
  pub call : Call
  pub kept : List ℕ

pub record GaveUp : Type 0 where
  pub answer : Answer
  pub call : Call

pub record Filled : Type 0 where
  pub result : Outcome
  pub output : List ℕ

pub record Took : Type 0 where
  pub answer : Answer
  pub call : Call
  pub kept : List ℕ
  pub output : List ℕ

-- ---- places, keys and marks

-- the shares of servers 1 to n in their slots
unfoldable pub put_shares : Config → List ℕ → ByServer Share → ℕ → List ℕ
put_shares s kept h zero = kept
put_shares s kept h (suc n) = put (put_shares s kept h n) (replies_place + reply_slot * n) ((share_f s).print (h (suc n)))

-- the key of server i in a table of keys
unfoldable pub key_of : List (List ℕ) → ByServer (List ℕ)
key_of keys zero = []
key_of [] (suc i) = []
key_of (k ∷ ks) (suc zero) = k
key_of (k ∷ ks) (suc (suc i)) = key_of ks (suc i)

-- a round begins; 0: no call is in hand
unfoldable pub fresh : ℕ → Tally
fresh r = record { round = r; count = 0; marks = replicate most_servers 0 }

-- a client that has begun no call
abbrev pub new_call_def : Call
new_call_def = record { number = 0; last = 0; high = 0; length = 0; tally = fresh 0 }

unfoldable pub in_hand : Call → Bool
in_hand c = within 1 6 c.tally.round

-- the kind that the round awaits, 0 with no call in hand
unfoldable pub awaited : Call → ℕ
awaited c = cond (in_hand c) (2 * c.tally.round) 0

-- a client's bytes: its small state and the kept bytes
pub record Machine : Type 0 where
  pub call : Call
  pub kept : List ℕ

-- ---- a client is put back into its bytes

-- the marks of the servers past i: a byte that already stands for its mark stays
unfoldable pub put_marks : ℕ → List ℕ → ByServer Bool → List ℕ
put_marks i [] m = []
put_marks i (x ∷ xs) m = cond (m (suc i)) (cond (eqb x 0) 1 x) 0 ∷ put_marks (suc i) xs m

-- an accepted reply that holds a candidate or a share is kept in its server's slot
unfoldable pub put_reply_def : Config → List ℕ → Option Packet → List ℕ
put_reply_def s kept none = kept
put_reply_def s kept (some p) =
    let i = p.head.server - 1 in
    cond (eqb (kind_of p.body) 8) (put kept (candidates_place + candidate_slot * i) ((any_candidate_f s).print (candidate_in s p.body)))
    (cond (eqb (kind_of p.body) 10) (put kept (replies_place + reply_slot * i) ((held_f s).print (held_in_def p.body))) kept)

-- what a round writes when it begins; complete and filter use what store and collect left
pub record Bulk : Type 0 where
  pub high : ℕ
  pub length : ℕ
  pub kept : List ℕ

unfoldable pub begins : Config → Bulk → Hand → Bulk
begins s w idle = w
begins s w (clocking r n h) = record { high = h; length = length r; kept = put (put w.kept 0 r) nonce_place n }
begins s w (storing d g) =
    record { high = w.high; length = w.length; kept = put_shares s (put w.kept chosen_place ((candidate_f s).print d)) g s.servers }
begins s w (completing d) = w
begins s w (collecting g) =
    record { high = w.high; length = w.length; kept = put w.kept candidates_place (replicate (candidate_slot * most_servers) 0) }
begins s w (filtering l g) = w
begins s w (repairing d r) = record { high = w.high; length = length r; kept = put (put w.kept 0 r) chosen_place ((candidate_f s).print d) }

-- within a round the highest number, the marks and their count change, and no more. The count is there to be shown: no step looks at it
unfoldable pub put_back : Config → Call → List ℕ → Client → Machine
put_back s c kept cl =
    let r = awaits cl.hand / 2 in
    let same = eqb c.tally.round r in
    let w = begins s (record { high = c.high; length = c.length; kept = kept }) cl.hand in
    record {
      call = record {
        number = cl.calls;
        last = cl.last;
        high = w.high;
        length = cond same c.length w.length;
        tally = record { round = r; count = count_to s.servers cl.marks; marks = put_marks 0 c.tally.marks cl.marks };
      };
      kept = cond same kept w.kept;
    }

-- ---- results as the code tells them

-- the number of a refusal or 0, the answer, and the content delivered
pub record Told : Type 0 where
  pub number : ℕ
  pub answer : Answer
  pub content : List ℕ

abbrev pub told : Result → Told
told (refused n) = record { number = n; answer = refused_answer n; content = [] }
told more = record { number = 0; answer = taken_answer taken.More; content = [] }
told (written k) = record { number = 0; answer = taken_answer (taken.Written k.number k.writer); content = [] }
told (gave k r) = record { number = 0; answer = taken_answer (taken.Read k.number k.writer (length r)); content = r }
told gave_blank = record { number = 0; answer = taken_answer taken.Blank; content = [] }
told (aborted b) = record { number = 0; answer = aborted_answer (cond b aborts.InComplete aborts.Before); content = [] }

-- ---- the operations

-- what a turn leaves: refused, nothing changes. k: the kept bytes with the reply
unfoldable pub after : Config → Call → List ℕ → List ℕ → Turn → Machine
after s c kept k u = on_refusal (told u.result).number (put_back s c k u.client) (record { call = c; kept = kept })

unfoldable pub begun_by : Config → Call → List ℕ → Turn → Begun
begun_by s c kept u =
    let m = after s c kept kept u in record { result = record { number = (told u.result).number; count = 0 }; call = m.call; kept = m.kept }

unfoldable pub begin_write_def : ℕ → ℕ → Call → List ℕ → List ℕ → List ℕ → Begun
begin_write_def t client c kept content nonce = begun_by (shelf t) c kept (write_step (shelf t) client (view (shelf t) c kept) content nonce)

unfoldable pub begin_read_def : ℕ → ℕ → Call → List ℕ → Begun
begin_read_def t client c kept = begun_by (shelf t) c kept (read_step (shelf t) client (view (shelf t) c kept))

-- the kept bytes have no part in it
unfoldable pub give_up_def : ℕ → ℕ → Call → GaveUp
give_up_def t client c =
    let u = abort_step (shelf t) client (view (shelf t) c []) in record { answer = (told u.result).answer; call = (after (shelf t) c [] [] u).call }

abbrev pub sent_of : Option Packet → List ℕ
sent_of none = []
sent_of (some p) = encode p

unfoldable pub client_make : ℕ → ℕ → ℕ → Call → List ℕ → List ℕ → Filled
client_make t client b c kept output =
    let d = make_step (shelf t) client (view (shelf t) c kept) b (length output) in
    record { result = record { number = d.number; count = length (sent_of d.packet) }; output = over (sent_of d.packet) output }

unfoldable pub took_by : Config → Call → List ℕ → List ℕ → List ℕ → Turn → Took
took_by s c kept k output u =
    let m = after s c kept k u in
    record { answer = (told u.result).answer; call = m.call; kept = m.kept; output = over (told u.result).content output }

unfoldable pub client_take : Primitives → ℕ → ℕ → List ℕ → List (List ℕ) → Call → List ℕ → List ℕ → List ℕ → Took
client_take P t client writers keys c kept reply output =
    took_by (shelf t) c kept (put_reply_def (shelf t) kept (decode reply)) output
    (take_step P (shelf t) client writers (key_of keys) (view (shelf t) c kept) (decode reply) (length output))
