-- What private functions promise each other; no public contract names these.
-- Steps of the code on the way to the definitions of crate protocol.
use Rattle.std.specs.Prelude.{◌≡◌, Bool, false, not, ◌&&◌, ◌||◌, List, [], ◌∷◌, ◌++◌, ℕ, zero, suc, ◌+◌, ◌*◌, eqb, length, Result, Some, None}
use Rattle.std.specs.declared.option.Option.{Option}
use Rattle.std.proofs.Math.Option.{some}
use Rattle.cluster.specs.Config.{shelf}
use Rattle.cluster.specs.Refusals.{refuse, first_of}
use Rattle.hmac.specs.Hmac.{tag_of}
use Rattle.sha256.specs.Sha256.{sha256}
use Rattle.erasure.specs.Fragments.{fragment}
use Rattle.protocol.specs.declared.Call.{Call}
use Rattle.protocol.specs.declared.Head.{Head}
use Rattle.protocol.specs.declared.rounds.Round.{Round}
use Rattle.protocol.specs.Kinds.{kind_number, round_number, reply_of}
use Rattle.protocol.specs.Values.{run_of}
use Rattle.format.specs.Format.{print2}
use Rattle.protocol.specs.Packet.{decode, candidate_f}
use Rattle.protocol.specs.Client.{bad_faults, bad_client_def, of_write, candidate_made, shares_made}
use Rattle.wire.specs.Places.{packet_at}
use Rattle.format.specs.Reading.{over, put}
use Rattle.protocol.specs.View.{marked, replies_place, reply_slot, chosen_place, content_of, nonce_of_def}
use Rattle.protocol.specs.Primitives.{real}
use Rattle.protocol.specs.ClientBytes.{Filled, key_of, put_shares, awaited}
use Rattle.client.specs.Answers.{answered}
use Rattle.client.specs.Rounds.{take_by_rounds}
use Rattle.client.specs.declared.answers.Answered.{Answered}
use Rattle.cluster.specs.declared.Refusal.{Refusal}

-- a round's number in a state, and the kind that it awaits: 0 with no call in hand
abbrev pub number_of : Option Round → ℕ
number_of None = 0
number_of (Some r) = round_number r

abbrev pub awaited_by : Option Round → ℕ
awaited_by None = 0
awaited_by (Some r) = kind_number (reply_of r)

-- another shelf's packet, or another client's
abbrev pub foreign : ℕ → ℕ → Head → Bool
foreign t client h = not (eqb h.t t && eqb h.client client)

-- no reply of that call and kind, or of a server that has replied
abbrev pub other : Call → ℕ → Head → Bool
other c kind h = not (eqb h.call c.number && eqb h.kind kind) || marked c.tally.marks h.server

-- the refusals of a packet that hold whatever its body is: 8, 12, 13
unfoldable pub reply_refusal_def : ℕ → ℕ → Call → Head → ℕ
reply_refusal_def t client c h =
    first_of
    (refuse 8 (foreign t client h) ∷ refuse 12 (not (eqb (awaited c) 0) && other c (awaited c) h) ∷ refuse 13 (eqb (awaited c) 0) ∷ [])

-- the tags of servers 1 to n, of a stamp's bytes and a nonce's digest
unfoldable pub tag_run : List (List ℕ) → List ℕ → List ℕ → ℕ → List ℕ
tag_run keys stamp d n = run_of n (λ i. tag_of (key_of keys i) (stamp ++ d))

-- a packet's bytes over the start of a buffer that has room for them
unfoldable pub whole_packet : List ℕ → List ℕ → Filled
whole_packet bytes output = record { result = record { number = 0; count = length bytes }; output = over bytes output }

-- the digests of the fragments of servers 1 to n
unfoldable pub digest_run : ℕ → List ℕ → ℕ → List ℕ
digest_run t content n = run_of n (λ i. sha256 (fragment (shelf t).points (shelf t).threshold content i))

-- d with the bytes of servers 1 to n in slots of w bytes, the first of them at the place at
unfoldable pub slot_run : ℕ → List ℕ → ℕ → (ℕ → List ℕ) → ℕ → List ℕ
slot_run w d at x zero = d
slot_run w d at x (suc n) = put (slot_run w d at x n) (at + w * n) (x (suc n))

-- the start of the share of server i: the content's length and the fragment
unfoldable pub start_of : ℕ → List ℕ → ℕ → List ℕ
start_of t content i = print2 (length content) ++ fragment (shelf t).points (shelf t).threshold content i

-- the shares of a write of the content r in their slots, from the nonce's digest and the tags
abbrev pub offered : ℕ → List ℕ → List ℕ → List ℕ → List ℕ → List ℕ
offered t kept r digest tags =
    slot_run reply_slot kept replies_place (λ i. start_of t r i ++ (digest_run t r (shelf t).servers ++ (digest ++ tags))) (shelf t).servers

-- the kept bytes at the end of clock: the candidate and the shares of the write, under the number k
abbrev pub write_made : ℕ → ℕ → List ℕ → List (List ℕ) → Call → List ℕ → ℕ → List ℕ
write_made t client writers keys c kept k =
    put_shares (shelf t) (put kept chosen_place ((candidate_f (shelf t)).print
    (candidate_made real (shelf t) client writers (key_of keys) (nonce_of_def kept) k)))
    (shares_made real (shelf t) client writers (key_of keys) (content_of c kept) (nonce_of_def kept) k) (shelf t).servers

-- all that is known of a reply of the pending round
pub record Ready (t client : ℕ) (c : Call) (reply : List ℕ) (h : Head) : Type 0 where
  pub decoded : decode reply ≡ some (packet_at h reply)
  pub faults : bad_faults (shelf t) ≡ false
  pub reader : bad_client_def (of_write (awaited c)) client ≡ false
  pub awaited : reply_refusal_def t client c h ≡ 0

-- the answer a, kept bytes and output after it are those of the step that takes the reply
abbrev pub TakesAs : ℕ → ℕ → List ℕ → List (List ℕ) → Call → List ℕ → List ℕ → List ℕ → Result Answered Refusal → List ℕ → List ℕ → Type 0
TakesAs t client writers keys c kept reply output a kept' output' =
    answered c a kept' output' ≡ take_by_rounds real t client writers keys c kept reply output
