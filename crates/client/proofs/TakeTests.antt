-- What take's tests leave of its definition: a refusal with the first test's number, which changes nothing; and what a reply that no test refuses
-- tells. Each is the ordered list of tests with the known ones put in. Assumes nothing.
use Rattle.std.specs.Prelude.{Result, Err}
use mathlib.Core.Path.{◌≡◌, refl, sym, ap, subst, ◌∙◌}
use mathlib.Core.Bool.{Bool, true, false}
use mathlib.Core.List.{List, []}
use mathlib.Core.Option.{Option, none, some}
use Prim.Native.Nat.{ℕ, ◌≤◌, ◌<◌}
use native.Mathlib.Omega.{arith}
use lib.ListN.{length, drop}
use borrow.Author.Tests.{eq-eqb, ne_eqb, lt-ltb}
use Rattle.cluster.specs.Config.{shelf}
use Rattle.cluster.specs.Ranges.{most_servers, top_faults, content_room}
use Rattle.cluster.specs.declared.Refusal.{Refusal}
use Rattle.cluster.specs.Refusals.{wrong_size, refusal_number}
use Rattle.cluster.proofs.Tests.{inside, refused_is}
use Rattle.protocol.specs.declared.Call.{Call}
use Rattle.protocol.specs.declared.Head.{Head}
use Rattle.protocol.specs.Answers.{refused_answer}
use Rattle.format.specs.Format.{Bytes}
use Rattle.protocol.specs.Packet.{Packet, Body, BodyOk, print_body, collect_reply, any_candidate_f, decode, head_size}
use Rattle.protocol.specs.Primitives.{real}
use Rattle.protocol.specs.Rules.{ByServer}
use Rattle.protocol.specs.Client.{bad_faults, bad_client_def, of_write, take_refusal}
use Rattle.protocol.specs.View.{marked, kept_size, candidate_at, candidate_slot}
use Rattle.protocol.specs.ClientBytes.{Took, key_of, awaited, client_take}
use Rattle.client.specs.Rounds.{took, take_in_def, high_in, take_by_rounds}
use Rattle.client.proofs.TakeSame.{same_take}
use Rattle.protocol.proofs.Whole.{kind-decoded}
use Rattle.protocol.proofs.Bodies.{decode-ok, body_ok}
use Rattle.protocol.proofs.Packets.{any-candidate-length}
use Rattle.protocol.proofs.Room.{shelf-fits}
use Rattle.wire.specs.Places.{packet_at, body_at}
use Rattle.client.specs.declared.answers.Answered.{Answered}
use Rattle.client.specs.Answers.{answered}
use Rattle.client.specs.Core.{core_take}
use Rattle.client.specs.Steps.{reply_refusal_def, Ready, TakesAs}
use Rattle.client.proofs.TakeRefusals.{awaited-reply, head-refused, short-refused, never-high}
use Rattle.client.proofs.TakenReplies.{body_at_lem, printed}

-- a refusal, which changes nothing
abbrev pub refused_with_def : Call → List ℕ → List ℕ → ℕ → Took
refused_with_def c kept output n = record { answer = refused_answer n; call = c; kept = kept; output = output }

-- the refusals before the packet's head: 3, 5, 7
module _ (t client : ℕ) (calls kind : ℕ) (replied : ByServer Bool) (high : ℕ → Body → Bool) (room : ℕ) where
  number-faults : (o : Option Packet) → bad_faults (shelf t) ≡ true → take_refusal (shelf t) client o calls kind replied high room ≡ 3
  unfolding take_refusal
  number-faults o e = rw e

  number-reader : (o : Option Packet) → bad_faults (shelf t) ≡ false → bad_client_def (of_write kind) client ≡ true
      → take_refusal (shelf t) client o calls kind replied high room ≡ 5
  unfolding take_refusal
  number-reader o f e = rw (f, e)

  number_broken : bad_faults (shelf t) ≡ false → bad_client_def (of_write kind) client ≡ false
      → take_refusal (shelf t) client none calls kind replied high room ≡ 7
  unfolding take_refusal
  number_broken f e = rw (f, e)

module _ (t client : ℕ) (writers : List ℕ) (keys : List (List ℕ)) (c : Call) (kept reply output : List ℕ) where
  abbrev whole : Took
  whole = take_by_rounds real t client writers keys c kept reply output

  abbrev number : Option Packet → ℕ
  number o = take_refusal (shelf t) client o c.number (awaited c) (marked c.tally.marks)
      (high_in real (shelf t) client writers (key_of keys) c kept output) (length output)

  -- a number of the list refuses
  refuses : (o : Option Packet) (n : ℕ) → number o ≡ n → (n ≡ 0 → ⊥) → take_in_def real (shelf t) client writers (key_of keys) c kept output o ≡ refused_with_def
      c kept output n
  unfolding take_in_def took
  refuses o n q ne = refused_is (number o) _ _ (λ z. ne (sym q ∙ z)) ∙ ap (refused_with_def c kept output) q

  pub take-faults : bad_faults (shelf t) ≡ true → whole ≡ refused_with_def c kept output 3
  unfolding take_by_rounds
  take-faults e = refuses (decode reply) 3 (number-faults t client _ _ _ _ _ (decode reply) e) (λ z. (let q : ⊥ = omega (arith, z) in q))

  pub take-reader : bad_faults (shelf t) ≡ false → bad_client_def (of_write (awaited c)) client ≡ true → whole ≡ refused_with_def c kept output 5
  unfolding take_by_rounds
  take-reader f e = refuses (decode reply) 5 (number-reader t client _ _ _ _ _ (decode reply) f e) (λ z. (let q : ⊥ = omega (arith, z) in q))

  module _ (faults : bad_faults (shelf t) ≡ false) (reader : bad_client_def (of_write (awaited c)) client ≡ false) where
    pub take_broken : decode reply ≡ none → whole ≡ refused_with_def c kept output 7
    unfolding take_by_rounds
    take_broken e =
        ap (take_in_def real (shelf t) client writers (key_of keys) c kept output) e ∙ refuses none 7 (number_broken t client _ _ _ _ _ faults reader)
        (λ z. (let q : ⊥ = omega (arith, z) in q))

    pub take_head : (h : Head) → decode reply ≡ some (packet_at h reply) → (n : ℕ) → n ≡ reply_refusal_def t client c h → (n ≡ 0 → ⊥) → whole ≡ refused_with_def
        c kept output n
    unfolding take_by_rounds packet_at
    take_head h e n r ne =
        ap (take_in_def real (shelf t) client writers (key_of keys) c kept output) e
        ∙ head-refused t client writers (key_of keys) c kept output h (packet_at h reply).body faults reader (kind-decoded reply (packet_at h reply) e)
        n r ne

  -- ---- kept bytes of another length

  pub take-length : (length kept ≡ kept_size → ⊥) → core_take t client writers keys c kept reply output ≡ refused_with_def c kept output wrong_size
  unfolding core_take
  take-length h = rw (ne_eqb (length kept) kept_size h)

  pub core_take_lem : length kept ≡ kept_size → core_take t client writers keys c kept reply output
      ≡ client_take real t client writers keys c kept reply output
  unfolding core_take
  core_take_lem h = rw (eq-eqb (length kept) kept_size h)

  -- what take answers, the relation gives
  pub taken_in : (a : Result Answered Refusal) (kept' output' : List ℕ) → length c.tally.marks ≡ most_servers → length kept ≡ kept_size
      → TakesAs t client writers keys c kept reply output a kept' output'
      → answered c a kept' output' ≡ core_take t client writers keys c kept reply output
  taken_in a kept' output' w h e = e ∙ sym (core_take_lem h ∙ same_take real t client writers keys c kept reply output h w)

  -- a refusal, and nothing changed
  pub takes-refused : (why : Refusal) → whole ≡ refused_with_def c kept output (refusal_number why) → TakesAs t client writers keys c kept reply output
      (Err why) kept output
  takes-refused why e = sym e

  -- past clock a short output is the last test
  pub round_short : (h : Head) → Ready t client c reply h → (c.tally.round ≡ 1 → ⊥) → length output < content_room → whole ≡ refused_with_def c kept
      output 15
  unfolding take_by_rounds packet_at
  round_short h y ne l =
      ap (take_in_def real (shelf t) client writers (key_of keys) c kept output) y.decoded
      ∙ short-refused t client writers (key_of keys) c kept output h (packet_at h reply).body y.faults y.reader
      (kind-decoded reply (packet_at h reply) y.decoded) y.awaited
      (never-high t client writers (key_of keys) c kept output h (packet_at h reply).body ne) (lt-ltb (length output) content_room l)

-- ---- a reply that no test of its head refuses

module _ (t client : ℕ) (c : Call) (reply : List ℕ) (h : Head) (y : Ready t client c reply h) where
  -- a candidate's bytes fit its slot
  pub collect-length : Bytes reply → c.tally.round ≡ 4 → length (drop head_size reply) ≤ candidate_slot
  unfolding packet_at body_at shelf
  collect-length bs e =
      let d : List ℕ = drop head_size reply in
      let body : Body = (packet_at h reply).body in
      let b : body ≡ collect_reply (candidate_at (shelf t) d) = body_at_lem t client [] (key_of []) c [] [] reply h y 4 e refl in
      let k : BodyOk (shelf t) body = subst (λ (s : ℕ). BodyOk (shelf s) body) (awaited-reply t client c h y.awaited).of_shelf
      (body_ok (packet_at h reply) (decode-ok reply (packet_at h reply) y.decoded)) in
      let f : BodyOk (shelf t) (collect_reply (candidate_at (shelf t) d)) = subst (λ (x : Body). BodyOk (shelf t) x) b k in
      let p : (any_candidate_f (shelf t)).print (candidate_at (shelf t) d) ≡ d = ap (print_body (shelf t)) (sym b) ∙ printed t client [] (key_of []) c [] []
      reply h y bs in
      let r = inside 1 top_faults t y.faults in
      omega (arith, ap length p, any-candidate-length (shelf t) (candidate_at (shelf t) d) f, (shelf-fits t r.0 r.1).few)
