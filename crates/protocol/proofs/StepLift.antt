-- Each operation of a client on bytes against its step on values: result, bytes sent, and the client that the bytes stand for after it.
-- Both are one step; what it leaves is put into the bytes and read back. Nothing is assumed but the primitives' lengths.
use mathlib.Core.Path.{◌≡◌, refl, sym, ◌∙◌, subst}
use mathlib.Core.Bool.{Bool, true, false, not}
use mathlib.Core.List.{List, []}
use mathlib.Core.Option.{Option, none, some, some-injective}
use Prim.Native.Nat.{ℕ, zero, suc, ◌≤◌}
use lib.Dec.{eqb}
use lib.ListN.{length, take, replicate}
use Rattle.cluster.specs.Config.{Config, shelf}
use Rattle.cluster.specs.Ranges.{within, most_servers, top_faults, top_client}
use Rattle.cluster.specs.Refusals.{on_refusal}
use Rattle.cluster.proofs.Tests.{inside, passes}
use Rattle.protocol.specs.declared.Call.{Call}
use Rattle.protocol.specs.Values.{nonce_size, blank_candidate}
use Rattle.protocol.specs.Packet.{Packet, PacketOk, decode}
use Rattle.protocol.specs.Primitives.{Primitives, Lengths}
use Rattle.protocol.specs.Rules.{count_to, nobody}
use Rattle.protocol.specs.Client.{Client, Turn, Result, idle, clocking, collecting, refused, more, aborted, awaits, is_idle, onto, begun, write_refusal_def, read_refusal_def, make_refusal_def, abort_refusal_def, bad_faults, bad_client_def, of_write, write_step, read_step, abort_step, make_step, Made, take_step, made}
use Rattle.protocol.specs.View.{view}
use Rattle.protocol.specs.ClientBytes.{fresh, in_hand, key_of, Machine, sent_of, put_marks, begins, put_back, told, after, begun_by, begin_write_def, begin_read_def, give_up_def, client_make, client_take}
use Rattle.protocol.specs.Answers.{result_of, result_by}
use Rattle.format.proofs.Answers.{no_some}
use Rattle.protocol.proofs.Told.{refused_back}
use Rattle.protocol.proofs.Bodies.{decode-ok}
use Rattle.protocol.proofs.Room.{Fitting}
use Rattle.protocol.proofs.ServerLift.{over-start}
use Rattle.protocol.proofs.ClientLift.{Sound, Lifted, pending_is, awaits_is, write-begun, read-begun, idled}
use Rattle.protocol.proofs.Fine.{Fine, write-accepted, write_fine, read_fine, abort_fine, take_fine}
use Rattle.protocol.proofs.MakeLift.{made_ok}
use Rattle.protocol.proofs.TakeSeen.{take_seen}
use Rattle.protocol.proofs.PutMarks.{marks-fresh}
use Rattle.protocol.proofs.Marks.{count-nobody}
use Rattle.protocol.proofs.LetIn.{client_range, write-idle, read-idle, other-round, either}

-- what a step on bytes leaves and answers, by the turn on values
pub record Good (s : Config) (c : ℕ) (u : Turn) (m : Machine) (r : Result) : Type 0 where
  pub lifted : Lifted s u.client m.call m.kept
  pub fine : Fine s c u.client
  pub result : r ≡ u.result

module _ (t c : ℕ) (call : Call) (kept : List ℕ) (tr : (1 ≤ t) × (t ≤ top_faults)) (f : Fitting (shelf t)) (sound : Sound (shelf t) call kept)
    (fine : Fine (shelf t) c (view (shelf t) call kept)) where
  abbrev s : Config
  s = shelf t

  abbrev cl : Client
  cl = view (shelf t) call kept

  unchanged : Lifted s cl call kept
  unchanged = record { seen = refl; sound = sound }

  none-marked : put_marks 0 call.tally.marks nobody ≡ replicate most_servers 0
  none-marked = marks-fresh call.tally.marks sound.width

  none-counted : count_to s.servers nobody ≡ 0
  none-counted = count-nobody s.servers

  -- a begin: accepted, the new hand stands in the bytes; refused, nothing changed
  abbrev Begins : Turn → Type 0
  Begins u = Lifted s u.client (after s call kept kept u).call (after s call kept kept u).kept
      × (result_of (told u.result).number ≡ u.result)

  begins_as : (k : ℕ) (y : Client) → (k ≡ 0 → Lifted s y (put_back s call kept y).call (put_back s call kept y).kept)
      → Begins (on_refusal k (record { client = y; result = more }) (record { client = cl; result = refused k }))
  unfolding after
  begins_as zero y h = (h refl, refl)
  begins_as (suc k) y h = (unchanged, refl)

  -- ---- a write begins

  write_put : (r n : List ℕ) → length n ≡ nonce_size → write_refusal_def s c (length r) (not (is_idle cl.hand)) cl.calls ≡ 0
      → let y = begun cl (clocking r n cl.last) in Lifted s y (put_back s call kept y).call (put_back s call kept y).kept
  unfolding put_back begins begun awaits view
  write_put r n l e =
      let out : within 1 6 call.tally.round ≡ false =
      unfold in_hand in (sym (unfold view in pending_is s call kept) ∙ write-idle s c (length r) _ call.number e) in
      rw (none-marked, none-counted, other-round call.tally.round 1 out refl)
      (unfold view begun fresh in write-begun s call kept sound r n (write-accepted s c cl fine r n l _ e).0.high l)

  pub write_good : (r n : List ℕ) → length n ≡ nonce_size
      → let d = begin_write_def t c call kept r n in Good s c (write_step s c cl r n) (record { call = d.call; kept = d.kept })
      (result_of d.result.number)
  unfolding write_step begin_write_def begun_by
  write_good r n l =
      let x = begins_as _ _ (write_put r n l) in record { lifted = x.0; fine = unfold write_step in write_fine s c cl fine r n l; result = x.1 }

  -- ---- a read begins

  read_put : read_refusal_def s c (not (is_idle cl.hand)) cl.calls ≡ 0
      → let y = begun cl (collecting (λ b. blank_candidate s)) in Lifted s y (put_back s call kept y).call (put_back s call kept y).kept
  unfolding put_back begins begun awaits view
  read_put e =
      let out : within 1 6 call.tally.round ≡ false =
      unfold in_hand in (sym (unfold view in pending_is s call kept) ∙ read-idle s c _ call.number e) in
      rw (none-marked, none-counted, other-round call.tally.round 4 out refl) (unfold view begun fresh in read-begun s call kept sound f.few)

  pub read_good : let d = begin_read_def t c call kept in Good s c (read_step s c cl) (record { call = d.call; kept = d.kept })
      (result_of d.result.number)
  unfolding read_step begin_read_def begun_by
  read_good = let x = begins_as _ _ read_put in record { lifted = x.0; fine = unfold read_step in read_fine s c cl fine; result = x.1 }

  -- ---- giving up: the kept bytes have no part in it

  same-awaits : awaits (view s call []).hand ≡ awaits cl.hand
  same-awaits = awaits_is s call [] ∙ sym (awaits_is s call kept)

  abort_put : Lifted s (onto cl nobody idle) (put_back s call [] (onto (view s call []) nobody idle)).call kept
  unfolding put_back begins onto awaits view
  abort_put = rw (none-marked, none-counted, either) (unfold view onto fresh in idled s call kept sound)

  abort_as : (k : ℕ) (b : Bool)
      → let u = on_refusal {A = Turn} k (record { client = onto (view s call []) nobody idle; result = aborted b })
      (record { client = view s call []; result = refused k }) in
      let v = on_refusal {A = Turn} k (record { client = onto cl nobody idle; result = aborted b }) (record { client = cl; result = refused k }) in
      Lifted s v.client (after s call [] [] u).call kept × (result_by (told u.result).answer [] ≡ v.result)
  unfolding after
  abort_as zero true = (abort_put, refl)
  abort_as zero false = (abort_put, refl)
  abort_as (suc k) b = (unchanged, refused_back (suc k) [])

  pub abort_good : let d = give_up_def t c call in Good s c (abort_step s c cl) (record { call = d.call; kept = kept }) (result_by d.answer [])
  unfolding abort_step give_up_def is_idle
  abort_good =
      let x = abort_as (abort_refusal_def s c (awaits cl.hand)) (eqb (awaits cl.hand) 6) in
      rw same-awaits (record { lifted = x.0; fine = unfold abort_step is_idle in abort_fine s c cl fine; result = x.1 })

  -- ---- a reply is taken

  pub take_good : (P : Primitives) → Lengths P → (writers : List ℕ) (keys : List (List ℕ)) (reply output : List ℕ)
      → let d = client_take P t c writers keys call kept reply output in
      Good s c (take_step P s c writers (key_of keys) cl (decode reply) (length output)) (record { call = d.call; kept = d.kept })
      (result_by d.answer d.output)
  unfolding client_take
  take_good P law writers keys reply output =
      let x = take_seen P law t c writers (key_of keys) call kept output sound (decode reply) (λ p e. decode-ok reply p e) in
      record {
        lifted = x.client;
        fine = take_fine P law t f c writers (key_of keys) cl fine (decode reply) (λ p e. decode-ok reply p e) (length output);
        result = x.result;
      }

  -- ---- a packet is made

  -- what was sent, by the values' step
  pub record Sent (o : Option Packet) (x : List ℕ) : Type 0 where
    pub bytes : x ≡ sent_of o
    pub ok : (p : Packet) → o ≡ some p → PacketOk p

  make_ranges : (b room kind : ℕ) → make_refusal_def s c b kind room ≡ 0
      → ((1 ≤ b) × (b ≤ s.servers)) × (((1 ≤ c) × (c ≤ top_client)) × (eqb kind 0 ≡ false))
  unfolding make_refusal_def
  make_ranges b room kind e =
      let (a, e4) = passes (bad_faults s) 2 _ e in
      let (x, e5) = passes (not (within 1 s.servers b)) 3 _ e4 in
      let (y, e13) = passes (bad_client_def (of_write kind) c) 4 _ e5 in
      let (z, e15) = passes (eqb kind 0) 12 _ e13 in
      (inside 1 s.servers b x, (client_range (of_write kind) c y, z))

  sent-ok : (b room k : ℕ) → make_refusal_def s c b (awaits cl.hand) room ≡ k → (p : Packet)
      → (on_refusal {A = Made} k (record { number = 0; packet = some (made t c cl b) }) (record { number = k; packet = none })).packet ≡ some p
      → PacketOk p
  sent-ok b room (suc k) e p q = no_some p q
  sent-ok b room zero e p q =
      let (br, (cr, i)) = make_ranges b room _ e in
      subst PacketOk (some-injective _ p q)
      (made_ok t c cl b tr f cr br (fine.busy (unfold is_idle in i), fine.calls) fine.ok.hand)

  pub make_good : (b : ℕ) (output : List ℕ)
      → let d = client_make t c b call kept output in let v = make_step s c cl b (length output) in
      (result_of d.result.number ≡ result_of v.number) × Sent v.packet (take d.result.count d.output)
  unfolding client_make make_step shelf
  make_good b output =
      (refl, record { bytes = over-start _ output; ok = sent-ok b (length output) _ refl })
