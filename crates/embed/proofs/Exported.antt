-- One step through an exported function is the step on machines, with the keys as they are passed: the same result, the same bytes sent, and the
-- states are the machines' again. The sizes are right, and an answer has room for what the step tells, since all that clients hold is within the
-- layout. Assumes nothing.
use mathlib.Core.Path.{◌≡◌, refl, sym, ap, ◌∙◌, subst}
use mathlib.Core.Bool.{true}
use mathlib.Core.List.{List, []}
use mathlib.Core.Option.{Option, none, some}
use Prim.Native.Nat.{ℕ, ◌≤◌, ◌<◌}
use native.Mathlib.Omega.{arith}
use lib.Dec.{lit<}
use lib.ListN.{length, take}
use lib.Seq.{length-take-le}
use borrow.Author.Tests.{eq-eqb}
use Rattle.cluster.specs.Config.{Config}
use Rattle.cluster.specs.Ranges.{within, top_faults, most_servers, key_size, packet_room}
use Rattle.cluster.proofs.Tests.{within_bounds, within_in}
use Rattle.protocol.specs.Values.{nonce_size}
use Rattle.protocol.specs.Packet.{Packet, PacketOk, decode}
use Rattle.protocol.specs.Primitives.{real}
use Rattle.protocol.specs.Rules.{ByServer}
use Rattle.protocol.specs.ServerBytes.{server_take}
use Rattle.format.specs.Reading.{over}
use Rattle.protocol.specs.Client.{Client, Result, abort_step, take_step}
use Rattle.protocol.specs.View.{view}
use Rattle.protocol.specs.ClientBytes.{Machine, told, Begun, key_of, begin_write_def, begin_read_def, give_up_def, client_make, client_take, took_by}
use Rattle.runs.specs.Runs.{Shelf, config_of, Step, write, read, make, take-reply, give-up, serve, result_of, result_by, sent_of, Machines, Done, set_machine, do_bytes, Fed}
use Rattle.runs.proofs.ValueRuns.{World, After, do_values}
use Rattle.protocol.proofs.Primitive.{real-lengths}
use Rattle.protocol.proofs.Bodies.{decode-ok}
use Rattle.protocol.proofs.Room.{shelf-fits}
use Rattle.protocol.proofs.PacketRoom.{packet-room}
use Rattle.protocol.proofs.ClientLift.{Sound}
use Rattle.protocol.proofs.Fine.{Fine}
use Rattle.runs.proofs.RunLift.{Matches, Agrees}
use Rattle.wire.proofs.Runs.{padded-length}
use Rattle.embed.specs.Packing.{refusal_in, count_in, packed_answer}
use Rattle.embed.specs.Clients.{client_size, state_with, Session, sized, sized_with, sized_for, begun_in, stopped_in, took_in, Taking, Posted, made_out, keys_size, keys_in, write_in_def, read_in_def, give_up_in_def, make_in_def, take_in_def}
use Rattle.embed.specs.Servers.{Exchange, key_sized, changed, served_out, take_by}
use Rattle.embed.specs.Exports.{passed_key, passed_keys, KeysSized, Devices, said, set_state, do_export}
use Rattle.embed.proofs.Bounded.{take-small, abort-small, served-room, make-room}
use Rattle.embed.proofs.Unpacked.{refusal_back, count_back, said-number, said-answer}
use Rattle.embed.proofs.Altered.{changed-small}
use Rattle.embed.proofs.PassedKeys.{passed-size, own_key, keys_read}
use Rattle.embed.proofs.Stands.{Stands, Same, client-same, memory-same, at_self}

module _ (sh : Shelf) (tr : (1 ≤ sh.t) × (sh.t ≤ top_faults)) (keyed : KeysSized sh) where
  abbrev s : Config
  s = config_of sh

  abbrev keys : ByServer (List ℕ)
  keys = key_of sh.keys

  abbrev Agree : After → Done → Type 0
  Agree = Agrees real real-lengths sh tr

  sent-small : {a : After} {d : Done} → Agree a d → length d.sent ≤ packet_room
  sent-small {a} {d} g = subst (λ (x : List ℕ). length x ≤ packet_room) (sym g.sent) (go a.sent g.ok)
    where
      go : (o : Option Packet) → ((p : Packet) → o ≡ some p → PacketOk p) → length (sent_of o) ≤ packet_room
      go none h = omega arith
      go (some p) h = packet-room p (h p refl)

  count_small : (n : ℕ) (o : List ℕ) → n ≤ length o → length (take n o) ≤ packet_room → n < 65536
  count_small n o h l = omega (arith, length-take-le n o h)

  -- ---- a step as its keys are passed

  unfoldable pub passed_step : Step → Step
  passed_step (write c r n) = write c r n
  passed_step (read c) = read c
  passed_step (make c b o) = make c b o
  passed_step (take-reply c lent p o) = take-reply c (record { writers = passed_key lent.writers; keys = keys_in (passed_keys lent.keys) }) p o
  passed_step (give-up c) = give-up c
  passed_step (serve b p o) = serve b p o

  pub passed-fed : (x : Step) → Fed s sh.writers keys x → Fed s sh.writers keys (passed_step x)
  unfolding passed_step
  passed-fed (write c r n) f = f
  passed-fed (read c) f = f
  passed-fed (make c b o) f = f
  passed-fed (take-reply c lent p o) f =
      (f.0, λ h. (ap passed_key (f.1 h).0 ∙ own_key sh.writers keyed.writers, keys_read sh keyed lent.keys (f.1 h).1))
  passed-fed (give-up c) f = f
  passed-fed (serve b p o) f = f

  -- the steps on values look at the shelf's keys alone
  pub passed-values : (v : World) (x : Step) → do_values real s sh.writers keys v (passed_step x) ≡ do_values real s sh.writers keys v x
  unfolding passed_step do_values
  passed-values v (write c r n) = refl
  passed-values v (read c) = refl
  passed-values v (make c b o) = refl
  passed-values v (take-reply c lent p o) = refl
  passed-values v (give-up c) = refl
  passed-values v (serve b p o) = refl

  -- ---- one step

  module _ (w : Devices) (m : Machines) (v : World) (st : Stands sh w m) (mt : Matches real real-lengths sh tr m v) where
    machine_sound : {a : After} (c : ℕ) (x : Machine) (r : Result) → Agree a (set_machine real sh m c x r) → Sound s x.call x.kept
    unfolding set_machine
    machine_sound c x r g = subst (λ (z : Machine). Sound s z.call z.kept) (at_self m.client c x) (g.matches.client c).sound

    fine_here : (c : ℕ) → Fine s c (view s (m.client c).call (m.client c).kept)
    fine_here c = subst (λ (y : Client). Fine s c y) (sym (mt.client c).seen) (mt.fine c)

    begun-same : {a : After} (c : ℕ) (b : Begun) (x : Session) → x ≡ begun_in (w.state c) b
        → Agree a (set_machine real sh m c (record { call = b.call; kept = b.kept }) (result_of b.result.number))
        → Same sh (set_state sh w c x.state (said x.answer []))
        (set_machine real sh m c (record { call = b.call; kept = b.kept }) (result_of b.result.number))
    unfolding begun_in
    begun-same c b x e g =
        client-same sh w m st c _ _ _ _ (machine_sound c _ _ g) (ap (λ (z : Session). z.state) e)
        (ap (λ (z : Session). said z.answer []) e ∙ said-number b.result.number 0 [] (lit< tt))

    write_same : (c : ℕ) (r n : List ℕ) → length n ≡ nonce_size
        → write_in_def (w.state c) sh.t c r n ≡ begun_in (w.state c) (begin_write_def sh.t c (m.client c).call (m.client c).kept r n)
    unfolding write_in_def sized_with
    write_same c r n h = rw (eq-eqb (length (w.state c)) client_size (st.size c), eq-eqb (length n) nonce_size h)
        (λ i. begun_in (w.state c) (begin_write_def sh.t c (st.call c i) (st.kept c i) r n))

    read_same : (c : ℕ) → read_in_def (w.state c) sh.t c ≡ begun_in (w.state c) (begin_read_def sh.t c (m.client c).call (m.client c).kept)
    unfolding read_in_def sized
    read_same c = rw (eq-eqb (length (w.state c)) client_size (st.size c))
        (λ i. begun_in (w.state c) (begin_read_def sh.t c (st.call c i) (st.kept c i)))

    stop-same : (c : ℕ) → let g = give_up_def sh.t c (m.client c).call in
        give_up_in_def (w.state c) sh.t c ≡ record { answer = packed_answer g.answer; state = state_with (w.state c) g.call (m.client c).kept }
    unfolding give_up_in_def sized stopped_in
    stop-same c = rw (eq-eqb (length (w.state c)) client_size (st.size c))
        (λ i. let g = give_up_def sh.t c (st.call c i) in
        record { answer = packed_answer g.answer; state = state_with (w.state c) g.call (st.kept c i) })

    stopped-said : (c : ℕ) → let g = give_up_def sh.t c (m.client c).call in said (packed_answer g.answer) [] ≡ result_by g.answer []
    unfolding give_up_def
    stopped-said c =
        let cl : Client = view s (m.client c).call [] in
        said-answer (abort_step s c cl).result [] (abort-small s c cl)

    make_same : (c b : ℕ) (o : List ℕ) → make_in_def (w.state c) sh.t c b o
        ≡ made_out (client_make sh.t c b (m.client c).call (m.client c).kept o)
    unfolding make_in_def sized
    make_same c b o = rw (eq-eqb (length (w.state c)) client_size (st.size c))
        (λ i. made_out (client_make sh.t c b (st.call c i) (st.kept c i) o))

    take_same : (c : ℕ) (writers flat p o : List ℕ) → length writers ≡ key_size → length flat ≡ keys_size
        → take_in_def (w.state c) sh.t c writers flat p o
        ≡ took_in (w.state c) (client_take real sh.t c writers (keys_in flat) (m.client c).call (m.client c).kept p o)
    unfolding take_in_def sized_for
    take_same c writers flat p o h k =
        rw (eq-eqb (length (w.state c)) client_size (st.size c), eq-eqb (length writers) key_size h, eq-eqb (length flat) keys_size k)
        (λ i. took_in (w.state c) (client_take real sh.t c writers (keys_in flat) (st.call c i) (st.kept c i) p o))

    taken-said : (c : ℕ) (writers : List ℕ) (ks : List (List ℕ)) (p o : List ℕ)
        → let d = client_take real sh.t c writers ks (m.client c).call (m.client c).kept p o in
        said (packed_answer d.answer) d.output ≡ result_by d.answer d.output
    unfolding client_take took_by
    taken-said c writers ks p o =
        let cl : Client = view s (m.client c).call (m.client c).kept in
        let r : Result = (take_step real s c writers (key_of ks) cl (decode p) (length o)).result in
        said-answer r (over (told r).content o)
        (take-small real real-lengths sh.t (shelf-fits sh.t tr.0 tr.1) c writers (key_of ks) cl (fine_here c) (decode p)
        (λ q e. decode-ok p q e) (length o))

    serve-same : (b : ℕ) (p o : List ℕ) → within 1 s.servers b ≡ true → within 1 most_servers b ≡ true
        → take_by (w.memory b) (keys b) p o ≡ served_out (m.memory b) (server_take real (m.memory b) (keys b) p o)
    unfolding take_by key_sized
    serve-same b p o h k = rw (eq-eqb (length (keys b)) key_size (keyed.servers b k))
        (λ i. served_out (st.memory b h i) (server_take real (st.memory b h i) (keys b) p o))

    pub step_same : (x : Step) → Fed s sh.writers keys x
        → Agree (do_values real s sh.writers keys v (passed_step x)) (do_bytes real sh m (passed_step x))
        → Same sh (do_export sh w x) (do_bytes real sh m (passed_step x))
    unfolding do_export do_bytes passed_step
    step_same (write c r n) f g = begun-same c _ _ (write_same c r n f.1.1) g
    step_same (read c) f g = begun-same c _ _ (read_same c) g
    step_same (make c b o) f g =
        let d = client_make sh.t c b (m.client c).call (m.client c).kept o in
        let e = make_same c b o in
        let n = count_small d.result.count d.output (make-room sh.t c b (m.client c).call (m.client c).kept o) (sent-small g) in
        record {
          stands = st;
          result = ap (λ (z : Posted). said z.answer []) e ∙ said-number d.result.number d.result.count [] n;
          sent = ap (λ (z : Posted). take (count_in z.answer) z.output) e
              ∙ ap (λ (k : ℕ). take k d.output) (count_back d.result.number 0 0 d.result.count (lit< tt) (lit< tt) n);
        }
    step_same (take-reply c lent p o) f g =
        let e = take_same c (passed_key lent.writers) (passed_keys lent.keys) p o (padded-length key_size lent.writers)
        (passed-size lent.keys) in
        client-same sh w m st c _ _ _ _ (machine_sound c _ _ g) (unfold took_in in ap (λ (z : Taking). z.state) e)
        (unfold took_in in (ap (λ (z : Taking). said z.answer z.output) e
        ∙ taken-said c (passed_key lent.writers) (keys_in (passed_keys lent.keys)) p o))
    step_same (give-up c) f g =
        client-same sh w m st c _ _ _ _ (machine_sound c _ _ g) (ap (λ (z : Session). z.state) (stop-same c))
        (ap (λ (z : Session). said z.answer []) (stop-same c) ∙ stopped-said c)
    step_same (serve b p o) f g =
        let d = server_take real (m.memory b) (keys b) p o in
        let (lo, hi) = within_bounds 1 s.servers b f.0 in
        let e = serve-same b p o f.0 (within_in 1 most_servers b lo (omega (arith, hi, (shelf-fits sh.t tr.0 tr.1).few))) in
        let n = count_small d.result.count d.output (served-room real (m.memory b) (keys b) p o) (sent-small g) in
        let f : ℕ = changed (m.memory b) d.memory in
        let small : f < 256 = changed-small (m.memory b) d.memory in
        record {
          stands = memory-same sh w m st b _ _ (ap (λ (z : Exchange). z.memory) e);
          result = ap (λ (z : Exchange). result_of (refusal_in z.answer)) e
              ∙ ap result_of (refusal_back d.result.number f 0 d.result.count small (lit< tt) n);
          sent = ap (λ (z : Exchange). take (count_in z.answer) z.output) e
              ∙ ap (λ (k : ℕ). take k d.output) (count_back d.result.number f 0 d.result.count small (lit< tt) n);
        }
