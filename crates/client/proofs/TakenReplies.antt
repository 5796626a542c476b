-- A packet that was let through and that no test refuses: its body is the one of its round, and what the client does with it is that round's step.
-- The head's kind is twice the round's number, and the body's bytes are the packet's past its head. Assumes nothing.
use mathlib.Core.Path.{◌≡◌, refl, sym, ap, ◌∙◌}
use mathlib.Core.Bool.{true, false, cond, ◌&&◌}
use mathlib.Core.List.{List}
use mathlib.Core.Option.{some}
use Prim.Native.Nat.{ℕ, suc, ◌+◌, ◌-◌, ◌*◌, ◌≤◌}
use native.Mathlib.Omega.{arith}
use lib.Dec.{leb, ltb, eqb}
use lib.ListN.{length, drop, get_or}
use borrow.Author.Tests.{le-ltb}
use Rattle.cluster.specs.Config.{shelf}
use Rattle.cluster.specs.Ranges.{within, top_number, content_room}
use Rattle.protocol.specs.declared.Call.{Call}
use Rattle.protocol.specs.declared.Head.{Head}
use Rattle.protocol.specs.declared.Stamp.{Stamp}
use Rattle.protocol.specs.declared.Taken.TheVariants as taken
use Rattle.protocol.specs.Answers.{taken_answer, refused_answer}
use Rattle.format.specs.Format.{Bytes}
use Rattle.protocol.specs.Packet.{Body, Packet, decode, kind_of, head_size, print_body, any_candidate_f, candidate_f, clock_reply, store_reply, collect_reply}
use Rattle.protocol.specs.Primitives.{real}
use Rattle.protocol.specs.Rules.{ByServer}
use Rattle.protocol.specs.Client.{higher, candidate_made, shares_made}
use Rattle.format.specs.Reading.{over, put}
use Rattle.protocol.specs.View.{stamp_at_def, candidate_at, chosen_of, content_of, nonce_of_def, chosen_place, candidates_place, candidate_slot}
use Rattle.protocol.specs.ClientBytes.{Took, put_shares, in_hand, fresh, awaited}
use Rattle.client.specs.Answers.{written_as_def, read_as}
use Rattle.client.specs.Rounds.{high_in, take_in_def, take_on, take_clock_def, took, counted, noted, ends, with_tally_def}
use Rattle.protocol.proofs.Whole.{kind-decoded}
use Rattle.wire.specs.Places.{body_at, packet_at}
use Rattle.wire.proofs.Laws.{body_bytes}
use Rattle.client.specs.Steps.{Ready}
use Rattle.client.proofs.TakeRefusals.{awaited-reply, taken-reply, never-high, high-refused, short-refused, clock-high}
use Rattle.client.proofs.RoundSteps.{on_store, on-complete, on-collect, on-repair}

kind_at : (c : Call) (r : ℕ) → c.tally.round ≡ r → within 1 6 r ≡ true → awaited c ≡ 2 * r
unfolding awaited in_hand
kind_at c r e w = ap (λ (k : ℕ). cond (within 1 6 k) (2 * k) 0) e ∙ rw w

module _ (t client : ℕ) (writers : List ℕ) (keys : ByServer (List ℕ)) (c : Call) (kept output reply : List ℕ) (h : Head)
    (y : Ready t client c reply h) where
  abbrev all : Took
  all = take_in_def real (shelf t) client writers keys c kept output (decode reply)

  abbrev body : Body
  body = (packet_at h reply).body

  same_kind_def : kind_of body ≡ h.kind
  unfolding packet_at
  same_kind_def = kind-decoded reply (packet_at h reply) y.decoded

  pub on-round : content_room ≤ length output → (r : ℕ) → c.tally.round ≡ r → (r ≡ 1 → ⊥) → all ≡ take_on real (shelf t) client writers keys c kept
      output r (some (record { head = h; body = body }))
  unfolding packet_at
  on-round room r e ne =
      ap (take_in_def real (shelf t) client writers keys c kept output) y.decoded
      ∙ (taken-reply t client writers keys c kept output h body y.faults y.reader same_kind_def y.awaited
      (never-high t client writers keys c kept output h body (λ z. ne (sym e ∙ z))) (le-ltb (length output) content_room room)
      ∙ ap (λ (k : ℕ). take_on real (shelf t) client writers keys c kept output k (some (record { head = h; body = body }))) e)

  pub body_at_lem : (r : ℕ) → c.tally.round ≡ r → within 1 6 r ≡ true → body ≡ body_at (shelf t) (2 * r) (drop head_size reply)
  unfolding packet_at
  body_at_lem r e w =
      let a = awaited-reply t client c h y.awaited in
      ap (λ (k : ℕ). body_at (shelf k) h.kind (drop head_size reply)) a.of_shelf ∙ ap (λ (k : ℕ). body_at (shelf t) k (drop head_size reply))
      (a.of_kind ∙ kind_at c r e w)

  -- the round's own bytes are the packet's past its head
  pub printed : Bytes reply → print_body (shelf t) body ≡ drop head_size reply
  unfolding packet_at
  printed b =
      let a = awaited-reply t client c h y.awaited in
      ap (λ (k : ℕ). print_body (shelf k) body) (sym a.of_shelf) ∙ sym (body_bytes reply (packet_at h reply) y.decoded b)

  pub took-store : content_room ≤ length output → c.tally.round ≡ 2
      → all ≡ record {
        answer = taken_answer taken.More;
        call = with_tally_def c (cond (eqb (get_or (drop head_size reply) 0 0) 11) (counted (shelf t) c.tally)
            (cond (ends (shelf t) c h.server) (fresh 3) (noted (shelf t) c.tally h.server)));
        kept = kept;
        output = output;
      }
  unfolding body_at
  took-store room e =
      let b : body ≡ store_reply (get_or (drop head_size reply) 0 0) = body_at_lem 2 e refl in
      on-round room 2 e (λ z. (let q : ⊥ = omega (arith, z) in q)) ∙ ap (λ (x : Body). take_on real (shelf t) client writers keys c kept output 2
      (some (record { head = h; body = x }))) b
      ∙ on_store t client writers keys c kept output h (store_reply (get_or (drop head_size reply) 0 0))

  pub took-complete : content_room ≤ length output → c.tally.round ≡ 3
      → all ≡ cond (ends (shelf t) c h.server) (record {
        answer = taken_answer (written_as_def (chosen_of (shelf t) kept).stamp);
        call = with_tally_def c (fresh 0);
        kept =
            kept;
        output = output;
      })
      (record { answer = taken_answer taken.More; call = with_tally_def c (noted (shelf t) c.tally h.server); kept = kept; output = output })
  took-complete room e = on-round room 3 e (λ z. (let q : ⊥ = omega (arith, z) in q)) ∙ on-complete t client writers keys c kept output h body

  pub took-collect : content_room ≤ length output → Bytes reply → c.tally.round ≡ 4
      → all ≡ record {
        answer = taken_answer taken.More;
        call = with_tally_def c (cond (ends (shelf t) c h.server) (fresh 5) (noted (shelf t) c.tally h.server));
        kept = put kept (candidates_place + candidate_slot * (h.server - 1)) (drop head_size reply);
        output = output;
      }
  unfolding body_at
  took-collect room bs e =
      let d : List ℕ = drop head_size reply in
      let b : body ≡ collect_reply (candidate_at (shelf t) d) = body_at_lem 4 e refl in
      let p : (any_candidate_f (shelf t)).print (candidate_at (shelf t) d) ≡ d = ap (print_body (shelf t)) (sym b) ∙ printed bs in
      on-round room 4 e (λ z. (let q : ⊥ = omega (arith, z) in q)) ∙ (ap (λ (x : Body). take_on real (shelf t) client writers keys c kept output 4
      (some (record { head = h; body = x }))) b
      ∙ (on-collect t client writers keys c kept output h (collect_reply (candidate_at (shelf t) d))
      ∙ ap (λ (z : List ℕ). record {
        answer = taken_answer taken.More;
        call = with_tally_def c (cond (ends (shelf t) c h.server) (fresh 5) (noted (shelf t) c.tally h.server));
        kept = put kept (candidates_place + candidate_slot * (h.server - 1)) z;
        output = output;
      }) p))

  pub took-repair : content_room ≤ length output → c.tally.round ≡ 6
      → all ≡ cond (ends (shelf t) c h.server)
      (record {
        answer = taken_answer (read_as (chosen_of (shelf t) kept).stamp (length (content_of c kept)));
        call = with_tally_def c (fresh 0);
        kept = kept;
        output = over (content_of c kept) output;
      })
      (record { answer = taken_answer taken.More; call = with_tally_def c (noted (shelf t) c.tally h.server); kept = kept; output = output })
  took-repair room e = on-round room 6 e (λ z. (let q : ⊥ = omega (arith, z) in q)) ∙ on-repair t client writers keys c kept output h body

  -- ---- clock

  module _ (clock : c.tally.round ≡ 1) where
    abbrev stamp : Stamp
    stamp = stamp_at_def (drop head_size reply)

    abbrev highest : ℕ
    highest = higher real writers c.high stamp

    abbrev packet : Packet
    packet = record { head = h; body = clock_reply stamp }

    as-clock : all ≡ take_in_def real (shelf t) client writers keys c kept output (some packet)
    unfolding body_at packet_at
    as-clock =
        let b : body ≡ clock_reply stamp = body_at_lem 1 clock refl in
        ap (take_in_def real (shelf t) client writers keys c kept output) y.decoded ∙ ap
        (λ (x : Body). take_in_def real (shelf t) client writers keys c kept output (some (record { head = h; body = x }))) b

    clock_kind : kind_of (clock_reply stamp) ≡ h.kind
    clock_kind = let a = awaited-reply t client c h y.awaited in sym (a.of_kind ∙ kind_at c 1 clock refl)

    abbrev refused_with_def : ℕ → Took
    refused_with_def n = record { answer = refused_answer n; call = c; kept = kept; output = output }

    pub clock_too-high : ends (shelf t) c h.server ≡ true → leb top_number highest ≡ true → all ≡ refused_with_def 14
    clock_too-high e l = as-clock ∙ high-refused t client writers keys c kept output h (clock_reply stamp) y.faults y.reader clock_kind
        y.awaited
        (clock-high t client writers keys c kept output h (clock_reply stamp) clock ∙ rw (e, l))

    module _ (fine : (ends (shelf t) c h.server && leb top_number highest) ≡ false) where
      not-high : high_in real (shelf t) client writers keys c kept output h.server (clock_reply stamp) ≡ false
      not-high = clock-high t client writers keys c kept output h (clock_reply stamp) clock ∙ fine

      pub clock_short : ltb (length output) content_room ≡ true → all ≡ refused_with_def 15
      clock_short l = as-clock ∙ short-refused t client writers keys c kept output h (clock_reply stamp) y.faults y.reader clock_kind y.awaited
          not-high l

      clock_on : content_room ≤ length output → all ≡ take_clock_def real (shelf t) client writers keys c kept output (ends (shelf t) c h.server)
          h.server
          (clock_reply stamp)
      unfolding take_on
      clock_on room = as-clock ∙ (taken-reply t client writers keys c kept output h (clock_reply stamp) y.faults y.reader clock_kind y.awaited
          not-high (le-ltb (length output) content_room room)
          ∙ ap (λ (k : ℕ). take_on real (shelf t) client writers keys c kept output k (some packet)) clock)

      pub clock_goes : content_room ≤ length output → ends (shelf t) c h.server ≡ false
          → all ≡ record {
            answer = taken_answer taken.More;
            call = record {
              number = c.number;
              last = c.last;
              high = highest;
              length = c.length;
              tally = noted (shelf t) c.tally h.server;
            };
            kept = kept;
            output = output;
          }
      unfolding take_clock_def took
      clock_goes room e = clock_on room ∙ rw e

      pub clock-ends : content_room ≤ length output → ends (shelf t) c h.server ≡ true
          → all ≡ record {
            answer = taken_answer taken.More;
            call = record { number = c.number; last = suc highest; high = c.high; length = c.length; tally = fresh 2 };
            kept = put_shares (shelf t) (put kept chosen_place ((candidate_f (shelf t)).print
                (candidate_made real (shelf t) client writers keys (nonce_of_def kept) (suc highest))))
                (shares_made real (shelf t) client writers keys (content_of c kept) (nonce_of_def kept) (suc highest)) (shelf t).servers;
            output = output;
          }
      unfolding take_clock_def took
      clock-ends room e = clock_on room ∙ rw e
