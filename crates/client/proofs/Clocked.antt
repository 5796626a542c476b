-- A clock reply as the code takes it: its stamp stands whole past the head, and each way through the round is the definition's step.
-- By cases on the round's tests, each a law of the replies that are taken. Assumes nothing.
use Rattle.std.specs.Prelude.{Result, Ok, Err}
use mathlib.Core.Path.{◌≡◌, refl, sym, ap, ◌∙◌, subst}
use mathlib.Core.Bool.{Bool, true, false, cond, ◌&&◌}
use mathlib.Core.List.{List, [], ◌∷◌}
use Prim.Native.Nat.{ℕ, suc, ◌≤◌, ◌<◌}
use lib.Dec.{leb, ltb}
use lib.ListN.{length, drop}
use borrow.Author.Tests.{ltb-false, leb-false}
use Rattle.cluster.specs.Config.{shelf}
use Rattle.cluster.specs.declared.Refusal.{Refusal}
use Rattle.cluster.specs.Refusals.{refuse, first_of, refusal_number}
use Rattle.erasure.proofs.Refused.{refused-number}
use Rattle.cluster.specs.Ranges.{top_number, content_room}
use Rattle.cluster.proofs.Tests.{and_both, passes}
use Rattle.protocol.specs.declared.Call.{Call}
use Rattle.protocol.specs.declared.Head.{Head}
use Rattle.protocol.specs.declared.Stamp.{Stamp}
use Rattle.protocol.specs.declared.Taken.TheVariants as taken
use Rattle.format.specs.Format.{Bytes, via, seq, or_blank}
use Rattle.protocol.specs.Values.{stamp_size}
use Rattle.protocol.specs.Packet.{Body, BodyOk, clock_reply, print_body, head_size, any_stamp_f, body_f, packet_f, PacketOk}
use Rattle.protocol.specs.Primitives.{real}
use Rattle.protocol.specs.Client.{higher}
use Rattle.protocol.specs.View.{stamp_at_def}
use Rattle.protocol.specs.ClientBytes.{key_of, fresh}
use Rattle.client.specs.Rounds.{take_by_rounds, noted, ends}
use Rattle.protocol.proofs.Bodies.{decode-ok}
use Rattle.protocol.proofs.Packets.{stamp-length, any-stamp-tag}
use Rattle.wire.specs.Places.{body_at, packet_at}
use Rattle.client.specs.declared.answers.Answered.{Answered}
use Rattle.client.specs.Steps.{Ready, TakesAs, write_made}
use Rattle.client.proofs.TakenReplies.{body_at_lem, printed, clock_too-high, clock_short, clock_goes, clock-ends}

module _ (t client : ℕ) (c : Call) (reply : List ℕ) (h : Head) (y : Ready t client c reply h) where
  stamp-ok : (z : Body) (a : Stamp) → z ≡ clock_reply a → BodyOk (shelf h.t) z → any_stamp_f.Ok a
  stamp-ok z a e o = subst (BodyOk (shelf h.t)) e o

  -- a clock reply's body is a stamp
  pub clock-long : Bytes reply → c.tally.round ≡ 1 → length (drop head_size reply) ≡ stamp_size
  unfolding PacketOk packet_f via seq body_f any_stamp_f or_blank body_at packet_at
  clock-long b e =
      let d : List ℕ = drop head_size reply in
      let x : (packet_at h reply).body ≡ clock_reply (stamp_at_def d) = body_at_lem t client [] (λ i. []) c [] [] reply h y 1 e refl in
      let p : any_stamp_f.print (stamp_at_def d) ≡ d = ap (print_body (shelf t)) (sym x) ∙ printed t client [] (λ i. []) c [] [] reply h y b in
      let o : any_stamp_f.Ok (stamp_at_def d) = stamp-ok (packet_at h reply).body (stamp_at_def d) x (decode-ok reply (packet_at h reply) y.decoded).1.1 in
      ap length (sym p) ∙ stamp-length (stamp_at_def d) (any-stamp-tag (stamp_at_def d) o)

  module _ (writers : List ℕ) (keys : List (List ℕ)) (kept output : List ℕ) (clock : c.tally.round ≡ 1) where
    abbrev top : ℕ
    top = higher real writers c.high (stamp_at_def (drop head_size reply))

    abbrev Takes : Result Answered Refusal → List ℕ → Type 0
    Takes a k = TakesAs t client writers keys c kept reply output a k output

    abbrev over : Bool
    over = ends (shelf t) c h.server && leb top_number top

    refused_as : (p q : Bool) → over ≡ p → ltb (length output) content_room ≡ q → (why : Refusal)
        → refusal_number why ≡ cond p 14 (cond q 15 0) → Takes (Err why) kept
    unfolding take_by_rounds
    refused_as true q f g why e =
        let w = and_both (ends (shelf t) c h.server) (leb top_number top) f in
        rw e (sym (clock_too-high t client writers (key_of keys) c kept output reply h y clock w.0 w.1))
    refused_as false true f g why e = rw e (sym (clock_short t client writers (key_of keys) c kept output reply h y clock f g))
    refused_as false false f g why e = absurd (refused-number why e)

    pub clock-refused : (why : Refusal) (room high : ℕ) → refusal_number why ≡ first_of (refuse 14 (ends (shelf t) c h.server && leb top_number high)
        ∷ refuse 15 (ltb room content_room) ∷ [])
        → high ≡ top → length output ≡ room → Takes (Err why) kept
    clock-refused why room high e m l = refused_as over (ltb (length output) content_room) refl refl why (rw (m, ← l) at e)

    module _ (room high : ℕ) (e : 0 ≡ first_of (refuse 14 (ends (shelf t) c h.server && leb top_number high) ∷ refuse 15 (ltb room content_room) ∷ []))
        (m : high ≡ top) where
      fine : over ≡ false
      fine = rw m at (passes (ends (shelf t) c h.server && leb top_number high) 13 (cond (ltb room content_room) 15 0) (sym e)).0

      wide : length output ≡ room → content_room ≤ length output
      wide l =
          let p = (passes (ends (shelf t) c h.server && leb top_number high) 13 (cond (ltb room content_room) 15 0) (sym e)).1 in
          rw l (ltb-false room content_room (passes (ltb room content_room) 14 0 p).0)

      pub clock-below : ends (shelf t) c h.server ≡ true → high < top_number
      clock-below q = rw m (leb-false top_number top (rw q at fine))

      pub clock-noted : length output ≡ room → ends (shelf t) c h.server ≡ false
          → Takes (Ok (record {
            answer = taken.More;
            call = record {
              number = c.number;
              last = c.last;
              high = high;
              length = c.length;
              tally = noted (shelf t) c.tally h.server;
            };
          })) kept
      unfolding take_by_rounds
      clock-noted l q = rw m (sym (clock_goes t client writers (key_of keys) c kept output reply h y clock fine (wide l) q))

      pub clock-ended : length output ≡ room → ends (shelf t) c h.server ≡ true
          → Takes (Ok (record {
            answer = taken.More;
            call = record {
              number = c.number;
              last = suc high;
              high = c.high;
              length = c.length;
              tally = fresh 2;
            };
          }))
          (write_made t client writers keys c kept (suc high))
      unfolding take_by_rounds
      clock-ended l q = rw m (sym (clock-ends t client writers (key_of keys) c kept output reply h y clock fine (wide l) q))
