-- An exchange on the example's shelf of a correct client with the liar, server 1, which answers what it likes within the layout: it keeps what is
-- known of a run, since no premise asks where a lying server's packet comes from. What can be computed of it is one test.
-- Assumes nothing.
use mathlib.Core.Path.{◌≡◌, refl}
use mathlib.Core.Bool.{Bool, true, false, not, ◌&&◌}
use mathlib.Core.List.{List, ◌∷◌, ◌++◌, flat_map}
use mathlib.Core.Option.{some}
use mathlib.Core.Logic.{inr}
use Prim.Native.Nat.{ℕ, suc}
use lib.ListN.{length}
use lib.Dec.{eqb}
use borrow.Author.Tests.{eqb-true, not-true}
use Rattle.cluster.specs.Config.{shelf}
use Rattle.cluster.specs.Ranges.{packet_room, content_room}
use Rattle.protocol.specs.Packet.{Body, BodyOk, Packet, PacketOk, kind_of}
use Rattle.protocol.proofs.ServerLift.{reply-ok}
use Rattle.protocol.specs.Server.{reply_to}
use Rattle.protocol.specs.Client.{Turn, made, make_refusal_def, take_refusal, high_at, awaits}
use Rattle.runs.specs.Runs.{Lent}
use Rattle.runs.proofs.ValueRuns.{World}
use Rattle.atomicity.specs.Lists.{Ever, All}
use Rattle.atomicity.specs.Steps.{stamped_from, client_checks, compared, digests_with}
use Rattle.atomicity.specs.Premises.{odd}
use Rattle.atomicity.specs.Claim.{Logged}
use Rattle.atomicity.proofs.Util.{clash, and_left, and_right, all_map}
use Rattle.atomicity.proofs.Model.{Run}
use Rattle.example.proofs.Playing.{Hashing, functions, who, nonce1, s, Made, Play}
use Rattle.example.proofs.Printed.{BodyBytes, PacketBytes, packet-bytes, head_fits, packet_of}
use Rattle.example.proofs.ServeSteps.{takes_it, makes_it, sent-ok, play_make, made-sent, Owned}
use Rattle.example.proofs.TakeSteps.{turned, took, followed, Takes, play_take}

module _ (H : Hashing) where
  -- ---- the liar, server 1, answers client c with x

  pub record Lie (w : World) (c : ℕ) (lent : Lent) (x : Body) (t : Turn) : Type 0 where
    pub client : who.client c ≡ true
    pub own : Owned H c lent
    pub ok : BodyOk (shelf (made (s H).config.t c (w.client c) 1).head.t) x
    pub bytes : PacketBytes (reply_to (made (s H).config.t c (w.client c) 1) x)
    pub answers : odd (kind_of x) ≡ false
    pub makes_on : make_refusal_def (s H).config c 1 (awaits (w.client c).hand) packet_room ≡ 0
    pub takes_on : let cl = w.client c in take_refusal (s H).config c (some (reply_to (made (s H).config.t c cl 1) x)) cl.calls
        (awaits cl.hand)
        cl.marks (high_at (functions H) (s H).config c (s H).writers (s H).keys cl) content_room ≡ 0
    pub turns : turned H c (w.client c) (reply_to (made (s H).config.t c (w.client c) 1) x) ≡ t

  module _ (w : World) (c : ℕ) (lent : Lent) (x : Body) (t : Turn) (k : Lie w c lent x t) where
    abbrev pub lie : Packet
    lie = reply_to (made (s H).config.t c (w.client c) 1) x

    abbrev pub lied : Run (s H) → Run (s H)
    lied xs = takes_it H c lent lie k.own (packet-bytes lie k.bytes) ∷ makes_it H c 1 ∷ xs

    pub lie-ok : (two : Bool) (xs : Run (s H)) (cs : List Logged) → Play H two xs w cs → PacketOk lie
    lie-ok two xs cs p = reply-ok (made (s H).config.t c (w.client c) 1) x
        (sent-ok H (makes_it H c 1) xs _ (made-sent H c 1 xs w p.here k.makes_on)) k.ok

    pub play_lie : (two : Bool) (xs : Run (s H)) (cs : List Logged) → Play H two xs w cs →
        All (λ kb. Made H kb xs) (client_checks (s H) (w.client c).hand x) →
        All (λ u. u ≡ nonce1)
        (flat_map (digests_with (s H)) (stamped_from c (w.client c).hand t.client.hand) ++ compared (s H) (w.client c) (w.client c).hand lie) →
        Play H two (lied xs) (took H w c t) (followed H w c t (suc (length xs)) cs)
    unfolding Ever reply_to made
    play_lie two xs cs p tags digests =
        play_take H w c lent lie t takes two (makes_it H c 1 ∷ xs) cs (play_make H c 1 two xs w cs p k.client)
        (λ y. clash y refl) (all_map _ _ (λ kb h. inr h) _ tags) digests
      where
        takes : Takes H w c lent lie t
        takes =
            record {
              right = k.client;
              own = k.own;
              ok = lie-ok two xs cs p;
              bytes = packet-bytes lie k.bytes;
              reply = k.answers;
              lets = k.takes_on;
              does = k.turns;
            }

  abbrev pub lie_fits : World → ℕ → Body → Bool
  lie_fits w c x =
      let cl = w.client c in let p = made (s H).config.t c cl 1 in let q = reply_to p x in
      who.client c
      && (head_fits q
      && (not (odd (kind_of x))
      && (eqb (make_refusal_def (s H).config c 1 (awaits cl.hand) packet_room) 0
      && eqb (take_refusal (s H).config c (some q) cl.calls (awaits cl.hand) cl.marks
      (high_at (functions H) (s H).config c (s H).writers (s H).keys cl) content_room) 0)))

  pub lie_of : (w : World) (c : ℕ) (lent : Lent) (x : Body) (t : Turn) → lie_fits w c x ≡ true → Owned H c lent → BodyOk (shelf 1) x → BodyBytes x →
      turned H c (w.client c) (reply_to (made (s H).config.t c (w.client c) 1) x) ≡ t → Lie w c lent x t
  unfolding reply_to made shelf
  lie_of w c lent x t e own ok b turns =
      let cl = w.client c in
      let q = reply_to (made (s H).config.t c cl 1) x in
      let e1 = and_right (who.client c) _ e in
      let e2 = and_right (head_fits q) _ e1 in
      let e3 = and_right (not (odd (kind_of x))) _ e2 in
      let m = eqb (make_refusal_def (s H).config c 1 (awaits cl.hand) packet_room) 0 in
      record {
        client = and_left (who.client c) _ e;
        own = own;
        ok = ok;
        bytes = packet_of q (and_left (head_fits q) _ e1) b;
        answers = not-true _ (and_left (not (odd (kind_of x))) _ e2);
        makes_on = eqb-true _ 0 (and_left m _ e3);
        takes_on = eqb-true _ 0 (and_right m _ e3);
        turns = turns;
      }
