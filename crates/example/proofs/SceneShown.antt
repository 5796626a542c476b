-- The example from client 2's write on, step by step: client 2 takes a stamp whose tag checks and gives up, and the wild client shows a server what
-- it
-- made up. The run meets the premises.
-- Assumes nothing.
use mathlib.Core.Path.{◌≡◌, refl, sym, ap, subst}
use mathlib.Core.Bool.{Bool, true, false, cond}
use mathlib.Core.List.{List, [], ◌∷◌, map, flat_map}
use mathlib.Core.Option.{none, some}
use mathlib.Core.Logic.{◌⊎◌, inl, inr}
use Prim.Native.Nat.{ℕ}
use native.Mathlib.Omega.{arith}
use lib.ListN.{length, get_or, length-replicate}
use Rattle.cluster.specs.Config.{shelf}
use Rattle.format.specs.Format.{Bytes}
use Rattle.protocol.specs.Values.{Candidate, nonce_size, no_held, below, same_stamp}
use Rattle.protocol.specs.Packet.{clock_reply, filter_reply}
use Rattle.protocol.specs.Memory.{lookup}
use Rattle.protocol.specs.Primitives.{stamp_message_def, candidate_message}
use Rattle.protocol.specs.Rules.{upd}
use Rattle.protocol.specs.Server.{best, raise, act, barred, server_refusal}
use Rattle.protocol.specs.Client.{clocking, awaits, is_idle, candidate_made, stamp_of, made, onto, write_refusal_def, abort_refusal_def, begun}
use Rattle.atomicity.specs.Lists.{Ever, All}
use Rattle.atomicity.specs.Steps.{nonblank, judged, server_checks, client_checks, stamped_from, compared}
use Rattle.atomicity.specs.Claim.{Logged, change}
use Rattle.atomicity.proofs.Util.{clash}
use Rattle.atomicity.proofs.Model.{Run}
use Rattle.example.proofs.Playing.{Hashing, s, nonce1, nonce2, nonce3, Begun, Got, Shown, Made, Play}
use Rattle.example.proofs.Printed.{bytes_of, bytes_ok, packet-bytes}
use Rattle.example.proofs.ServeSteps.{Serves, serving, play-serve}
use Rattle.example.proofs.CallSteps.{writing, play_write, gives_up, play_give-up}
use Rattle.example.proofs.Talks.{exchanged, play_exchange}
use Rattle.example.proofs.Scene.{content2, cand, stored, made_up, holding, stamp-checks, best-made-up}
use Rattle.example.proofs.SceneBytes.{wild_packet, wild-bytes, wild-ok}
use Rattle.example.proofs.SceneWrites.{ours, goes, w0, w1, w2, w3, w4, w5, w6, w7, w8, w9, w10}
use Rattle.example.proofs.SceneReads.{two, w11, w12, w13, w14, reads}
use Rattle.example.proofs.SceneStored.{first_write, x1, x2, x3, x4, x5, x6, x7, x8, x9, x10, p10, shown-10, stamp-made, tag-made}

pub content2-bytes : Bytes content2
unfolding content2
content2-bytes = bytes_of (bytes_ok content2 refl)

pub nonce2-bytes : Bytes nonce2
unfolding nonce2
nonce2-bytes = bytes_of (bytes_ok nonce2 refl)

pub nonce2-size : length nonce2 ≡ nonce_size
unfolding nonce2
nonce2-size = length-replicate {A = ℕ} nonce_size 43

-- the calls in the log
abbrev pub wrote : Logged
wrote = first_write (some 16) (some 24)

abbrev pub second_write : Bool → Logged
second_write g = record { client = 2; number = 1; wrote = some content2; begun = 25; reached = none; over = none; answer = none; gave_up = g }

module _ (H : Hashing) where
  -- ---- the run

  unfoldable pub x11 : Run (s H)
  x11 = writing H 2 content2 nonce2 content2-bytes nonce2-bytes nonce2-size ∷ x10 H

  unfoldable pub x12 : Run (s H)
  x12 = exchanged H (w11 H) 2 2 ours (holding H 2) (clock_reply (cand H).stamp) (goes 0 two (clocking content2 nonce2 1)) (reads H).clock-2 x11

  unfoldable pub x13 : Run (s H)
  x13 = gives_up H 2 ∷ x12

  pub wild : Serves H (w13 H) 2 (wild_packet H) (holding H 2) (filter_reply no_held)
  unfolding w0 w1 w2 w3 w4 w5 w6 w7 w8 w9 w10 w11 w12 w13 upd shelf server_refusal barred wild_packet act raise below lookup same_stamp cand candidate_made
      stamp_of
  wild =
      record {
        right = refl;
        inside = refl;
        ok = wild-ok H;
        bytes = packet-bytes (wild_packet H) (wild-bytes H);
        request = refl;
        lets = refl;
        does = ap (λ (c : Candidate). record {
          server = raise c (holding H 2);
          reply = filter_reply
              (record { stamp = c.stamp; share = lookup c.stamp (stored H 2 ∷ []) });
        })
            (best-made-up H 2 (omega arith) (omega arith));
      }

  unfoldable pub x14 : Run (s H)
  x14 = serving H (w13 H) 2 (wild_packet H) (holding H 2) (filter_reply no_held) wild ∷ x13

  -- ---- client 2's write and the wild client's packet

  new-2 : (d : ℕ) → Begun H d nonce2 (x10 H) → ⊥
  unfolding nonce1 nonce2
  new-2 d b = no_two ((p10 H).begun d nonce2 b)
    where
      no_two : ((d ≡ 1) × (nonce2 ≡ nonce1)) ⊎ ((false ≡ true) × (nonce2 ≡ nonce2)) → ⊥
      no_two (inl (i, e)) = omega (arith, ap (λ (l : List ℕ). get_or l 0 0) e)
      no_two (inr (y, e)) = clash y refl

  ungot-2 : Got H nonce2 (x10 H) → ⊥
  unfolding nonce1 nonce2 nonce3
  ungot-2 g = no_two ((p10 H).got nonce2 g)
    where
      no_two : (nonce2 ≡ nonce1) ⊎ (nonce2 ≡ nonce3) → ⊥
      no_two (inl e) = omega (arith, ap (λ (l : List ℕ). get_or l 0 0) e)
      no_two (inr e) = omega (arith, ap (λ (l : List ℕ). get_or l 0 0) e)

  pub p11 : Play H true x11 (w11 H) (second_write false ∷ wrote ∷ [])
  unfolding x1 x2 x3 x4 x5 x6 x7 x8 x9 x10 x11 w0 w1 w2 w3 w4 w5 w6 w7 w8 w9 w10 w11 upd write_refusal_def shelf is_idle awaits content2
  p11 = play_write H 2 content2 nonce2 content2-bytes nonce2-bytes nonce2-size false true (x10 H) (w10 H) _ (p10 H) (λ y. refl) refl refl
      (inr (refl, refl))
      new-2 ungot-2

  -- the reply's stamp has a number above the highest so far, and its tag checks
  pub tag-checks : client_checks (s H) ((w11 H).client 2).hand (clock_reply (cand H).stamp) ≡ ((s H).writers, stamp_message_def 1 1) ∷ []
  unfolding w11 upd begun client_checks cand candidate_made stamp_of
  tag-checks = ap (λ (q : Bool). cond q (((s H).writers, stamp_message_def 1 1) ∷ []) []) (stamp-checks H)

  p12 : Play H true x12 (w12 H) (second_write false ∷ wrote ∷ [])
  unfolding x12 w0 w1 w2 w3 w4 w5 w6 w7 w8 w9 w10 w11 w12 upd begun awaits made change judged best below flat_map stamped_from compared All Ever x11
  p12 = play_exchange H (w11 H) 2 2 ours _ _ _ (reads H).clock-2 true x11 _ p11 tt tt (inl refl)
      (subst (All (λ kb. Made H kb x11)) (sym (tag-checks)) (inr (stamp-made H), tt)) tt

  pub p13 : Play H true x13 (w13 H) (second_write true ∷ wrote ∷ [])
  unfolding x13 w0 w1 w2 w3 w4 w5 w6 w7 w8 w9 w10 w11 w12 w13 upd awaits is_idle abort_refusal_def shelf change onto
  p13 = play_give-up H 2 true x12 (w12 H) _ p12 refl refl

  shown-13 : Shown H 1 nonce1 x13
  unfolding Ever x13 x12 x11
  shown-13 = inr (inr (inr (inr (inr (shown-10 H)))))

  -- nothing that the wild client made up is valid, so that nothing is digested
  wild-judged : judged (s H) 2 ((w13 H).server 2) (wild_packet H).body ≡ []
  unfolding judged wild_packet w0 w1 w2 w3 w4 w5 w6 w7 w8 w9 w10 w11 w12 w13 upd below shelf
  wild-judged = ap nonblank (best-made-up H 2 (omega arith) (omega arith))

  pub p14 : Play H true x14 (w14 H) (second_write true ∷ wrote ∷ [])
  unfolding x14 w14 wild_packet made_up flat_map All
  p14 = play-serve H (w13 H) 2 (wild_packet H) (holding H 2) (filter_reply no_held) wild true x13 _ p13 (λ y. clash y refl)
      (subst (λ (l : List Candidate). All (λ kb. Made H kb x13) (flat_map (server_checks (s H) 2 ((w13 H).server 2)) l)) (sym wild-judged) tt)
      (subst (λ (l : List Candidate). All (λ u. u ≡ nonce1) (map (λ (d : Candidate). d.nonce) l)) (sym wild-judged) tt)
      (inr (shown-13, (inr refl, tt)))

  pub shown-14 : Shown H 1 nonce1 x14
  unfolding Ever x14
  shown-14 = inr shown-13

  pub tag-made-14 : Made H ((s H).keys 4, candidate_message (cand H).stamp (H.digest nonce1)) x14
  unfolding Ever x14 x13 x12 x11
  tag-made-14 = inr (inr (inr (inr (inr (inr (tag-made H))))))
