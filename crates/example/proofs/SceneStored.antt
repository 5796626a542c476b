-- Client 1's write, step by step: the run up to its end meets the premises, its tags have been made and its nonce shown.
-- Assumes nothing.
use mathlib.Core.Path.{◌≡◌, refl, sym, ap, ◌∙◌, subst}
use mathlib.Core.Bool.{Bool, false, cond}
use mathlib.Core.List.{List, [], ◌∷◌, flat_map}
use mathlib.Core.Option.{Option, none, some}
use mathlib.Core.Logic.{inl, inr}
use Prim.Native.Nat.{ℕ}
use lib.ListN.{length, length-replicate}
use Rattle.cluster.specs.Config.{shelf, up_to}
use Rattle.format.specs.Format.{Bytes}
use Rattle.protocol.specs.Values.{nonce_size, blank_stamp, is_blank_def, below}
use Rattle.protocol.specs.Packet.{Packet, decode, clock_reply, store_reply, complete_reply}
use Rattle.protocol.specs.Primitives.{stamp_message_def, candidate_message}
use Rattle.protocol.specs.Rules.{upd, nobody}
use Rattle.protocol.specs.Server.{best}
use Rattle.protocol.specs.Client.{checks, made, written, candidate_made, stamp_of, write_refusal_def, is_idle, awaits, begun}
use Rattle.runs.specs.Runs.{make, sent_of}
use Rattle.protocol.proofs.Bodies.{decode-encode}
use Rattle.runs.proofs.ValueRuns.{World, now_values, do_values}
use Rattle.atomicity.specs.Lists.{Always, Ever, All, In}
use Rattle.atomicity.specs.Steps.{all_digested, stamped_from, stamped_by, tags_with, digests_with, judged, client_checks, compared}
use Rattle.atomicity.specs.Premises.{Shows}
use Rattle.atomicity.specs.Claim.{Logged, log, change}
use Rattle.atomicity.proofs.Model.{Run, perform, now}
use Rattle.example.proofs.Playing.{Hashing, s, nonce1, Shown, Made, Play}
use Rattle.example.proofs.Printed.{bytes_of, bytes_ok}
use Rattle.example.proofs.ServeSteps.{makes_it, sent-ok, made-sent, packet_buffer}
use Rattle.example.proofs.CallSteps.{writing, play_write}
use Rattle.example.proofs.Talks.{exchanged, play_exchange}
use Rattle.example.proofs.Lies.{lied, play_lie}
use Rattle.example.proofs.Scene.{content1, label1, pieces, cand, high_stamp, high_unchecked, holding, blank_one}
use Rattle.example.proofs.SceneWrites.{ours, one, one_two, goes, ends, clocks, stores, completes, keeping, w0, w1, w2, w3, w4, w5, w6, w7}
use Rattle.example.proofs.SceneWrites.{w8, w9, w10, writes}

pub content1-bytes : Bytes content1
unfolding content1
content1-bytes = bytes_of (bytes_ok content1 refl)

pub nonce1-bytes : Bytes nonce1
unfolding nonce1
nonce1-bytes = bytes_of (bytes_ok nonce1 refl)

pub nonce1-size : length nonce1 ≡ nonce_size
unfolding nonce1
nonce1-size = length-replicate {A = ℕ} nonce_size 42

-- the write in the log, by the moments at which its complete round began and at which it ended
abbrev pub first_write : Option ℕ → Option ℕ → Logged
first_write r e = record { client = 1; number = 1; wrote = some content1; begun = 0; reached = r; over = e; answer = none; gave_up = false }

module _ (H : Hashing) where
  -- ---- the run

  unfoldable pub x1 : Run (s H)
  x1 = writing H 1 content1 nonce1 content1-bytes nonce1-bytes nonce1-size ∷ []

  unfoldable pub x2 : Run (s H)
  x2 = lied H (w1 H) 1 ours (clock_reply (high_stamp H)) (goes 0 one clocks) (writes H).clock-1 x1

  unfoldable pub x3 : Run (s H)
  x3 = exchanged H (w2 H) 1 2 ours (blank_one H) (clock_reply blank_stamp) (goes 0 one_two clocks) (writes H).clock-2 x2

  unfoldable pub x4 : Run (s H)
  x4 = exchanged H (w3 H) 1 3 ours (blank_one H) (clock_reply blank_stamp) (goes 1 nobody (stores H)) (writes H).clock-3 x3

  unfoldable pub x5 : Run (s H)
  x5 = lied H (w4 H) 1 ours (store_reply 0) (goes 1 one (stores H)) (writes H).store-1 x4

  unfoldable pub x6 : Run (s H)
  x6 = exchanged H (w5 H) 1 2 ours (keeping H 2) (store_reply 0) (goes 1 one_two (stores H)) (writes H).store-2 x5

  unfoldable pub x7 : Run (s H)
  x7 = exchanged H (w6 H) 1 3 ours (keeping H 3) (store_reply 0) (goes 1 nobody (completes H)) (writes H).store-3 x6

  unfoldable pub x8 : Run (s H)
  x8 = lied H (w7 H) 1 ours complete_reply (goes 1 one (completes H)) (writes H).complete-1 x7

  unfoldable pub x9 : Run (s H)
  x9 = exchanged H (w8 H) 1 2 ours (holding H 2) complete_reply (goes 1 one_two (completes H)) (writes H).complete-2 x8

  unfoldable pub x10 : Run (s H)
  x10 = exchanged H (w9 H) 1 3 ours (holding H 3) complete_reply (ends 1 (written label1)) (writes H).complete-3 x9

  -- ---- it meets the premises

  p0 : Play H false [] (w0 H) []
  unfolding w0 now_values Always log all_digested All Ever
  p0 = record { fair = tt; here = refl; calls = refl; same = tt; begun = λ c n b. absurd b; got = λ n g. absurd g }

  p1 : Play H false x1 (w1 H) (first_write none none ∷ [])
  unfolding x1 w0 w1 write_refusal_def shelf is_idle awaits content1 Ever
  p1 = play_write H 1 content1 nonce1 content1-bytes nonce1-bytes nonce1-size false false [] (w0 H) [] p0 (λ y. y) refl refl (inl (refl, refl))
      (λ d b. b) (λ g. g)

  pub p2 : Play H false x2 (w2 H) (first_write none none ∷ [])
  unfolding x1 x2 w0 w1 w2 upd begun awaits change client_checks flat_map stamped_from compared All high_stamp
  p2 = play_lie H (w1 H) 1 ours _ _ (writes H).clock-1 false x1 _ p1
      (subst (λ (q : Bool). All (λ kb. Made H kb x1) (cond q (((s H).writers, stamp_message_def 99999998 2) ∷ []) []))
      (sym (high_unchecked H)) tt) tt

  pub p3 : Play H false x3 (w3 H) (first_write none none ∷ [])
  unfolding x3 w0 w1 w2 w3 upd begun awaits made change client_checks checks is_blank_def judged best below flat_map stamped_from compared All
  p3 = play_exchange H (w2 H) 1 2 ours _ _ _ (writes H).clock-2 false x2 _ p2 tt tt (inl refl) tt tt

  -- the end of clock digests the nonce five times: as itself, and as each fragment
  p4 : Play H false x4 (w4 H) (first_write none none ∷ [])
  unfolding x4 w0 w1 w2 w3 w4 upd begun awaits made change client_checks checks is_blank_def judged best below flat_map stamped_from compared digests_with up_to
      shelf All
  p4 = play_exchange H (w3 H) 1 3 ours _ _ _ (writes H).clock-3 false x3 _ p3 tt tt (inl refl) tt
      (refl, (pieces.0, (pieces.1, (pieces.2, (pieces.3, tt)))))

  p5 : Play H false x5 (w5 H) (first_write none none ∷ [])
  unfolding x5 w0 w1 w2 w3 w4 w5 upd awaits change client_checks flat_map stamped_from compared All
  p5 = play_lie H (w4 H) 1 ours _ _ (writes H).store-1 false x4 _ p4 tt tt

  p6 : Play H false x6 (w6 H) (first_write none none ∷ [])
  unfolding x6 w4 w5 w6 upd awaits made change client_checks judged best below flat_map stamped_from compared All
  p6 = play_exchange H (w5 H) 1 2 ours _ _ _ (writes H).store-2 false x5 _ p5 tt tt (inl refl) tt tt

  p7 : Play H false x7 (w7 H) (first_write (some 16) none ∷ [])
  unfolding x1 x2 x3 x4 x5 x6 x7 w4 w5 w6 w7 upd awaits made change client_checks judged best below flat_map stamped_from compared All
  p7 = play_exchange H (w6 H) 1 3 ours _ _ _ (writes H).store-3 false x6 _ p6 tt tt (inl refl) tt tt

  pub p8 : Play H false x8 (w8 H) (first_write (some 16) none ∷ [])
  unfolding x8 w4 w5 w6 w7 w8 upd awaits change client_checks flat_map stamped_from compared All
  p8 = play_lie H (w7 H) 1 ours _ _ (writes H).complete-1 false x7 _ p7 tt tt

  -- the packet to server 2 is the first to show the nonce
  shown-8 : Shown H 1 nonce1 (makes_it H 1 2 ∷ x8)
  unfolding Ever Shows w8 w7 upd made cand candidate_made
  shown-8 = inl (
    cand H,
    made (s H).config.t 1 ((w8 H).client 1) 2,
    refl,
    ap (λ (o : Option Packet). decode (sent_of o)) sent ∙ decode-encode _ (sent-ok H (makes_it H 1 2) x8 _ sent),
    refl,
    refl,
  )
    where
      sent : (perform (s H) (now (s H) x8) (make 1 2 packet_buffer)).sent ≡ some (made (s H).config.t 1 ((w8 H).client 1) 2)
      sent = made-sent H 1 2 x8 (w8 H) p8.here (writes H).complete-2.makes_on

  p9 : Play H false x9 (w9 H) (first_write (some 16) none ∷ [])
  unfolding x9 w4 w5 w6 w7 w8 w9 upd awaits made change client_checks judged best below flat_map stamped_from compared All cand candidate_made
  p9 = play_exchange H (w8 H) 1 2 ours _ _ _ (writes H).complete-2 false x8 _ p8 tt tt (inr (shown-8, (inl refl, tt))) tt tt

  shown-9 : Shown H 1 nonce1 x9
  unfolding Ever x9
  shown-9 = inr (inr shown-8)

  pub p10 : Play H false x10 (w10 H) (first_write (some 16) (some 24) ∷ [])
  unfolding x1 x2 x3 x4 x5 x6 x7 x8 x9 x10 w4 w5 w6 w7 w8 w9 w10 upd awaits made change client_checks judged best below flat_map stamped_from compared All
      cand candidate_made Ever
  p10 = play_exchange H (w9 H) 1 3 ours _ _ _ (writes H).complete-3 false x9 _ p9 tt tt (inr (inr shown-9, (inl refl, tt))) tt tt

  -- ---- what has been made and shown by then

  pub shown-10 : Shown H 1 nonce1 x10
  unfolding Ever x10
  shown-10 = inr (inr (inr shown-9))

  -- the tags of the stamp and of the candidate were made when clock ended
  made-4 : (kb : List ℕ × List ℕ) → In kb (flat_map (tags_with (s H)) (stamped_from 1 clocks (stores H))) → Made H kb x4
  unfolding Ever x4 stamped_by now_values do_values w3 w4 upd
  made-4 kb i =
      inl (subst (λ (v : World × World). In kb (flat_map (tags_with (s H)) (stamped_from 1 (v.0.client 1).hand (v.1.client 1).hand))) (sym both) i)
    where
      both : ◌≡◌ {A = World × World} (now (s H) x3, now (s H) x4) (w3 H, w4 H)
      both = λ i. (p3.here i, p4.here i)

  made-10 : (kb : List ℕ × List ℕ) → Made H kb x4 → Made H kb x10
  unfolding Ever x5 x6 x7 x8 x9 x10
  made-10 kb h = inr (inr (inr (inr (inr (inr (inr (inr (inr (inr (inr (inr (inr (inr (inr (inr h)))))))))))))))

  pub stamp-made : Made H ((s H).writers, stamp_message_def 1 1) x10
  unfolding stamped_from flat_map tags_with In cand candidate_made stamp_of
  stamp-made = made-10 _ (made-4 _ (inl refl))

  pub tag-made : Made H ((s H).keys 4, candidate_message (cand H).stamp (H.digest nonce1)) x10
  unfolding stamped_from flat_map tags_with In up_to shelf cand candidate_made
  tag-made = made-10 _ (made-4 _ (inr (inr (inr (inr (inl refl))))))
