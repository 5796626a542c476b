-- The example's read, step by step: client 9 collects a spoilt candidate from the liar, whose reply comes twice, reads past it and repairs.
-- The run meets the premises.
-- Assumes nothing.
use mathlib.Core.Path.{◌≡◌, refl, sym, subst}
use mathlib.Core.Bool.{true, false}
use mathlib.Core.List.{List, [], ◌∷◌, flat_map}
use mathlib.Core.Option.{Option, none, some}
use mathlib.Core.Logic.{inl, inr}
use Prim.Native.Nat.{ℕ}
use Rattle.cluster.specs.Config.{shelf, quorum}
use Rattle.protocol.specs.Values.{Candidate, no_held, below}
use Rattle.protocol.specs.Packet.{Packet, collect_reply, filter, filter_reply, repair, repair_reply, encode}
use Rattle.protocol.specs.Primitives.{candidate_message}
use Rattle.protocol.specs.Rules.{upd, nobody, count_to}
use Rattle.protocol.specs.Server.{reply_to, best}
use Rattle.protocol.specs.Client.{refused, gave, collecting, filtering, awaits, is_idle, is_full_def, candidate_made, made, read_refusal_def, begun}
use Rattle.runs.specs.Runs.{take-reply}
use Rattle.atomicity.specs.Lists.{Ever, All}
use Rattle.atomicity.specs.Steps.{judged, client_checks, proving, stamped_from, compared}
use Rattle.atomicity.specs.Claim.{Logged, change}
use Rattle.atomicity.proofs.Model.{Run, perform}
use Rattle.example.proofs.Playing.{Hashing, s, nonce1, Shown, Made, Play}
use Rattle.example.proofs.Printed.{packet-bytes}
use Rattle.example.proofs.ServeSteps.{takes_it, content_buffer}
use Rattle.example.proofs.CallSteps.{reads_it, play_read, refused_does, play-refused}
use Rattle.example.proofs.Talks.{exchanged, play_exchange}
use Rattle.example.proofs.Lies.{lie, lied, lie-ok, play_lie}
use Rattle.example.proofs.Scene.{content1, label1, cand, spoilt, holding, blank_one}
use Rattle.example.proofs.SceneRead.{knows, sifted, marked, heard, choice_is}
use Rattle.example.proofs.SceneChecks.{judged-held, judged-tagged, judged-repair, none_checked, one_checked, nonce-digested}
use Rattle.example.proofs.SceneChecks.{sifted_timely, repair_timely, proving_is}
use Rattle.example.proofs.SceneWrites.{one, one_two, goes, ends, w0, w1, w2, w3, w4, w5, w6, w7, w8, w9, w10}
use Rattle.example.proofs.SceneReads.{others, two, blanks, told, repairs, w11, w12, w13, w14, w15, w16, w17, w18, w19, w20, w21, w22, w23}
use Rattle.example.proofs.SceneReads.{w24, w25, reads}
use Rattle.example.proofs.SceneShown.{wrote, second_write, x11, x12, x13, x14, p14, shown-14, tag-made-14}
use Rattle.example.proofs.SceneStored.{x1, x2, x3, x4, x5, x6, x7, x8, x9, x10}

abbrev pub the_read : Option ℕ → Option (List ℕ) → Logged
the_read e a = record { client = 9; number = 1; wrote = none; begun = 31; reached = none; over = e; answer = a; gave_up = false }

module _ (H : Hashing) where
  -- ---- the run

  unfoldable pub x15 : Run (s H)
  x15 = reads_it H 9 ∷ x14 H

  unfoldable pub x16 : Run (s H)
  x16 = lied H (w15 H) 9 others (collect_reply (spoilt H)) (goes 0 one (collecting (upd (blanks H) 1 (spoilt H)))) (reads H).collect-1 x15

  abbrev pub the_lie : Packet
  the_lie = lie H (w15 H) 9 others (collect_reply (spoilt H)) (goes 0 one (collecting (upd (blanks H) 1 (spoilt H)))) (reads H).collect-1

  -- the liar's reply comes again
  unfoldable pub x17 : Run (s H)
  x17 = takes_it H 9 others the_lie (reads H).collect-1.own (packet-bytes the_lie (reads H).collect-1.bytes) ∷ x16

  unfoldable pub x18 : Run (s H)
  x18 = exchanged H (w17 H) 9 2 others (holding H 2) (collect_reply (cand H)) (goes 0 one_two
      (collecting (upd (upd (blanks H) 1 (spoilt H)) 2 (cand H))))
      (reads H).collect-2 x17

  unfoldable pub x19 : Run (s H)
  x19 = exchanged H (w18 H) 9 3 others (holding H 3) (collect_reply (cand H)) (goes 0 nobody (filtering (sifted H) (λ i. no_held)))
      (reads H).collect-3 x18

  unfoldable pub x20 : Run (s H)
  x20 = exchanged H (w19 H) 9 2 others (holding H 2) (filter_reply (knows H 2)) (goes 0 two (filtering (sifted H) (upd (λ i. no_held) 2 (knows H 2))))
      (reads H).filter-2 x19

  unfoldable pub x21 : Run (s H)
  x21 = exchanged H (w20 H) 9 3 others (holding H 3) (filter_reply (knows H 3))
      (goes 0 (upd two 3 true) (filtering (sifted H) (upd (upd (λ i. no_held) 2 (knows H 2)) 3 (knows H 3)))) (reads H).filter-3 x20

  unfoldable pub x22 : Run (s H)
  x22 = exchanged H (w21 H) 9 4 others (told H) (filter_reply (record { stamp = (cand H).stamp; share = none })) (goes 0 nobody (repairs H))
      (reads H).filter-4 x21

  unfoldable pub x23 : Run (s H)
  x23 = lied H (w22 H) 9 others repair_reply (goes 0 one (repairs H)) (reads H).repair-1 x22

  unfoldable pub x24 : Run (s H)
  x24 = exchanged H (w23 H) 9 2 others (holding H 2) repair_reply (goes 0 one_two (repairs H)) (reads H).repair-2 x23

  unfoldable pub x25 : Run (s H)
  x25 = exchanged H (w24 H) 9 3 others (holding H 3) repair_reply (ends 0 (gave label1 content1)) (reads H).repair-3 x24

  -- ---- it meets the premises

  p15 : Play H true x15 (w15 H) (the_read none none ∷ second_write true ∷ wrote ∷ [])
  unfolding x1 x2 x3 x4 x5 x6 x7 x8 x9 x10 x11 x12 x13 x14 x15 w0 w1 w2 w3 w4 w5 w6 w7 w8 w9 w10 w11 w12 w13 w14 w15 upd read_refusal_def shelf is_idle
      awaits
  p15 = play_read H 9 true (x14 H) (w14 H) _ (p14 H) refl refl

  pub p16 : Play H true x16 (w16 H) (the_read none none ∷ second_write true ∷ wrote ∷ [])
  unfolding x16 w0 w1 w2 w3 w4 w5 w6 w7 w8 w9 w10 w11 w12 w13 w14 w15 w16 upd begun awaits change client_checks flat_map stamped_from compared All
  p16 = play_lie H (w15 H) 9 others _ _ (reads H).collect-1 true x15 _ p15 tt tt

  pub again : perform (s H) (w16 H) (take-reply 9 others (encode the_lie) content_buffer) ≡ record { world = w17 H; result = refused 12; sent = none }
  unfolding w0 w1 w2 w3 w4 w5 w6 w7 w8 w9 w10 w11 w12 w13 w14 w15 w16 w17 upd awaits shelf
  again = refused_does H 11 9 others the_lie (w16 H) (lie-ok H (w15 H) 9 others _ _ (reads H).collect-1 true x15 _ p15) (reads H).again

  p17 : Play H true x17 (w17 H) (the_read none none ∷ second_write true ∷ wrote ∷ [])
  unfolding x17 w0 w1 w2 w3 w4 w5 w6 w7 w8 w9 w10 w11 w12 w13 w14 w15 w16 w17 upd awaits change shelf
  p17 = play-refused H 11 9 others the_lie (w16 H) _ _ true x16 _ p16 refl again

  p18 : Play H true x18 (w18 H) (the_read none none ∷ second_write true ∷ wrote ∷ [])
  unfolding x18 w0 w1 w2 w3 w4 w5 w6 w7 w8 w9 w10 w11 w12 w13 w14 w15 w16 w17 w18 upd awaits made change client_checks judged best below flat_map
      stamped_from compared All
  p18 = play_exchange H (w17 H) 9 2 others _ _ _ (reads H).collect-2 true x17 _ p17 tt tt (inl refl) tt tt

  p19 : Play H true x19 (w19 H) (the_read none none ∷ second_write true ∷ wrote ∷ [])
  unfolding x19 w0 w1 w2 w3 w4 w5 w6 w7 w8 w9 w10 w11 w12 w13 w14 w15 w16 w17 w18 w19 upd awaits made change client_checks judged best below flat_map
      stamped_from compared All
  p19 = play_exchange H (w18 H) 9 3 others _ _ _ (reads H).collect-3 true x18 _ p18 tt tt (inl refl) tt tt

  -- the nonce has been shown before, and so have the tags been made
  shown-19 : Shown H 1 nonce1 x19
  unfolding Ever x15 x16 x17 x18 x19
  shown-19 = inr (inr (inr (inr (inr (inr (inr (inr (inr (inr (shown-14 H))))))))))

  p20 : Play H true x20 (w20 H) (the_read none none ∷ second_write true ∷ wrote ∷ [])
  unfolding x20 w0 w1 w2 w3 w4 w5 w6 w7 w8 w9 w10 w11 w12 w13 w14 w15 w16 w17 w18 w19 w20 upd nobody awaits made change client_checks flat_map stamped_from
      compared reply_to is_full_def count_to quorum shelf All Ever spoilt
  p20 = play_exchange H (w19 H) 9 2 others _ _ _ (reads H).filter-2 true x19 _ p19
      (none_checked H 2 (spoilt H) (spoilt H).tags x19 (filter (sifted H)) (judged-held H 2) refl)
      (nonce-digested H (judged (s H) 2 (holding H 2) (filter (sifted H))) (spoilt H) (judged-held H 2) refl) (sifted_timely H 2 x19 shown-19) tt tt

  shown-20 : Shown H 1 nonce1 x20
  unfolding Ever x20
  shown-20 = inr (inr (inr shown-19))

  pub p21 : Play H true x21 (w21 H) (the_read none none ∷ second_write true ∷ wrote ∷ [])
  unfolding x21 w0 w1 w2 w3 w4 w5 w6 w7 w8 w9 w10 w11 w12 w13 w14 w15 w16 w17 w18 w19 w20 w21 upd nobody awaits made change client_checks flat_map
      stamped_from compared reply_to is_full_def count_to quorum shelf All Ever spoilt
  p21 = play_exchange H (w20 H) 9 3 others _ _ _ (reads H).filter-3 true x20 _ p20
      (none_checked H 3 (spoilt H) (spoilt H).tags x20 (filter (sifted H)) (judged-held H 3) refl)
      (nonce-digested H (judged (s H) 3 (holding H 3) (filter (sifted H))) (spoilt H) (judged-held H 3) refl) (sifted_timely H 3 x20 shown-20) tt tt

  shown-21 : Shown H 1 nonce1 x21
  unfolding Ever x21
  shown-21 = inr (inr (inr shown-20))

  tag-made-21 : Made H ((s H).keys 4, candidate_message (cand H).stamp (H.digest nonce1)) x21
  unfolding Ever x15 x16 x17 x18 x19 x20 x21
  tag-made-21 = inr (inr (inr (inr (inr (inr (inr (inr (inr (inr (inr (inr (inr (inr (inr (inr (tag-made-14 H))))))))))))))))

  -- server 4 checks its own tag, and the client compares the fragments that prove its choice
  p22 : Play H true x22 (w22 H) (the_read none none ∷ second_write true ∷ wrote ∷ [])
  unfolding x22 w0 w1 w2 w3 w4 w5 w6 w7 w8 w9 w10 w11 w12 w13 w14 w15 w16 w17 w18 w19 w20 w21 w22 upd nobody awaits made change client_checks flat_map
      stamped_from compared reply_to is_full_def count_to quorum shelf All Ever cand candidate_made
  p22 = play_exchange H (w21 H) 9 4 others _ _ _ (reads H).filter-4 true x21 _ p21
      (one_checked H x21 tag-made-21)
      (nonce-digested H (judged (s H) 4 (blank_one H) (filter (sifted H))) (cand H) (judged-tagged H) refl) (sifted_timely H 4 x21 shown-21) tt
      (subst (λ (o : Option Candidate). All (λ u. u ≡ nonce1) (proving (s H) (marked H) (heard H) o)) (sym (choice_is H)) (proving_is H))

  p23 : Play H true x23 (w23 H) (the_read none none ∷ second_write true ∷ wrote ∷ [])
  unfolding x23 w0 w1 w2 w3 w4 w5 w6 w7 w8 w9 w10 w11 w12 w13 w14 w15 w16 w17 w18 w19 w20 w21 w22 w23 upd awaits change client_checks flat_map stamped_from
      compared All
  p23 = play_lie H (w22 H) 9 others _ _ (reads H).repair-1 true x22 _ p22 tt tt

  shown-23 : Shown H 1 nonce1 x23
  unfolding Ever x22 x23
  shown-23 = inr (inr (inr (inr (inr shown-21))))

  p24 : Play H true x24 (w24 H) (the_read none none ∷ second_write true ∷ wrote ∷ [])
  unfolding x24 w0 w1 w2 w3 w4 w5 w6 w7 w8 w9 w10 w11 w12 w13 w14 w15 w16 w17 w18 w19 w20 w21 w22 w23 w24 upd awaits made change client_checks flat_map
      stamped_from compared All Ever cand candidate_made
  p24 = play_exchange H (w23 H) 9 2 others _ _ _ (reads H).repair-2 true x23 _ p23
      (none_checked H 2 (cand H) (cand H).tags x23 (repair (cand H)) (judged-repair H 2) refl)
      (nonce-digested H (judged (s H) 2 (holding H 2) (repair (cand H))) (cand H) (judged-repair H 2) refl) (repair_timely H 2 x23 shown-23) tt tt

  shown-24 : Shown H 1 nonce1 x24
  unfolding Ever x24
  shown-24 = inr (inr (inr shown-23))

  -- the read gives what was written
  pub p25 : Play H true x25 (w25 H) (the_read (some 57) (some content1) ∷ second_write true ∷ wrote ∷ [])
  unfolding x1 x2 x3 x4 x5 x6 x7 x8 x9 x10 x11 x12 x13 x14 x15 x16 x17 x18 x19 x20 x21 x22 x23 x24 x25 w0 w1 w2 w3 w4 w5 w6 w7 w8 w9 w10 w11 w12 w13
      w14 w15 w16 w17 w18 w19 w20 w21 w22 w23 w24 w25 upd awaits made change client_checks flat_map stamped_from compared All Ever cand candidate_made
  p25 = play_exchange H (w24 H) 9 3 others _ _ _ (reads H).repair-3 true x24 _ p24
      (none_checked H 3 (cand H) (cand H).tags x24 (repair (cand H)) (judged-repair H 3) refl)
      (nonce-digested H (judged (s H) 3 (holding H 3) (repair (cand H))) (cand H) (judged-repair H 3) refl) (repair_timely H 3 x24 shown-24) tt tt
