-- The example after client 1's write: the worlds that client 2's write, which is given up, the wild client's packet and client 9's read lead through,
-- past a liar. What each exchange does is computed, but for the tests of tags and digests, which the modules Scene and SceneRead know.
-- Assumes nothing.
use mathlib.Core.Path.{◌≡◌, refl, ap, ◌∙◌}
use mathlib.Core.Bool.{Bool, true, cond}
use mathlib.Core.List.{List, [], ◌∷◌}
use mathlib.Core.Option.{Option, none, some}
use Prim.Native.Nat.{ℕ}
use native.Mathlib.Omega.{arith}
use lib.ListN.{replicate}
use Rattle.cluster.specs.Config.{shelf, quorum}
use Rattle.cluster.specs.Ranges.{key_size, content_room}
use Rattle.protocol.specs.Values.{Candidate, Share, blank_candidate, no_held, below}
use Rattle.protocol.specs.Packet.{Body, clock_reply, collect_reply, filter, filter_reply, repair, repair_reply}
use Rattle.protocol.specs.Memory.{lookup}
use Rattle.protocol.specs.Rules.{ByServer, upd, nobody, count_to}
use Rattle.protocol.specs.Server.{Server, Acted, raise, act, barred, reply_to, server_refusal}
use Rattle.protocol.specs.Client.{Hand, refused, gave, clocking, collecting, filtering, repairing, awaits, is_idle, stamp_of, candidate_made, made}
use Rattle.protocol.specs.Client.{onto, higher, is_full_def, update, too_high, make_refusal_def, take_refusal, turn_on, high_at, begun}
use Rattle.runs.specs.Runs.{Lent}
use Rattle.runs.proofs.ValueRuns.{World}
use Rattle.atomicity.specs.Lists.{All}
use Rattle.atomicity.proofs.Util.{clash}
use Rattle.example.proofs.Printed.{bare, full}
use Rattle.example.proofs.Playing.{Hashing, functions, s, nonce2}
use Rattle.example.proofs.ServeSteps.{Owned, served}
use Rattle.example.proofs.TakeSteps.{took}
use Rattle.example.proofs.CallSteps.{began, left}
use Rattle.example.proofs.Talks.{Talk, talk_of}
use Rattle.example.proofs.Lies.{Lie, lie_of}
use Rattle.example.proofs.Scene.{content1, label1, content2, pieces, cand, stored, spoilt, holding, blank_one, stamp-checks, held_own}
use Rattle.example.proofs.Scene.{best-held, best-tagged, valid-held}
use Rattle.example.proofs.SceneRead.{gathered, knows, judged_is, sifted}
use Rattle.example.proofs.SceneBytes.{stamp-bytes, cand-bytes, share-bytes, spoilt-bytes, spoilt-ok}
use Rattle.example.proofs.SceneWrites.{ours, one, one_two, goes, ends, w0, w1, w2, w3, w4, w5, w6, w7, w8, w9, w10}

-- client 9 holds no keys: it is lent other bytes
abbrev pub others : Lent
others = record { writers = replicate key_size 9; keys = [] }

abbrev pub two : ByServer Bool
two = upd nobody 2 true

module _ (H : Hashing) where
  -- ---- client 2's write, given up in clock

  unfoldable pub w11 : World
  w11 = began H (w10 H) 2 (clocking content2 nonce2 0)

  unfoldable pub w12 : World
  w12 = took H (served H w11 2 (holding H 2)) 2 (goes 0 two (clocking content2 nonce2 1))

  unfoldable pub w13 : World
  w13 = took H w12 2 (left H w12 2)

  -- ---- the wild client's packet

  unfoldable pub w14 : World
  w14 = served H w13 2 (holding H 2)

  -- ---- client 9's read

  abbrev pub blanks : ByServer Candidate
  blanks b = blank_candidate (s H).config

  unfoldable pub w15 : World
  w15 = began H w14 9 (collecting blanks)

  -- collect; the liar's reply comes again and is refused
  unfoldable pub w16 : World
  w16 = took H w15 9 (goes 0 one (collecting (upd blanks 1 (spoilt H))))

  unfoldable pub w17 : World
  w17 = took H w16 9 (record { client = w16.client 9; result = refused 12 })

  unfoldable pub w18 : World
  w18 = took H (served H w17 2 (holding H 2)) 9 (goes 0 one_two (collecting (upd (upd blanks 1 (spoilt H)) 2 (cand H))))

  unfoldable pub w19 : World
  w19 = took H (served H w18 3 (holding H 3)) 9 (goes 0 nobody (filtering (sifted H) (λ i. no_held)))

  -- filter
  unfoldable pub w20 : World
  w20 = took H (served H w19 2 (holding H 2)) 9 (goes 0 two (filtering (sifted H) (upd (λ i. no_held) 2 (knows H 2))))

  unfoldable pub w21 : World
  w21 = took H (served H w20 3 (holding H 3)) 9 (goes 0 (upd two 3 true) (filtering (sifted H) (upd (upd (λ i. no_held) 2 (knows H 2)) 3 (knows H 3))))

  -- server 4, which holds nothing, takes the candidate by its tag
  abbrev pub told : Server
  told = record { latest = cand H; history = [] }

  abbrev pub repairs : Hand
  repairs = repairing (cand H) content1

  unfoldable pub w22 : World
  w22 = took H (served H w21 4 told) 9 (goes 0 nobody repairs)

  -- repair
  unfoldable pub w23 : World
  w23 = took H w22 9 (goes 0 one repairs)

  unfoldable pub w24 : World
  w24 = took H (served H w23 2 (holding H 2)) 9 (goes 0 one_two repairs)

  unfoldable pub w25 : World
  w25 = took H (served H w24 3 (holding H 3)) 9 (ends 0 (gave label1 content1))

  -- ---- what servers do

  abbrev acts_on : ℕ → Server → Body → Acted
  acts_on b v x = act (functions H) (s H).config ((s H).keys b) b v x

  filter-held : (b : ℕ) → acts_on b (holding H b) (filter (sifted H)) ≡ record { server = holding H b; reply = filter_reply (knows H b) }
  unfolding act raise below spoilt cand candidate_made stamp_of
  filter-held b =
      ap (λ (c : Candidate). record {
        server = raise c (holding H b);
        reply = filter_reply
            (record { stamp = c.stamp; share = lookup c.stamp (stored H b ∷ []) });
      })
      (best-held H b)
      ∙ ap (λ (o : Option Share). record { server = holding H b; reply = filter_reply (record { stamp = (cand H).stamp; share = o }) }) (held_own H b)

  filter-tagged : acts_on 4 (blank_one H) (filter (sifted H)) ≡ record {
    server = told;
    reply = filter_reply
        (record { stamp = (cand H).stamp; share = none });
  }
  unfolding act raise below lookup cand candidate_made stamp_of shelf
  filter-tagged =
      ap (λ (c : Candidate). record {
        server = raise c (blank_one H);
        reply = filter_reply
            (record { stamp = c.stamp; share = lookup c.stamp [] });
      })
      (best-tagged H 4 (omega arith) (omega arith))

  repair-held : (b : ℕ) → acts_on b (holding H b) (repair (cand H)) ≡ record { server = holding H b; reply = repair_reply }
  unfolding act raise below cand candidate_made stamp_of
  repair-held b = ap (λ (q : Bool). record { server = cond q (raise (cand H) (holding H b)) (holding H b); reply = repair_reply })
      (valid-held H b (cand H).tags)

  unowned : Owned H 9 others
  unowned own = clash own refl

  -- ---- the exchanges

  pub record Reads : Type 0 where
    pub clock-2 : Talk H w11 2 2 ours (holding H 2) (clock_reply (cand H).stamp) (goes 0 two (clocking content2 nonce2 1))
    pub collect-1 : Lie H w15 9 others (collect_reply (spoilt H)) (goes 0 one (collecting (upd blanks 1 (spoilt H))))
    pub again : take_refusal (s H).config 9 (some (reply_to (made 1 9 (w15.client 9) 1) (collect_reply (spoilt H)))) 1 8 one
        (high_at (functions H) (s H).config 9 (s H).writers (s H).keys (w16.client 9)) content_room ≡ 12
    pub collect-2 : Talk H w17 9 2 others (holding H 2) (collect_reply (cand H)) (goes 0 one_two
        (collecting (upd (upd blanks 1 (spoilt H)) 2 (cand H))))
    pub collect-3 : Talk H w18 9 3 others (holding H 3) (collect_reply (cand H)) (goes 0 nobody (filtering (sifted H) (λ i. no_held)))
    pub filter-2 : Talk H w19 9 2 others (holding H 2) (filter_reply (knows H 2)) (goes 0 two (filtering (sifted H) (upd (λ i. no_held) 2 (knows H 2))))
    pub filter-3 : Talk H w20 9 3 others (holding H 3) (filter_reply (knows H 3))
        (goes 0 (upd two 3 true) (filtering (sifted H) (upd (upd (λ i. no_held) 2 (knows H 2)) 3 (knows H 3))))
    pub filter-4 : Talk H w21 9 4 others told (filter_reply (record { stamp = (cand H).stamp; share = none })) (goes 0 nobody repairs)
    pub repair-1 : Lie H w22 9 others repair_reply (goes 0 one repairs)
    pub repair-2 : Talk H w23 9 2 others (holding H 2) repair_reply (goes 0 one_two repairs)
    pub repair-3 : Talk H w24 9 3 others (holding H 3) repair_reply (ends 0 (gave label1 content1))

  pub reads : Reads
  unfolding w0 w1 w2 w3 w4 w5 w6 w7 w8 w9 w10 w11 w12 w13 w14 w15 w16 w17 w18 w19 w20 w21 w22 w23 w24 upd nobody begun shelf quorum awaits is_idle made
      make_refusal_def take_refusal server_refusal barred turn_on high_at update too_high is_full_def count_to higher onto reply_to All act below stamp_of candidate_made
      cand
  reads =
      record {
        clock-2 = talk_of H w11 2 2 ours (holding H 2) (clock_reply (cand H).stamp) _ refl (λ own. (refl, refl)) tt (stamp-bytes H) refl
            (ap (λ (q : Bool). goes 0 two (clocking content2 nonce2 (cond q 1 0))) (stamp-checks H));
        collect-1 = lie_of H w15 9 others (collect_reply (spoilt H)) _ refl unowned (spoilt-ok H) (spoilt-bytes H) refl;
        again = refl;
        collect-2 = talk_of H w17 9 2 others (holding H 2) (collect_reply (cand H)) _ refl unowned tt (cand-bytes H) refl refl;
        collect-3 = talk_of H w18 9 3 others (holding H 3) (collect_reply (cand H)) _ refl unowned tt (cand-bytes H) refl
            (ap (λ (l : List Candidate). goes 0 nobody (filtering l (λ i. no_held))) (gathered H));
        filter-2 = talk_of H w19 9 2 others (holding H 2) (filter_reply (knows H 2)) _ refl unowned (omega arith, (spoilt-bytes H, (cand-bytes H, tt)))
            (full (stamp-bytes H) (share-bytes H 2 pieces.1)) (filter-held 2) refl;
        filter-3 = talk_of H w20 9 3 others (holding H 3) (filter_reply (knows H 3)) _ refl unowned (omega arith, (spoilt-bytes H, (cand-bytes H, tt)))
            (full (stamp-bytes H) (share-bytes H 3 pieces.2)) (filter-held 3) refl;
        filter-4 = talk_of H w21 9 4 others told _ _ refl unowned (omega arith, (spoilt-bytes H, (cand-bytes H, tt)))
            (bare (stamp-bytes H)) filter-tagged (judged_is H (w21.client 9));
        repair-1 = lie_of H w22 9 others repair_reply _ refl unowned tt tt refl;
        repair-2 = talk_of H w23 9 2 others (holding H 2) repair_reply _ refl unowned (cand-bytes H) tt (repair-held 2) refl;
        repair-3 = talk_of H w24 9 3 others (holding H 3) repair_reply _ refl unowned (cand-bytes H) tt (repair-held 3) refl;
      }
