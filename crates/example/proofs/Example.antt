-- A run of the shelf with the real SHA-256 and HMAC, on bytes, that meets every premise: so page 41 holds of it, and its read gives what was written.
-- Nothing is computed of a digest or a tag: the run is shown for all of the right lengths (the modules Playing to SceneEnds).
-- Assumes nothing.
--
-- Its steps, oldest first (a number is how many steps were done before), with what the premises ask there:
--   0         client 1 begins a write                                 fresh: a nonce that no write had
--   1 to 8    clock: server 1 lies with a high number; servers 2, 3   authentic: each packet is its party's; uncollided: step 8 digests five times
--   9 to 16   store: server 1 lies; servers 2, 3 keep the write
--   17 to 24  complete: server 1 lies; servers 2, 3                   unshown: a server gets the nonce after its writer has shown it (step 20)
--   25        client 2 begins a write                                 fresh: another nonce than the first write's
--   26 to 28  clock: server 2 answers the first write's stamp         unforged: a tag checks that client 1 had made (step 28)
--   29        client 2 gives up, before its complete round
--   30        wild client 16 shows server 2 a made-up candidate       unshown: no write began with its nonce
--   31        client 9 begins a read; it is lent other bytes for keys
--   32 to 40  collect: server 1 lies with spoilt tags; servers 2, 3   step 34 is server 1's reply again, refused with 12
--   41 to 49  filter: servers 2, 3 by history, server 4 by tag        unforged: step 48; uncollided: step 49 digests the fragments
--   50 to 57  repair: server 1 lies; servers 2, 3                     step 57 gives the content
use mathlib.Core.Path.{◌≡◌}
use mathlib.Core.Bool.{true}
use mathlib.Core.List.{List, [], ◌∷◌}
use mathlib.Core.Option.{some}
use Prim.Native.Nat.{ℕ}
use native.Mathlib.Omega.{arith}
use lib.ListN.{length}
use Rattle.sha256.specs.Sha256.{sha256}
use Rattle.sha256.proofs.Laws.{sha-length, sha-bytes}
use Rattle.hmac.specs.Hmac.{tag_of}
use Rattle.hmac.proofs.Laws.{tag-length, tag-bytes}
use Rattle.protocol.specs.Primitives.{real}
use Rattle.protocol.specs.View.{kept_size}
use Rattle.runs.specs.Runs.{StepOn, by_bytes_def}
use Rattle.protocol.proofs.Primitive.{real-lengths}
use Rattle.runs.proofs.ValueRuns.{by_values}
use Rattle.runs.proofs.Accounts.{claimed}
use Rattle.atomicity.specs.Lists.{Always}
use Rattle.atomicity.specs.Premises.{Premise}
use Rattle.atomicity.specs.Claim.{log, system_of_def}
use Rattle.atomicity.specs.Page41.{Page41Of, Page41}
use Rattle.atomicity.proofs.InWords.{page-41}
use Rattle.example.proofs.Playing.{Hashing, desk, who, parties}
use Rattle.example.proofs.Scene.{content1}
use Rattle.example.proofs.SceneShown.{wrote, second_write}
use Rattle.example.proofs.SceneEnds.{the_read, x25, p25}
use Rattle.example.proofs.SceneFacts.{Happens, happens}

-- ---- the real functions

abbrev pub real_ones : Hashing
real_ones = record { digest = sha256; tag = tag_of; digest-size = sha-length; tag-size = tag-length; digest-bytes = sha-bytes; tag-bytes = tag-bytes }

unfoldable pub run : List (StepOn desk)
run = x25 real_ones

-- ---- on bytes, whatever bytes new clients keep things in

module _ (first : ℕ → List ℕ) (sized : (c : ℕ) → length (first c) ≡ kept_size) where
  pub meets : Always (Premise (system_of_def desk) (by_bytes_def real desk first) who) run
  unfolding run real by_values
  meets = claimed real real-lengths desk (omega arith, omega arith) first sized (λ A. Always (Premise (system_of_def desk) A who) run) (p25 real_ones).fair

  -- page 41, all of it
  pub shows : Page41Of (system_of_def desk) (by_bytes_def real desk first) who run
  unfolding Page41
  shows = page-41 desk (omega arith) (omega arith) first sized who parties run meets

  -- its calls: the read gave the content of the write that ended before it began; the write that was given up is unfinished
  pub calls_are : log (by_bytes_def real desk first) run ≡ the_read (some 57) (some content1) ∷ second_write true ∷ wrote ∷ []
  unfolding run real by_values
  calls_are = claimed real real-lengths desk (omega arith, omega arith) first sized
      (λ A. log A run ≡ the_read (some 57) (some content1) ∷ second_write true ∷ wrote ∷ []) (p25 real_ones).calls

  -- and each premise is really asked something: packets are let in, a second write begins, tags check, nonces are digested and got, a step is refused
  pub happens_on-bytes : Happens real_ones (by_bytes_def real desk first)
  unfolding real by_values
  happens_on-bytes = claimed real real-lengths desk (omega arith, omega arith) first sized (λ A. Happens real_ones A) (happens real_ones)
