-- What the example's read makes of the replies: the list after collect is the spoilt candidate and the right one; after filter servers 2 and 3 prove
-- the spoilt one, which stands first, so that it is read with the tags that they hold, and repaired.
-- Assumes nothing.
use mathlib.Core.Path.{◌≡◌, refl, ap, ◌∙◌}
use mathlib.Core.Bool.{Bool, true, false, cond, not, ◌&&◌, ◌||◌}
use mathlib.Core.List.{List, [], ◌∷◌, ◌++◌}
use mathlib.Core.Option.{none, some}
use Prim.Native.Nat.{ℕ, ◌+◌, ◌≤◌}
use native.Mathlib.Omega.{arith}
use lib.Dec.{eqb, leb}
use lib.ListN.{length}
use borrow.Author.Tests.{eq-eqb}
use Rattle.cluster.specs.Config.{shelf, quorum}
use Rattle.cluster.specs.Ranges.{top_length}
use Rattle.erasure.specs.Fragments.{Part, fragment, restored}
use Rattle.format.specs.Format.{Bytes}
use Rattle.protocol.specs.Values.{label_of, Candidate, Held, same_list, same_stamp, same_candidate, nth, digest_size, blank_candidate, no_held, is_blank_def, below}
use Rattle.protocol.specs.Primitives.{real}
use Rattle.protocol.specs.Rules.{ByServer, upd, nobody, count_to, any, keep, first, gather, lower, live, fits, same_share, agrees, leads, leader}
use Rattle.protocol.specs.Rules.{highest, choice, proven, parts, restored_by}
use Rattle.protocol.specs.Client.{Client, more, gave, idle, found, judge, onto, repairing, stamp_of, candidate_made, share_made}
use Rattle.protocol.proofs.Equal.{same_refl, stamp-refl, candidate-refl}
use Rattle.protocol.proofs.Primitive.{nth-run}
use Rattle.atomicity.specs.Lists.{All, AllPairs}
use Rattle.atomicity.proofs.Real.{real-restores}
use Rattle.example.proofs.Playing.{Hashing, functions, s, nonce1}
use Rattle.example.proofs.Printed.{bytes_of, bytes_ok}
use Rattle.example.proofs.Scene.{content1, cand, share, spoilt, tags-differ, candidates-differ}

-- a count over four servers, from the test of each
count_four : (f : ByServer Bool) (a b c d : Bool) → f 1 ≡ a → f 2 ≡ b → f 3 ≡ c → f 4 ≡ d →
    count_to 4 f ≡ cond d 1 0 + (cond c 1 0 + (cond b 1 0 + (cond a 1 0 + 0)))
unfolding count_to
count_four f a b c d p q r t = λ i. cond (t i) 1 0 + (cond (r i) 1 0 + (cond (q i) 1 0 + (cond (p i) 1 0 + 0)))

module _ (H : Hashing) where
  -- ---- collect: server 1 lies, servers 2 and 3 show the candidate

  abbrev pub shown : ByServer Candidate
  shown = upd (upd (upd (λ b. blank_candidate (s H).config) 1 (spoilt H)) 2 (cand H)) 3 (cand H)

  gather_two : gather shown 2 ≡ spoilt H ∷ cand H ∷ []
  unfolding gather upd any is_blank_def spoilt cand candidate_made stamp_of
  gather_two = ap (λ (q : Bool). cond (q || false) (spoilt H ∷ []) (spoilt H ∷ cand H ∷ [])) (candidates-differ H)

  gather_three : gather shown 3 ≡ spoilt H ∷ cand H ∷ []
  unfolding gather upd any is_blank_def spoilt cand candidate_made stamp_of
  gather_three =
      ap (λ (l : List Candidate). cond (any (same_candidate (cand H)) l) l (l ++ (cand H ∷ []))) gather_two
      ∙ ap (λ (q : Bool). cond (q || (same_candidate (cand H) (cand H) || false)) (spoilt H ∷ cand H ∷ []) (spoilt H ∷ cand H ∷ cand H ∷ []))
      (candidates-differ H)
      ∙ ap (λ (q : Bool). cond (q || false) (spoilt H ∷ cand H ∷ []) (spoilt H ∷ cand H ∷ cand H ∷ [])) (candidate-refl (cand H))

  pub gathered : gather shown (s H).config.servers ≡ spoilt H ∷ cand H ∷ []
  unfolding shelf gather upd is_blank_def
  gathered = gather_three

  -- ---- filter: servers 2 and 3 hold the write, server 4 knows the stamp alone

  abbrev pub knows : ℕ → Held
  knows b = record { stamp = (cand H).stamp; share = some (share H b) }

  abbrev pub heard : ByServer Held
  heard = upd (upd (upd (λ i. no_held) 2 (knows 2)) 3 (knows 3)) 4 (record { stamp = (cand H).stamp; share = none })

  abbrev pub marked : ByServer Bool
  marked = upd (upd (upd nobody 2 true) 3 true) 4 true

  digest_at : (b : ℕ) → 1 ≤ b → b ≤ (s H).config.servers → same_list (H.digest (share H b).fragment) (nth digest_size (share H b).digests b) ≡ true
  unfolding share share_made
  digest_at b lo hi =
      ap (same_list (H.digest (share H b).fragment))
      (nth-run digest_size (λ i. H.digest (fragment (s H).config.points (s H).config.threshold content1 i)) (λ i. H.digest-size _)
      (s H).config.servers b lo hi)
      ∙ same_refl (H.digest (share H b).fragment)

  size_in : (b : ℕ) → leb (share H b).size top_length ≡ true
  unfolding share share_made content1
  size_in b = refl

  nonce_in : (b : ℕ) → same_list (share H b).nonce_digest_def (H.digest nonce1) ≡ true
  unfolding share share_made
  nonce_in b = same_refl (H.digest nonce1)

  -- the reply of a server that holds the write proves it
  proves : (b : ℕ) → 1 ≤ b → b ≤ (s H).config.servers →
      same_stamp (cand H).stamp (spoilt H).stamp
      && (leb (share H b).size top_length && (same_list (share H b).nonce_digest_def (H.digest (spoilt H).nonce)
      && same_list (H.digest (share H b).fragment) (nth digest_size (share H b).digests b))) ≡ true
  unfolding spoilt
  proves b lo hi = λ i. stamp-refl (cand H).stamp i && (size_in b i && (nonce_in b i && digest_at b lo hi i))

  abbrev fit : ByServer Bool
  fit i = fits (functions H) (s H).config marked heard (spoilt H) i

  fit-2 : fit 2 ≡ true
  unfolding fits upd shelf
  fit-2 = proves 2 (omega arith) (omega arith)

  fit-3 : fit 3 ≡ true
  unfolding fits upd shelf
  fit-3 = proves 3 (omega arith) (omega arith)

  fit-4 : fit 4 ≡ false
  unfolding fits upd spoilt
  fit-4 = ap (λ (q : Bool). q && false) (stamp-refl (cand H).stamp)

  -- the shares of two servers are of one group
  one_group : (b c : ℕ) → same_share (functions H) (s H).config (some (share H b)) (some (share H c)) ≡ true
  unfolding share share_made
  one_group b c = λ i. eq-eqb (length content1) (length content1) refl i && (same_refl (share H b).digests i &&
      (same_refl (share H b).nonce_digest_def i && same_refl (share H b).tags i))

  abbrev grouped : ByServer Bool
  grouped i = agrees (functions H) (s H).config marked heard (spoilt H) 2 i

  grouped-1 : grouped 1 ≡ false
  unfolding agrees fits upd nobody
  grouped-1 = refl

  grouped-2 : grouped 2 ≡ true
  unfolding agrees upd
  grouped-2 = λ i. fit-2 i && one_group 2 2 i

  grouped-3 : grouped 3 ≡ true
  unfolding agrees upd
  grouped-3 = λ i. fit-3 i && one_group 2 3 i

  grouped-4 : grouped 4 ≡ false
  unfolding agrees upd
  grouped-4 = ap (λ (q : Bool). q && false) fit-4

  leads-2 : leads (functions H) (s H).config marked heard (spoilt H) 2 ≡ true
  unfolding leads shelf
  leads-2 = λ i. fit-2 i && (ap (leb 2) (count_four grouped false true true false grouped-1 grouped-2 grouped-3 grouped-4)) i

  -- server 2 leads
  abbrev leader_to : ℕ → ℕ
  leader_to n = leader (functions H) (s H).config marked heard (spoilt H) n

  leader-1 : leader_to 1 ≡ 0
  unfolding leader leads fits upd nobody
  leader-1 = refl

  leader-2 : leader_to 2 ≡ 2
  unfolding leader
  leader-2 = λ i. cond (eqb (leader-1 i) 0 && leads-2 i) 2 (leader-1 i)

  leader-3 : leader_to 3 ≡ 2
  unfolding leader
  leader-3 = ap (λ (n : ℕ). cond (eqb n 0 && leads (functions H) (s H).config marked heard (spoilt H) 3) 3 n) leader-2

  pub leader_is : leader_to (s H).config.servers ≡ 2
  unfolding leader shelf
  leader_is = ap (λ (n : ℕ). cond (eqb n 0 && leads (functions H) (s H).config marked heard (spoilt H) 4) 4 n) leader-3

  -- nobody is lower, so both stay in the list, and the first is chosen
  abbrev pub sifted : List Candidate
  sifted = spoilt H ∷ cand H ∷ []

  pub live_is : live (functions H) (s H).config marked heard sifted ≡ sifted
  unfolding live keep lower count_to upd nobody below shelf quorum spoilt cand candidate_made stamp_of
  live_is = refl

  highest_is : highest (functions H) (s H).config sifted ≡ sifted
  unfolding highest keep any below spoilt cand candidate_made stamp_of
  highest_is = refl

  pub choice_is : choice (functions H) (s H).config marked heard sifted ≡ some (spoilt H)
  unfolding choice first
  choice_is =
      ap (λ (l : List Candidate). first (proven (functions H) (s H).config marked heard) (highest (functions H) (s H).config l)) live_is
      ∙ ap (λ (l : List Candidate). first (proven (functions H) (s H).config marked heard) l) highest_is
      ∙ ap (λ (n : ℕ). cond (not (eqb n 0)) (some (spoilt H)) (first (proven (functions H) (s H).config marked heard) (cand H ∷ []))) leader_is

  -- ---- what is read

  abbrev pub part : ℕ → Part
  part b = record { server = b; bytes = (share H b).fragment }

  pub parts_are : parts (functions H) (s H).config marked heard (spoilt H) 2 (s H).config.servers ≡ part 2 ∷ part 3 ∷ []
  unfolding parts shelf upd
  parts_are = λ i.
      ((([] ++ cond (grouped-1 i) [] []) ++ cond (grouped-2 i) (part 2 ∷ []) []) ++ cond (grouped-3 i) (part 3 ∷ []) []) ++ cond (grouped-4 i) [] []

  content-bytes : Bytes content1
  unfolding content1
  content-bytes = bytes_of (bytes_ok content1 refl)

  restored_is : restored_by (functions H) (s H).config marked heard (spoilt H) 2 (some (share H 2)) ≡ content1
  unfolding restored_by share share_made real shelf AllPairs All
  restored_is = ap (λ (ps : List Part). restored (s H).config.points (s H).config.threshold (length content1) ps) parts_are
      ∙ real-restores 1 (omega arith) (omega arith) content1 content-bytes (2 ∷ 3 ∷ []) ((refl, tt), (tt, tt))
      ((omega arith, omega arith), ((omega arith, omega arith), tt))
      (omega arith)

  -- the list is judged: the candidate with the right tags is repaired, and the content waits
  pub judged_is : (cl : Client) → judge (functions H) (s H).config 9 (s H).writers (s H).keys cl marked sifted heard
      (live (functions H) (s H).config marked heard sifted) (choice (functions H) (s H).config marked heard sifted)
      ≡ record { client = onto cl nobody (repairing (cand H) content1); result = more }
  unfolding judge found upd cand share candidate_made share_made stamp_of spoilt nonce1
  judged_is cl =
      (λ i. judge (functions H) (s H).config 9 (s H).writers (s H).keys cl marked sifted heard (live_is i) (choice_is i))
      ∙ ap (found (functions H) (s H).config 9 (s H).writers (s H).keys cl marked heard (spoilt H)) leader_is
      ∙ (λ i. cond (tags-differ H i) (record { client = onto cl nobody idle; result = gave (label_of (spoilt H).stamp) (restored_is i) })
      (record {
        client = onto cl nobody (repairing (record { stamp = (spoilt H).stamp; nonce = (spoilt H).nonce; tags = (cand H).tags })
            (restored_is i));
        result = more;
      }))
