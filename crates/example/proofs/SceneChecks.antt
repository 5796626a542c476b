-- What servers judge in the filter and repair rounds of the example's read, and what checks and digests that takes: a server that holds the write
-- goes by its history and checks no tag, server 4 checks its own, and the client compares fragments of that write alone.
-- Assumes nothing.
use mathlib.Core.Path.{◌≡◌, refl, sym, ap, subst}
use mathlib.Core.Bool.{Bool, true, cond, not, ◌&&◌}
use mathlib.Core.List.{List, [], ◌∷◌, ◌++◌, map, flat_map}
use mathlib.Core.Option.{some}
use mathlib.Core.Logic.{inl, inr}
use Prim.Native.Nat.{ℕ}
use native.Mathlib.Omega.{arith}
use Rattle.cluster.specs.Config.{shelf}
use Rattle.erasure.specs.Fragments.{Part}
use Rattle.protocol.specs.Values.{Candidate, blank_candidate, below}
use Rattle.protocol.specs.Packet.{Body, filter, repair}
use Rattle.protocol.specs.Memory.{lookup}
use Rattle.protocol.specs.Primitives.{candidate_message}
use Rattle.protocol.specs.Rules.{parts}
use Rattle.protocol.specs.Server.{by_history_def, by_tag, best}
use Rattle.protocol.specs.Client.{candidate_made, share_made, stamp_of}
use Rattle.atomicity.specs.Lists.{Ever, All}
use Rattle.atomicity.specs.Steps.{nonblank, judged, server_checks, proving}
use Rattle.atomicity.proofs.Model.{Run}
use Rattle.example.proofs.Playing.{Hashing, functions, s, nonce1, Shown, Made, Timely}
use Rattle.example.proofs.ServeSteps.{makes_it}
use Rattle.example.proofs.Scene.{pieces, cand, share, spoilt, holding, blank_one, by-history, by-tag, valid-held, best-held, best-tagged}
use Rattle.example.proofs.SceneRead.{sifted, marked, heard, leader_is, parts_are}

module _ (H : Hashing) where
  -- ---- what servers judge, and which tags check

  -- by its history server b takes the first of the list, and checks no tag
  pub judged-held : (b : ℕ) → judged (s H) b (holding H b) (filter (sifted H)) ≡ spoilt H ∷ []
  unfolding judged below spoilt cand candidate_made stamp_of
  judged-held b = ap nonblank (best-held H b)

  unchecked : (b : ℕ) (tags : List ℕ) → server_checks (s H) b (holding H b) (record { stamp = (cand H).stamp; nonce = nonce1; tags = tags }) ≡ []
  unfolding server_checks
  unchecked b tags = ap (λ (q : Bool). cond (not q && by_tag (functions H) (s H).config ((s H).keys b) b
      (record { stamp = (cand H).stamp; nonce = nonce1; tags = tags }))
      (((s H).keys b, candidate_message (cand H).stamp (H.digest nonce1)) ∷ []) []) (by-history H b tags)

  -- server 4 takes the right one by its tag
  pub judged-tagged : judged (s H) 4 (blank_one H) (filter (sifted H)) ≡ cand H ∷ []
  unfolding judged below cand candidate_made stamp_of shelf
  judged-tagged = ap nonblank (best-tagged H 4 (omega arith) (omega arith))

  pub tag-checks-4 : server_checks (s H) 4 (blank_one H) (cand H) ≡ ((s H).keys 4, candidate_message (cand H).stamp (H.digest nonce1)) ∷ []
  unfolding server_checks by_history_def lookup cand candidate_made shelf
  tag-checks-4 = ap (λ (q : Bool). cond q (((s H).keys 4, candidate_message (cand H).stamp (H.digest nonce1)) ∷ []) [])
      (by-tag H 4 (omega arith) (omega arith))

  pub judged-repair : (b : ℕ) → judged (s H) b (holding H b) (repair (cand H)) ≡ cand H ∷ []
  unfolding judged best below cand candidate_made stamp_of
  judged-repair b = ap (λ (q : Bool). nonblank (cond (q && true) (cand H) (blank_candidate (s H).config))) (valid-held H b (cand H).tags)

  -- what filter and repair ask of the premises at server b, which holds the write
  pub none_checked : (b : ℕ) (c : Candidate) (tags : List ℕ) (xs : Run (s H)) (x : Body) → judged (s H) b (holding H b) x ≡ c ∷ [] →
      c ≡ record { stamp = (cand H).stamp; nonce = nonce1; tags = tags } →
      All (λ kb. Made H kb xs) (flat_map (server_checks (s H) b (holding H b)) (judged (s H) b (holding H b) x))
  unfolding flat_map All
  none_checked b c tags xs x e k =
      subst (λ (l : List Candidate). All (λ kb. Made H kb xs) (flat_map (server_checks (s H) b (holding H b)) l)) (sym e)
      (subst (λ (d : Candidate). All (λ kb. Made H kb xs) (server_checks (s H) b (holding H b) d ++ [])) (sym k)
      (subst (λ (l : List (List ℕ × List ℕ)). All (λ kb. Made H kb xs) (l ++ [])) (sym (unchecked b tags)) tt))

  -- at server 4 filter asks that its own tag was made
  pub one_checked : (xs : Run (s H)) → Made H ((s H).keys 4, candidate_message (cand H).stamp (H.digest nonce1)) xs →
      All (λ kb. Made H kb xs) (flat_map (server_checks (s H) 4 (blank_one H)) (judged (s H) 4 (blank_one H) (filter (sifted H))))
  unfolding flat_map All
  one_checked xs made =
      subst (λ (l : List Candidate). All (λ kb. Made H kb xs) (flat_map (server_checks (s H) 4 (blank_one H)) l)) (sym judged-tagged)
      (subst (λ (l : List (List ℕ × List ℕ)). All (λ kb. Made H kb xs) (l ++ [])) (sym tag-checks-4) (made, tt))

  -- ---- the nonces that are digested, and those that a server gets

  pub nonce-digested : (l : List Candidate) (c : Candidate) → l ≡ c ∷ [] → c.nonce ≡ nonce1 → All (λ u. u ≡ nonce1) (map (λ d. d.nonce) l)
  unfolding All
  nonce-digested l c e n = subst (λ (l : List Candidate). All (λ u. u ≡ nonce1) (map (λ (d : Candidate). d.nonce) l)) (sym e) (n, tt)

  spoilt-nonce : (spoilt H).nonce ≡ nonce1
  unfolding spoilt
  spoilt-nonce = refl

  cand-nonce : (cand H).nonce ≡ nonce1
  unfolding cand candidate_made
  cand-nonce = refl

  -- the list's nonces have been shown
  pub sifted_timely : (b : ℕ) (xs : Run (s H)) → Shown H 1 nonce1 xs → Timely H (makes_it H 9 b ∷ xs) (map (λ d. d.nonce) (sifted H))
  unfolding All Ever
  sifted_timely b xs h = inr (inr h, (inl spoilt-nonce, (inl cand-nonce, tt)))

  pub repair_timely : (b : ℕ) (xs : Run (s H)) → Shown H 1 nonce1 xs → Timely H (makes_it H 9 b ∷ xs) ((cand H).nonce ∷ [])
  unfolding All Ever
  repair_timely b xs h = inr (inr h, (inl cand-nonce, tt))

  -- the fragments that prove the choice
  pub proving_is : All (λ u. u ≡ nonce1) (proving (s H) (marked H) (heard H) (some (spoilt H)))
  unfolding proving share share_made shelf All
  proving_is =
      subst (λ (n : ℕ). All (λ u. u ≡ nonce1) (map (λ (p : Part). p.bytes) (parts (functions H) (s H).config (marked H) (heard H) (spoilt H) n
      (s H).config.servers)))
      (sym (leader_is H))
      (subst (λ (l : List Part). All (λ u. u ≡ nonce1) (map (λ (p : Part). p.bytes) l)) (sym (parts_are H)) (pieces.1, (pieces.2, tt)))
