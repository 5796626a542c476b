-- What the example's parties write, store, show and make up, for every digest and tag of the right lengths, and what servers and clients find of it
-- by their tests. The content is the nonce twice, so that all four fragments are the nonce; a spoilt tag differs from the tag in its first byte.
-- Assumes nothing.
use mathlib.Core.Path.{◌≡◌, refl, sym, ap, ◌∙◌}
use mathlib.Core.Bool.{Bool, true, false, cond, ◌&&◌, ◌||◌}
use mathlib.Core.List.{List, [], ◌∷◌, ◌++◌}
use mathlib.Core.Option.{none, some}
use Prim.Native.Nat.{ℕ, zero, suc, ◌+◌, ◌*◌, ◌≤◌, ◌<◌}
use native.Mathlib.Omega.{arith}
use lib.Dec.{eqb}
use lib.ListN.{length, replicate, get_or, get_or-replicate}
use borrow.Author.Tests.{eqb-true}
use Rattle.cluster.specs.Config.{shelf, up_to, point_of}
use Rattle.hmac.specs.Hmac.{tag_size}
use Rattle.erasure.specs.Fragments.{fragment, table, fragment_size_def, across}
use Rattle.erasure.proofs.Lists.{table_is}
use Rattle.gf256.specs.Gf.{xtime, times_bits, times, power, inverse, product}
use Rattle.gf256.specs.Bytes.{bytes}
use Rattle.gf256.specs.Poly.{eval, vanish, through}
use Rattle.protocol.specs.declared.Stamp.{Stamp}
use Rattle.protocol.specs.declared.Label.{Label}
use Rattle.protocol.specs.Values.{Candidate, Share, Write, same_list, same_stamp, same_candidate, nth, run_of, blank_candidate, is_blank_def, below}
use Rattle.protocol.specs.Memory.{lookup}
use Rattle.protocol.specs.Primitives.{stamp_message_def, candidate_message}
use Rattle.protocol.specs.Server.{Server, has_digest, by_history_def, by_tag, valid, best}
use Rattle.protocol.specs.Client.{checks, stamp_of, tags_of, candidate_made, share_made}
use Rattle.protocol.proofs.Equal.{same_true, same_refl, stamp-refl, candidate-same}
use Rattle.protocol.proofs.Primitive.{nth-run}
use Rattle.cluster.proofs.Tests.{untrue}
use Rattle.atomicity.proofs.Util.{clash}
use Rattle.example.proofs.Playing.{Hashing, functions, s, nonce1, nonce3}

-- ---- a spoilt tag

unfoldable pub spoil : List ℕ → List ℕ
spoil [] = []
spoil (x ∷ xs) = cond (eqb x 0) 1 0 ∷ xs

pub spoil-length : (x : List ℕ) → length (spoil x) ≡ length x
unfolding spoil
spoil-length [] = refl
spoil-length (x ∷ xs) = refl

eqb-suc : (x : ℕ) → eqb (suc x) 0 ≡ false
eqb-suc x = untrue (eqb (suc x) 0) (λ e. omega (arith, eqb-true (suc x) 0 e))

pub spoilt_differs : (x : List ℕ) → 0 < length x → spoil x ≡ x → ⊥
unfolding spoil
spoilt_differs [] h e = omega arith
spoilt_differs (zero ∷ xs) h e = omega (arith, ap (λ (l : List ℕ). get_or l 0 0) e)
spoilt_differs (suc x ∷ xs) h e = omega (arith, ap {B = ℕ} (λ (b : Bool). cond b 1 0) (eqb-suc x), ap (λ (l : List ℕ). get_or l 0 0) e)

pub differs : (a b : List ℕ) → (a ≡ b → ⊥) → same_list a b ≡ false
differs a b h = untrue (same_list a b) (λ e. h (same_true a b e))

-- ---- what is written

-- the nonce twice
unfoldable pub content1 : List ℕ
content1 = replicate 64 42

-- number and writer of its stamp
abbrev pub label1 : Label
label1 = record { number = 1; writer = 1 }

unfoldable pub content2 : List ℕ
content2 = 5 ∷ 6 ∷ []

pub twice : content1 ≡ nonce1 ++ nonce1
unfolding content1 nonce1
twice = refl

-- at every place the line through two equal bytes has that byte everywhere
column_is : (q : ℕ) → q < 32 → across 2 content1 q ≡ 42 ∷ 42 ∷ []
unfolding across table content1 fragment_size_def
column_is q h = λ i. get_or-replicate 64 (0 * 32 + q) 42 0 (omega arith) i ∷ get_or-replicate 64 (1 * 32 + q) 42 0 (omega arith) i ∷ []

-- so each fragment is the nonce
pub piece : (b : ℕ) → through bytes (1 ∷ 2 ∷ []) (42 ∷ 42 ∷ []) (point_of (up_to 4) b) ≡ 42 → fragment (up_to 4) 2 content1 b ≡ nonce1
unfolding fragment up_to nonce1 fragment_size_def content1
piece b h = sym (table_is 32 nonce1 _ refl (λ q l. get_or-replicate 32 q 42 0 l
    ∙ sym (ap (λ (xs : List ℕ). through bytes (1 ∷ 2 ∷ []) xs (point_of (up_to 4) b)) (unfold content1 in column_is q l) ∙ h)))

pub pieces : (fragment (up_to 4) 2 content1 1 ≡ nonce1) × (fragment (up_to 4) 2 content1 2 ≡ nonce1) × (fragment (up_to 4) 2 content1 3 ≡ nonce1)
    × (fragment (up_to 4) 2 content1 4 ≡ nonce1)
unfolding up_to point_of through eval vanish xtime times_bits times power inverse product
pieces = (piece 1 refl, piece 2 refl, piece 3 refl, piece 4 refl)

-- a stamp that nobody made
abbrev pub stamp7 : Stamp
stamp7 = record { number = 7; writer = 2; tag = replicate tag_size 0 }

module _ (H : Hashing) where
  -- ---- the first write's stamp and candidate, and what it stores

  -- server i's tag of a stamp and a nonce
  abbrev pub tag_for : Stamp → List ℕ → ℕ → List ℕ
  tag_for a n i = H.tag ((s H).keys i) (candidate_message a (H.digest n))

  unfoldable pub stamp1 : Stamp
  stamp1 = stamp_of (functions H) (s H).config 1 (s H).writers (s H).keys 1

  unfoldable pub cand : Candidate
  cand = candidate_made (functions H) (s H).config 1 (s H).writers (s H).keys nonce1 1

  unfoldable pub share : ℕ → Share
  share b = share_made (functions H) (s H).config 1 (s H).writers (s H).keys content1 nonce1 1 b

  abbrev pub stored : ℕ → Write
  stored b = record { stamp = cand.stamp; share = share b }

  -- ---- what the liar and the wild client make up: a high stamp with a spoilt tag, the candidate with spoilt tags, and one of a made-up stamp

  unfoldable pub high_stamp : Stamp
  high_stamp = record { number = 99999998; writer = 2; tag = spoil (H.tag (s H).writers (stamp_message_def 99999998 2)) }

  unfoldable pub spoilt : Candidate
  spoilt = record { stamp = cand.stamp; nonce = nonce1; tags = run_of (s H).config.servers (λ i. spoil (tag_for cand.stamp nonce1 i)) }

  unfoldable pub made_up : Candidate
  made_up = record { stamp = stamp7; nonce = nonce3; tags = run_of (s H).config.servers (λ i. spoil (tag_for stamp7 nonce3 i)) }

  -- ---- entries of the runs of tags and digests

  tag_at : (a : Stamp) (n : List ℕ) (i : ℕ) → 1 ≤ i → i ≤ (s H).config.servers → nth tag_size (run_of (s H).config.servers (tag_for a n)) i
      ≡ tag_for a n i
  tag_at a n i lo hi = nth-run tag_size (tag_for a n) (λ j. H.tag-size ((s H).keys j) (candidate_message a (H.digest n))) (s H).config.servers i lo hi

  spoilt_at : (a : Stamp) (n : List ℕ) (i : ℕ) → 1 ≤ i → i ≤ (s H).config.servers →
      nth tag_size (run_of (s H).config.servers (λ j. spoil (tag_for a n j))) i ≡ spoil (tag_for a n i)
  spoilt_at a n i lo hi = nth-run tag_size (λ j. spoil (tag_for a n j))
      (λ j. spoil-length (tag_for a n j) ∙ H.tag-size ((s H).keys j) (candidate_message a (H.digest n))) (s H).config.servers i lo hi

  tag-long : (a : Stamp) (n : List ℕ) (i : ℕ) → 0 < length (tag_for a n i)
  tag-long a n i = omega (arith, H.tag-size ((s H).keys i) (candidate_message a (H.digest n)))

  -- ---- tests of tags

  -- its own stamp's tag checks at a client
  pub stamp-checks : checks (functions H) (s H).writers cand.stamp ≡ true
  unfolding checks cand candidate_made stamp_of is_blank_def
  stamp-checks = same_refl (H.tag (s H).writers (stamp_message_def 1 1))

  pub high_unchecked : checks (functions H) (s H).writers high_stamp ≡ false
  unfolding checks high_stamp is_blank_def
  high_unchecked = differs _ _ (spoilt_differs (H.tag (s H).writers (stamp_message_def 99999998 2))
      (omega (arith, H.tag-size (s H).writers (stamp_message_def 99999998 2))))

  -- the candidate's tag checks at server b, spoilt ones do not
  pub by-tag : (b : ℕ) → 1 ≤ b → b ≤ (s H).config.servers → by_tag (functions H) (s H).config ((s H).keys b) b cand ≡ true
  unfolding by_tag cand candidate_made tags_of
  by-tag b lo hi =
      ap (λ (x : List ℕ). same_list x (tag_for cand.stamp nonce1 b)) (tag_at cand.stamp nonce1 b lo hi)
      ∙ same_refl (tag_for cand.stamp nonce1 b)

  not_by-tag : (a : Stamp) (n : List ℕ) (b : ℕ) → 1 ≤ b → b ≤ (s H).config.servers →
      by_tag (functions H) (s H).config ((s H).keys b) b (record {
        stamp = a;
        nonce = n;
        tags = run_of (s H).config.servers
            (λ i. spoil (tag_for a n i));
      }) ≡ false
  unfolding by_tag
  not_by-tag a n b lo hi = ap (λ (x : List ℕ). same_list x (tag_for a n b)) (spoilt_at a n b lo hi)
      ∙ differs (spoil (tag_for a n b)) (tag_for a n b) (spoilt_differs (tag_for a n b) (tag-long a n b))

  -- the spoilt tags are not the tags
  pub tags-differ : same_list cand.tags spoilt.tags ≡ false
  unfolding spoilt cand candidate_made tags_of shelf
  tags-differ = differs _ _ (λ e. spoilt_differs (tag_for cand.stamp nonce1 1) (tag-long cand.stamp nonce1 1)
      (sym (spoilt_at cand.stamp nonce1 1 (omega arith) (omega arith)) ∙ ap (λ (l : List ℕ). nth tag_size l 1) (sym e)
      ∙ tag_at cand.stamp nonce1 1 (omega arith) (omega arith)))

  -- ---- tests of candidates

  pub candidates-differ : same_candidate cand spoilt ≡ false
  candidates-differ = untrue (same_candidate cand spoilt)
      (λ e. clash (ap (λ (c : Candidate). same_list cand.tags c.tags) (sym (candidate-same cand spoilt e)) ∙ same_refl cand.tags) tags-differ)

  -- a server that holds the write and has the candidate as its latest
  abbrev pub holding : ℕ → Server
  holding b = record { latest = cand; history = stored b ∷ [] }

  pub held_own : (b : ℕ) → lookup cand.stamp (stored b ∷ []) ≡ some (share b)
  unfolding lookup
  held_own b = ap (λ (q : Bool). cond q (some (share b)) none) (stamp-refl cand.stamp)

  -- it vouches for every candidate of this stamp and nonce, and not for the made-up one
  pub by-history : (b : ℕ) (tags : List ℕ) →
      by_history_def (functions H) (s H).config ((s H).keys b) b (holding b) (record { stamp = cand.stamp; nonce = nonce1; tags = tags }) ≡ true
  unfolding by_history_def share share_made
  by-history b tags = ap (has_digest (H.digest nonce1)) (held_own b) ∙ same_refl (H.digest nonce1)

  pub valid-held : (b : ℕ) (tags : List ℕ) →
      valid (functions H) (s H).config ((s H).keys b) b (holding b) (record { stamp = cand.stamp; nonce = nonce1; tags = tags }) ≡ true
  unfolding valid
  valid-held b tags = ap (λ (q : Bool). q || by_tag (functions H) (s H).config ((s H).keys b) b
      (record { stamp = cand.stamp; nonce = nonce1; tags = tags }))
      (by-history b tags)

  -- ---- what a filter's list leads to at a server: the first of two equals, by history; the one whose tag checks; or none

  abbrev pub best_of : ℕ → Server → List Candidate → Candidate
  best_of b v cs = best (functions H) (s H).config ((s H).keys b) b v (blank_candidate (s H).config) cs

  pub best-held : (b : ℕ) → best_of b (holding b) (spoilt ∷ cand ∷ []) ≡ spoilt
  unfolding best below spoilt cand candidate_made stamp_of
  best-held b =
      ap (λ (q : Bool). let x = cond q spoilt (blank_candidate (s H).config) in
      cond (valid (functions H) (s H).config ((s H).keys b) b (holding b) cand && below x.stamp cand.stamp) cand x)
      (ap (λ (q : Bool). q && true) (valid-held b spoilt.tags))
      ∙ ap (λ (q : Bool). cond (q && false) cand spoilt) (valid-held b cand.tags)

  -- a server that holds nothing
  abbrev pub blank_one : Server
  blank_one = record { latest = blank_candidate (s H).config; history = [] }

  spoilt_invalid : (b : ℕ) → 1 ≤ b → b ≤ (s H).config.servers → valid (functions H) (s H).config ((s H).keys b) b blank_one spoilt ≡ false
  unfolding valid by_history_def lookup spoilt
  spoilt_invalid b lo hi = not_by-tag cand.stamp nonce1 b lo hi

  cand-valid : (b : ℕ) → 1 ≤ b → b ≤ (s H).config.servers → valid (functions H) (s H).config ((s H).keys b) b blank_one cand ≡ true
  unfolding valid by_history_def lookup
  cand-valid b lo hi = by-tag b lo hi

  pub best-tagged : (b : ℕ) → 1 ≤ b → b ≤ (s H).config.servers → best_of b blank_one (spoilt ∷ cand ∷ []) ≡ cand
  unfolding best below spoilt cand candidate_made stamp_of
  best-tagged b lo hi =
      ap (λ (q : Bool). let x = cond (q && true) spoilt (blank_candidate (s H).config) in
      cond (valid (functions H) (s H).config ((s H).keys b) b blank_one cand && below x.stamp cand.stamp) cand x) (spoilt_invalid b lo hi)
      ∙ ap (λ (q : Bool). cond (q && true) cand (blank_candidate (s H).config)) (cand-valid b lo hi)

  made-up_invalid : (b : ℕ) → 1 ≤ b → b ≤ (s H).config.servers → valid (functions H) (s H).config ((s H).keys b) b (holding b) made_up ≡ false
  unfolding valid by_history_def lookup made_up same_stamp cand candidate_made stamp_of
  made-up_invalid b lo hi = not_by-tag stamp7 nonce3 b lo hi

  pub best-made-up : (b : ℕ) → 1 ≤ b → b ≤ (s H).config.servers → best_of b (holding b) (made_up ∷ []) ≡ blank_candidate (s H).config
  unfolding best below made_up
  best-made-up b lo hi = ap (λ (q : Bool). cond (q && true) made_up (blank_candidate (s H).config)) (made-up_invalid b lo hi)
