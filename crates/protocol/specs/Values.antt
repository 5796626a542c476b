-- Stamps, candidates and stored writes (document 01, "Stamps and candidates"), their blanks, their order and their equality.
use Rattle.std.specs.Prelude.{Bool, true, false, ◌&&◌, ◌||◌, List, [], ◌∷◌, ◌++◌, ℕ, zero, suc, ◌+◌, ◌-◌, ◌*◌, ltb, eqb, take, drop, replicate}
use Rattle.std.proofs.Math.Option.{Option, none, some}
use Rattle.cluster.specs.Config.{Config}
use Rattle.cluster.specs.Ranges.{key_size}
use Rattle.hmac.specs.Hmac.{tag_size}
use Rattle.protocol.specs.declared.Stamp.{Stamp}
use Rattle.protocol.specs.declared.Label.{Label}

-- ---- lengths (document 01, "Digest, tag, fragment"): bytes of a digest and of a nonce; of a stamp; of S digests and of S tags; of a candidate

abbrev pub digest_size : ℕ
digest_size = key_size

abbrev pub nonce_size : ℕ
nonce_size = key_size

abbrev pub stamp_size : ℕ
stamp_size = 5 + tag_size

abbrev pub digests_size_def : Config → ℕ
digests_size_def s = digest_size * s.servers

abbrev pub tags_size_def : Config → ℕ
tags_size_def s = tag_size * s.servers

abbrev pub candidate_size_def : Config → ℕ
candidate_size_def s = stamp_size + nonce_size + tags_size_def s

-- ---- equality of bytes, and runs of entries for servers 1 to n

abbrev pub same_list : List ℕ → List ℕ → Bool
same_list [] [] = true
same_list [] (y ∷ ys) = false
same_list (x ∷ xs) [] = false
same_list (x ∷ xs) (y ∷ ys) = eqb x y && same_list xs ys

-- the entry of server i, counted from 1, in a run of entries of w bytes
unfoldable pub nth : ℕ → List ℕ → ℕ → List ℕ
nth w run i = take w (drop (w * (i - 1)) run)

unfoldable pub run_of : ℕ → (ℕ → List ℕ) → List ℕ
run_of zero f = []
run_of (suc n) f = run_of n f ++ f (suc n)

-- ---- stamps

-- the blank stamp is all zero and lowest: ts_0 of line 110
abbrev pub blank_stamp : Stamp
blank_stamp = record { number = 0; writer = 0; tag = replicate tag_size 0 }

-- by the number: the layout has no other stamp of number 0, and no other candidate with one (`blank-stamp` and `blank-candidate` of proofs/Blanks)
unfoldable pub is_blank_def : Stamp → Bool
is_blank_def a = eqb a.number 0

-- order is by number, then writer: the tag has no part in it
unfoldable pub below : Stamp → Stamp → Bool
below a b = ltb a.number b.number || (eqb a.number b.number && ltb a.writer b.writer)

-- the same order as one number, since a writer is a byte (`below-rank` of proofs/Ranks)
abbrev pub rank_by : ℕ → ℕ → ℕ
rank_by number writer = 256 * number + writer

abbrev pub rank : Stamp → ℕ
rank a = rank_by a.number a.writer

-- equality is of all three
unfoldable pub same_stamp : Stamp → Stamp → Bool
same_stamp a b = eqb a.number b.number && (eqb a.writer b.writer && same_list a.tag b.tag)

-- number and writer: what is told of a stamp
abbrev pub label_of : Stamp → Label
label_of a = record { number = a.number; writer = a.writer }

-- ---- candidates: a stamp, a nonce and S tags

pub record Candidate : Type 0 where
  pub stamp : Stamp
  pub nonce : List ℕ
  pub tags : List ℕ

-- c_0 of line 110. Amended: zeros stand for NULL
abbrev pub blank_candidate : Config → Candidate
blank_candidate s = record { stamp = blank_stamp; nonce = replicate nonce_size 0; tags = replicate (tags_size_def s) 0 }

unfoldable pub same_candidate : Candidate → Candidate → Bool
same_candidate a b = same_stamp a.stamp b.stamp && (same_list a.nonce b.nonce && same_list a.tags b.tags)

-- ---- what a server keeps of a write: the stamp, and its share: length, fragment, S digests, nonce digest, S tags

pub record Share : Type 0 where
  pub size : ℕ
  pub fragment : List ℕ
  pub digests : List ℕ
  pub nonce_digest_def : List ℕ
  pub tags : List ℕ

abbrev pub no_share : Share
no_share = record { size = 0; fragment = []; digests = []; nonce_digest_def = []; tags = [] }

pub record Write : Type 0 where
  pub stamp : Stamp
  pub share : Share

-- what a history holds for a stamp
pub record Held : Type 0 where
  pub stamp : Stamp
  pub share : Option Share

abbrev pub no_held : Held
no_held = record { stamp = blank_stamp; share = none }

abbrev pub is_some : {A : Type 0} → Option A → Bool
is_some none = false
is_some (some a) = true

-- what a test says of what is there; false where nothing is
abbrev pub of_some : {A : Type 0} → Option A → (A → Bool) → Bool
of_some none f = false
of_some (some a) f = f a
