-- What a client holds is within the layout: by its round, with what a reply brings, the list of candidates, and what is chosen of it.
-- Lists only lose members, restoring keeps the length told. Nothing is assumed but the primitives' lengths.
use mathlib.Core.Path.{◌≡◌, refl, sym, ap, ◌∙◌, subst}
use mathlib.Core.Bool.{Bool, true, false, cond, ◌||◌}
use mathlib.Core.List.{List, [], ◌∷◌, ◌++◌}
use mathlib.Core.Option.{Option, none, some, some-injective}
use mathlib.Core.Logic.{inl, inr}
use Prim.Native.Nat.{ℕ, zero, suc, ◌+◌, ◌≤◌}
use native.Mathlib.Omega.{arith}
use lib.Dec.{T, eqb, lit≤}
use lib.ListN.{length, length-append}
use Rattle.cluster.specs.Config.{Config}
use Rattle.cluster.specs.Ranges.{top_writer, top_number, top_length}
use Rattle.cluster.proofs.Tests.{or_none}
use Rattle.format.specs.Format.{All, via, seq, run, or_blank, optional}
use Rattle.protocol.specs.Values.{Candidate, Share, Held, no_held, is_blank_def, same_candidate, nonce_size, stamp_size, tags_size_def}
use Rattle.protocol.specs.Packet.{Body, BodyOk, any_stamp_f, candidate_f, any_candidate_f, share_f, held_f}
use Rattle.protocol.specs.Packet.{clock, clock_reply, store, store_reply, complete, complete_reply, collect, collect_reply, filter, filter_reply, repair, repair_reply}
use Rattle.protocol.specs.Primitives.{Primitives, Lengths}
use Rattle.protocol.specs.Rules.{ByServer, upd, any, keep, first, gather, live, highest, choice, proven, parts, restored_by, tags_in}
use Rattle.protocol.specs.Client.{Hand, idle, clocking, storing, completing, collecting, filtering, repairing, stamp_in, candidate_in, held_in_def}
use Rattle.protocol.specs.View.{reply_slot}
use Rattle.format.proofs.Answers.{no_some, at-cond}
use Rattle.protocol.proofs.Packets.{candidate-lengths, share-lengths}
use Rattle.protocol.proofs.Room.{Fitting, share-room, share-size}
use Rattle.protocol.proofs.Readers.{share-held}
use Rattle.protocol.proofs.Lengths.{held_share_size, held-length}
use Rattle.format.proofs.Walks.{all_snoc}

-- a writer's content and nonce
pub record WriteOk (c : ℕ) (r n : List ℕ) : Type 0 where
  pub writer : (1 ≤ c) × (c ≤ top_writer)
  pub high : length r ≤ top_length
  pub nonce : length n ≡ nonce_size

-- what client c holds in a round
unfoldable pub HandOk : Config → ℕ → Hand → Type 0
HandOk s c idle = Unit {0}
HandOk s c (clocking r n m) = WriteOk c r n × (m ≤ top_number)
HandOk s c (storing d h) = (candidate_f s).Ok d × ((i : ℕ) → 1 ≤ i → i ≤ s.servers → (share_f s).Ok (h i))
HandOk s c (completing d) = (candidate_f s).Ok d
HandOk s c (collecting g) = (i : ℕ) → (any_candidate_f s).Ok (g i)
HandOk s c (filtering cs g) = (All (candidate_f s).Ok cs × (length cs ≤ s.servers)) × ((i : ℕ) → (held_f s).Ok (g i))
HandOk s c (repairing d r) = (candidate_f s).Ok d × (length r ≤ top_length)

-- ---- what a reply brings

pub stamp_in_lem : (s : Config) (x : Body) → BodyOk s x → any_stamp_f.Ok (stamp_in x)
unfolding any_stamp_f or_blank
stamp_in_lem s (clock_reply x) h = h
stamp_in_lem s clock h = inl refl
stamp_in_lem s (store x) h = inl refl
stamp_in_lem s (store_reply x) h = inl refl
stamp_in_lem s (complete x) h = inl refl
stamp_in_lem s complete_reply h = inl refl
stamp_in_lem s collect h = inl refl
stamp_in_lem s (collect_reply x) h = inl refl
stamp_in_lem s (filter x) h = inl refl
stamp_in_lem s (filter_reply x) h = inl refl
stamp_in_lem s (repair x) h = inl refl
stamp_in_lem s repair_reply h = inl refl

pub candidate_in_lem : (s : Config) (x : Body) → BodyOk s x → (any_candidate_f s).Ok (candidate_in s x)
unfolding any_candidate_f or_blank
candidate_in_lem s (collect_reply x) h = h
candidate_in_lem s clock h = inl refl
candidate_in_lem s (clock_reply x) h = inl refl
candidate_in_lem s (store x) h = inl refl
candidate_in_lem s (store_reply x) h = inl refl
candidate_in_lem s (complete x) h = inl refl
candidate_in_lem s complete_reply h = inl refl
candidate_in_lem s collect h = inl refl
candidate_in_lem s (filter x) h = inl refl
candidate_in_lem s (filter_reply x) h = inl refl
candidate_in_lem s (repair x) h = inl refl
candidate_in_lem s repair_reply h = inl refl

pub no-held : (s : Config) → (held_f s).Ok no_held
unfolding held_f via seq optional any_stamp_f or_blank
no-held s = (inl refl, tt)

pub held_in : (s : Config) (x : Body) → BodyOk s x → (held_f s).Ok (held_in_def x)
held_in s (filter_reply x) h = h
held_in s clock h = no-held s
held_in s (clock_reply x) h = no-held s
held_in s (store x) h = no-held s
held_in s (store_reply x) h = no-held s
held_in s (complete x) h = no-held s
held_in s complete_reply h = no-held s
held_in s collect h = no-held s
held_in s (collect_reply x) h = no-held s
held_in s (filter x) h = no-held s
held_in s (repair x) h = no-held s
held_in s repair_reply h = no-held s

-- a held reply fits its slot
pub held-room : (s : Config) → Fitting s → (x : Held) → (held_f s).Ok x → length ((held_f s).print x) ≤ reply_slot
held-room s f x o = omega (arith, held-length s x o, go x.share (share-held s x o))
  where
    go : (y : Option Share) → ((h : Share) → y ≡ some h → (share_f s).Ok h) → stamp_size + 1 + held_share_size s y ≤ reply_slot
    go none k = lit≤ tt
    go (some h) k = share-room s f h (k h refl)

-- ---- lists and tables

pub upd-ok : {A : Type 0} (Q : A → Type 0) (g : ByServer A) (b : ℕ) (x : A) → ((i : ℕ) → Q (g i)) → Q x → (i : ℕ) → Q (upd g b x i)
unfolding upd
upd-ok Q g b x h k i = at-cond (eqb i b) x (g i) Q (λ e. k) (λ e. h i)

pub keep_all : {A : Type 0} (Q : A → Type 0) (p : A → Bool) (xs : List A) → All Q xs → All Q (keep p xs)
unfolding keep
keep_all Q p [] h = tt
keep_all Q p (x ∷ xs) h =
    at-cond (p x) (x ∷ keep p xs) (keep p xs) (All Q) (λ e. (h.0, keep_all Q p xs h.1)) (λ e. keep_all Q p xs h.1)

pub first_all : {A : Type 0} (Q : A → Type 0) (p : A → Bool) (xs : List A) (a : A) → All Q xs → first p xs ≡ some a → Q a
unfolding first
first_all Q p [] a h e = no_some a e
first_all {A} Q p (x ∷ xs) a h e = go (p x) e (first_all Q p xs a h.1)
  where
    go : (b : Bool) → cond b (some x) (first p xs) ≡ some a → (first p xs ≡ some a → Q a) → Q a
    go true f k = subst Q (some-injective x a f) h.0
    go false f k = k f

module _ (s : Config) where
  not-blank : (c : Candidate) → (any_candidate_f s).Ok c → is_blank_def c.stamp ≡ false → (candidate_f s).Ok c
  unfolding any_candidate_f or_blank is_blank_def
  not-blank c (inl e) f = absurd (subst T (ap (λ (x : Candidate). eqb x.stamp.number 0) (sym e) ∙ f) tt)
  not-blank c (inr h) f = h

  pub gather-ok : (g : ByServer Candidate) → ((i : ℕ) → (any_candidate_f s).Ok (g i)) → (n : ℕ) → All (candidate_f s).Ok (gather g n) ×
      (length (gather g n) ≤ n)
  unfolding gather
  gather-ok g h zero = (tt, omega arith)
  gather-ok g h (suc n) =
      let k = gather-ok g h n in
      at-cond (is_blank_def (g (suc n)).stamp || any (same_candidate (g (suc n))) (gather g n)) (gather g n) (gather g n ++ (g (suc n) ∷ []))
      (λ l. All (candidate_f s).Ok l × (length l ≤ suc n))
      (λ e. (k.0, omega (arith, k.1)))
      (λ e. (
        all_snoc _ (gather g n) (g (suc n)) k.0 (not-blank (g (suc n)) (h (suc n)) (or_none _ _ e).0),
        omega (arith, k.1, length-append (gather g n) (g (suc n) ∷ [])),
      ))

-- ---- what is chosen

module _ (P : Primitives) (law : Lengths P) (s : Config) (m : ByServer Bool) (g : ByServer Held) (fine : (i : ℕ) → (held_f s).Ok (g i)) where
  pub choice-ok : (cs : List Candidate) → All (candidate_f s).Ok cs → (d : Candidate) → choice P s m g cs ≡ some d → (candidate_f s).Ok d
  unfolding choice highest live
  choice-ok cs h d e = first_all (candidate_f s).Ok (proven P s m g) _ d (keep_all (candidate_f s).Ok _ _ (keep_all (candidate_f s).Ok _ cs h)) e

  -- the chosen candidate with the tags of server n's share
  pub with-tags : (d : Candidate) (n : ℕ) → (candidate_f s).Ok d → (candidate_f s).Ok (record
      { stamp = d.stamp; nonce = d.nonce; tags = tags_in P s d (g n).share })
  with-tags d n h = put-tags d (tags_in P s d (g n).share) h (lengths (g n).share (share-held s (g n) (fine n)))
    where
      lengths : (o : Option Share) → ((q : Share) → o ≡ some q → (share_f s).Ok q) → length (tags_in P s d o) ≡ tags_size_def s
      lengths none k = (candidate-lengths s d h).tags
      lengths (some q) k = (share-lengths s q (k q refl)).tags

      put-tags : (d : Candidate) (ts : List ℕ) → (candidate_f s).Ok d → length ts ≡ tags_size_def s
          → (candidate_f s).Ok (record { stamp = d.stamp; nonce = d.nonce; tags = ts })
      put-tags d ts h l = unfold candidate_f via seq run in (h.0, (h.1.0, l))

  -- the content restored from the group of server n
  pub content_short : (d : Candidate) (n : ℕ) → Fitting s → length (restored_by P s m g d n (g n).share) ≤ top_length
  content_short d n f = go (g n).share (share-held s (g n) (fine n))
    where
      go : (o : Option Share) → ((q : Share) → o ≡ some q → (share_f s).Ok q) → length (restored_by P s m g d n o) ≤ top_length
      go none k = unfold restored_by in lit≤ tt
      go (some q) k =
          unfold restored_by in omega (
            arith,
            law.content s.points s.threshold q.size (parts P s m g d n s.servers),
            share-size s f q
                (k q refl),
          )
