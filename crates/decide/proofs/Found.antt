-- What a caller learns of a found slot: the choice stands in the slot told, it has a leader, and comparing tags as the code does is the rule's
-- comparison. Nothing is assumed.
use mathlib.Core.Path.{◌≡◌, refl, sym, ap, ◌∙◌, subst}
use mathlib.Core.Bool.{Bool, true, false, cond, not, ◌||◌, or-true}
use mathlib.Core.List.{List, [], ◌∷◌, ◌++◌}
use mathlib.Core.Option.{some, none-ne-some, some-injective}
use Prim.Native.Nat.{ℕ, zero, suc, ◌+◌, ◌<◌}
use native.Mathlib.Omega.{arith}
use lib.Dec.{T, ltb}
use lib.ListN.{length, drop}
use borrow.Author.Tests.{ltb-true, ltb-false, lt-ltb, le-leb, eq-eqb}
use Rattle.cluster.specs.Config.{Config, shelf, quorum}
use Rattle.cluster.specs.Ranges.{top_length, most_servers, top_faults}
use Rattle.sha256.specs.Sha256.{sha256}
use Rattle.protocol.specs.Values.{Candidate, Held, same_list, same_candidate, below, stamp_size}
use Rattle.protocol.specs.Primitives.{real}
use Rattle.protocol.specs.Rules.{ByServer, count_to, any, keep, first, gather, lower, live, proven, highest, choice, tags_in}
use Rattle.protocol.specs.View.{share_of_size, kept_size, candidates_in, replies_in, reply_slot_of}
use Rattle.protocol.proofs.Equal.{candidate-same, candidate-refl}
use Rattle.decide.specs.Decided.{slot_of, same_tags_at, same_tags_def}
use Rattle.decide.specs.Listing.{usable, enters}
use Rattle.decide.specs.Steps.{Usable, leader_at, Full}
use Rattle.decide.proofs.Groups.{fits-named, leader_full, leads-fits, leader-leads}
use Rattle.decide.proofs.Places.{reply_in}
use Rattle.decide.proofs.Replies.{size_in_def, held_share, share_in}
use Rattle.decide.proofs.Gathered.{any_append, gather_more}
use Rattle.decide.proofs.Arguments.{few}

-- ---- the choice is one of the list, and proven

first_in : (p : Candidate → Bool) (l : List Candidate) (c : Candidate) → first p l ≡ some c → (any (same_candidate c) l ≡ true) × (p c ≡ true)
unfolding first any
first_in p [] c h = absurd (none-ne-some c h)
first_in p (x ∷ xs) c h = go (p x) refl h (first_in p xs c)
  where
    go : (b : Bool) → p x ≡ b → cond b (some x) (first p xs) ≡ some c → (first p xs ≡ some c → (any (same_candidate c) xs ≡ true) × (p c ≡ true))
        → ((same_candidate c x || any (same_candidate c) xs) ≡ true) × (p c ≡ true)
    go true e q f =
        let z : x ≡ c = some-injective x c q in (
          subst (λ (y : Candidate). (same_candidate c y || any (same_candidate c) xs) ≡ true) (sym z) (rw (candidate-refl c)),
          subst
              (λ (y : Candidate). p y ≡ true) z e,
        )
    go false e q f = let w = f q in (rw w.0 (or-true (same_candidate c x)), w.1)

keep_in : (p q : Candidate → Bool) (l : List Candidate) → any p (keep q l) ≡ true → any p l ≡ true
unfolding any keep
keep_in p q [] h = h
keep_in p q (x ∷ xs) h = go (q x) h (keep_in p q xs)
  where
    more : (b : Bool) → (any p (keep q xs) ≡ true → any p xs ≡ true) → (b || any p (keep q xs)) ≡ true → (b || any p xs) ≡ true
    more true f e = refl
    more false f e = f e

    go : (b : Bool) → any p (cond b (x ∷ keep q xs) (keep q xs)) ≡ true → (any p (keep q xs) ≡ true → any p xs ≡ true) → (p x || any p xs) ≡ true
    go true e f = more (p x) f e
    go false e f = rw (f e) (or-true (p x))

module _ (held : ByServer Candidate) (c : Candidate) where
  slot-within : (n : ℕ) → any (same_candidate c) (gather held n) ≡ true → slot_of held c n < n
  unfolding slot_of any gather
  slot-within zero h = absurd (subst T (sym h) tt)
  slot-within (suc n) h = by_before (ltb (slot_of held c n) n) refl (slot-within n)
    where
      -- nothing before and not here: then it is not in the list
      never : same_candidate (held (suc n)) c ≡ false → any (same_candidate c) (gather held n) ≡ false → any (same_candidate c) (gather held (suc n)) ≡
          false
      never q e = ap (any (same_candidate c)) (gather_more held n) ∙ go (enters held (suc n)) (same_candidate c (held (suc n))) refl
        where
          go : (y z : Bool) → same_candidate c (held (suc n)) ≡ z → any (same_candidate c)
              (cond y (gather held n ++ (held (suc n) ∷ [])) (gather held n)) ≡ false
          go true true w =
              let s : c ≡ held (suc n) = candidate-same c (held (suc n)) w in
              absurd (subst T (sym (candidate-refl c) ∙ subst (λ (x : Candidate). same_candidate x c ≡ false) (sym s) q) tt)
          go true false w = any_append (same_candidate c) (gather held n) (held (suc n) ∷ []) ∙ rw (e, w)
          go false z w = e

      by_here : (y : Bool) → same_candidate (held (suc n)) c ≡ y → ltb (slot_of held c n) n ≡ false
          → (any (same_candidate c) (gather held n) ≡ true → slot_of held c n < n) → cond y n (suc n) < suc n
      by_here true q e f = omega arith
      by_here false q e f = out (any (same_candidate c) (gather held n)) refl
        where
          out : (z : Bool) → any (same_candidate c) (gather held n) ≡ z → suc n < suc n
          out true w = absurd (let l = f w in let k = ltb-false (slot_of held c n) n e in omega arith)
          out false w = absurd (subst T (sym h ∙ never q w) tt)

      by_before : (b : Bool) → ltb (slot_of held c n) n ≡ b → (any (same_candidate c) (gather held n) ≡ true → slot_of held c n < n)
          → cond b (slot_of held c n) (cond (same_candidate (held (suc n)) c) n (suc n)) < suc n
      by_before true e f = let l = ltb-true (slot_of held c n) n e in omega arith
      by_before false e f = by_here (same_candidate (held (suc n)) c) refl e f

  slot-holds : (n : ℕ) → slot_of held c n < n → held (suc (slot_of held c n)) ≡ c
  unfolding slot_of
  slot-holds zero l = absurd (omega arith)
  slot-holds (suc n) l = by_before (ltb (slot_of held c n) n) refl l (slot-holds n)
    where
      by_here : (y : Bool) → same_candidate (held (suc n)) c ≡ y → cond y n (suc n) < suc n → held (suc (cond y n (suc n))) ≡ c
      by_here true q k = candidate-same (held (suc n)) c q
      by_here false q k = absurd (omega arith)

      by_before : (b : Bool) → ltb (slot_of held c n) n ≡ b → cond b (slot_of held c n) (cond (same_candidate (held (suc n)) c) n (suc n)) < suc n
          → (slot_of held c n < n → held (suc (slot_of held c n)) ≡ c) → held (suc (cond b (slot_of held c n)
          (cond (same_candidate (held (suc n)) c) n (suc n)))) ≡ c
      by_before true e k f = f (ltb-true (slot_of held c n) n e)
      by_before false e k f = by_here (same_candidate (held (suc n)) c) refl k

-- the slot told holds the choice, which is proven
pub chosen-slot : (s : Config) (m : ByServer Bool) (g : ByServer Held) (held : ByServer Candidate) (c : Candidate)
    → choice real s m g (gather held s.servers) ≡ some c
    → (slot_of held c s.servers < s.servers) × (held (suc (slot_of held c s.servers)) ≡ c) × (proven real s m g c ≡ true)
unfolding choice highest live
chosen-slot s m g held c h =
    let w = first_in (proven real s m g) (highest real s (live real s m g (gather held s.servers))) c h in
    let v = keep_in (same_candidate c) (λ (x : Candidate). ltb (count_to s.servers (lower real s m g x)) (quorum s)) (gather held s.servers)
    (keep_in (same_candidate c) (λ (x : Candidate). not (any (λ (d : Candidate). below x.stamp d.stamp)
    (live real s m g (gather held s.servers))))
    (live real s m g (gather held s.servers)) w.0) in
    let l = slot-within held c s.servers v in
    (l, slot-holds held c s.servers l, w.1)

-- ---- tags

pub found-tags : (t : ℕ) (ms kept : List ℕ) (i b : ℕ) → Usable t kept → i < (shelf t).servers → leader_at t ms kept i (shelf t).servers ≡ suc b
    → same_tags_def t kept i (suc b) ≡ same_list (tags_in real (shelf t) (candidates_in (shelf t) kept (suc i)) (replies_in (shelf t) ms kept (suc b)).share)
    (candidates_in (shelf t) kept (suc i)).tags
unfolding same_tags_def usable
found-tags t ms kept i b u l h =
    let w = leader-leads t ms kept i (shelf t).servers b h in
    let f = leads-fits t ms kept i b w.0 in
    let k : b < most_servers = omega (arith, w.1, few u) in
    let q = leader_full t ms kept i (sha256 (candidates_in (shelf t) kept (suc i)).nonce) refl b k f.0 in
    let m = (fits-named t ms kept i (sha256 (candidates_in (shelf t) kept (suc i)).nonce) refl b k f.0).0 in
    rw (
      le-leb 1 t u.low,
      le-leb t top_faults u.high,
      eq-eqb (length kept) kept_size u.size,
      lt-ltb i (shelf t).servers l,
      le-leb 1 (suc b) (omega arith),
      le-leb (suc b) (shelf t).servers w.1,
      reply_in (shelf t) ms kept b k m,
      held_share (shelf t) (reply_slot_of kept b) q.flag,
    )
    (at_slot t kept i b q)
  where
    at_slot : (t : ℕ) (kept : List ℕ) (i b : ℕ) → Full (reply_slot_of kept b)
        → same_tags_at t kept i (suc b) ≡ same_list (share_of_size (shelf t) (size_in_def (reply_slot_of kept b))
        (drop (stamp_size + 1) (reply_slot_of kept b))).tags (candidates_in (shelf t) kept (suc i)).tags
    at_slot t kept i b q =
        unfold same_tags_at in rw (share_in t kept b) (unfold share_of_size in rw (le-leb (size_in_def (reply_slot_of kept b)) top_length q.top))
