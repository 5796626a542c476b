-- The first proven candidate, one slot more at a time: a slot that is not tried, or has no leader, changes nothing; the first other one is the
-- choice, and stays it. The slot that holds the choice is the first that does. Nothing is assumed.
use mathlib.Core.Path.{◌≡◌, refl, sym, ap, ◌∙◌, subst}
use mathlib.Core.Bool.{Bool, true, false, cond, not, ◌&&◌}
use mathlib.Core.List.{List, [], ◌∷◌, ◌++◌}
use mathlib.Core.Option.{none, some, none-ne-some}
use Prim.Native.Nat.{ℕ, zero, suc, ◌+◌, ◌-◌, ◌≤◌, ◌<◌}
use native.Mathlib.Numerals.{add-one}
use native.Mathlib.Omega.{arith}
use lib.Dec.{T, eqb}
use borrow.Author.Tests.{lt-ltb, le-ltb, eq-eqb, ne_eqb}
use Rattle.cluster.specs.Config.{shelf}
use Rattle.cluster.proofs.Tests.{and_both}
use Rattle.protocol.specs.Values.{Candidate, same_candidate, rank}
use Rattle.protocol.specs.Primitives.{real}
use Rattle.protocol.specs.Rules.{ByServer, keep, first, gather, proven}
use Rattle.protocol.specs.View.{marked, candidates_in, replies_in}
use Rattle.protocol.proofs.Equal.{candidate-same, candidate-refl}
use Rattle.decide.specs.Decided.{slot_of}
use Rattle.decide.specs.Listing.{enters}
use Rattle.decide.specs.declared.leading.Group.{Group}
use Rattle.decide.specs.Steps.{leader_at, Leads, tried_at, first_proven, Hit}
use Rattle.decide.proofs.Tops.{keep_append}
use Rattle.decide.proofs.Gathered.{gather_more, enters_twin, entered}

first_none : {A : Type 0} (p : A → Bool) (xs ys : List A) → first p xs ≡ none → first p (xs ++ ys) ≡ first p ys
unfolding first
first_none p [] ys h = refl
first_none p (x ∷ xs) ys h = go (p x) h (first_none p xs ys)
  where
    go : (b : Bool) → cond b (some x) (first p xs) ≡ none → (first p xs ≡ none → first p (xs ++ ys) ≡ first p ys) → cond b (some x)
        (first p (xs ++ ys)) ≡ first p ys
    go true e f = absurd (none-ne-some x (sym e))
    go false e f = f e

first_some : {A : Type 0} (p : A → Bool) (xs ys : List A) (a : A) → first p xs ≡ some a → first p (xs ++ ys) ≡ some a
unfolding first
first_some p [] ys a h = absurd (none-ne-some a h)
first_some p (x ∷ xs) ys a h = go (p x) h (first_some p xs ys a)
  where
    go : (b : Bool) → cond b (some x) (first p xs) ≡ some a → (first p xs ≡ some a → first p (xs ++ ys) ≡ some a) → cond b (some x)
        (first p (xs ++ ys)) ≡ some a
    go true e f = e
    go false e f = f e

module _ (p q : Candidate → Bool) (held : ByServer Candidate) where
  found_more : (n : ℕ) → first p (keep q (gather held n)) ≡ none
      → first p (keep q (gather held (suc n))) ≡ cond (q (held (suc n)) && enters held (suc n)) (cond (p (held (suc n))) (some (held (suc n))) none)
      none
  unfolding first keep
  found_more n h = ap (λ (l : List Candidate). first p (keep q l)) (gather_more held n) ∙ go (enters held (suc n)) (q (held (suc n))) refl
    where
      go : (b d : Bool) → q (held (suc n)) ≡ d
          → first p (keep q (cond b (gather held n ++ (held (suc n) ∷ [])) (gather held n))) ≡ cond (d && b)
          (cond (p (held (suc n))) (some (held (suc n))) none) none
      go true true e = rw (keep_append q (gather held n) (held (suc n) ∷ []), first_none p (keep q (gather held n)) (keep q (held (suc n) ∷ [])) h, e)
      go true false e = rw (
        keep_append q (gather held n) (held (suc n) ∷ []),
        first_none p (keep q (gather held n)) (keep q (held (suc n) ∷ [])) h,
        e,
      )
      go false true e = h
      go false false e = h

  found-kept : (c : Candidate) (n k : ℕ) → first p (keep q (gather held n)) ≡ some c → first p (keep q (gather held (n + k))) ≡ some c
  found-kept c n zero h = let e : n + 0 ≡ n = omega arith in ap (λ (x : ℕ). first p (keep q (gather held x))) e ∙ h
  found-kept c n (suc k) h =
      let e : n + suc k ≡ suc (n + k) = omega arith in
      ap (λ (x : ℕ). first p (keep q (gather held x))) e ∙ step (n + k) (found-kept c n k h)
    where
      step : (j : ℕ) → first p (keep q (gather held j)) ≡ some c → first p (keep q (gather held (suc j))) ≡ some c
      step j f = ap (λ (l : List Candidate). first p (keep q l)) (gather_more held j) ∙ go (enters held (suc j))
        where
          go : (b : Bool) → first p (keep q (cond b (gather held j ++ (held (suc j) ∷ [])) (gather held j))) ≡ some c
          go true = rw (keep_append q (gather held j) (held (suc j) ∷ [])) (first_some p (keep q (gather held j)) (keep q (held (suc j) ∷ [])) c f)
          go false = f

-- ---- at slots

module _ (t : ℕ) (marks kept : List ℕ) (key : ℕ) where
  pub chosen_none : first_proven t marks kept key 0 ≡ none
  unfolding first_proven first keep gather
  chosen_none = refl

  chosen_more : (n : ℕ) → first_proven t marks kept key n ≡ none
      → first_proven t marks kept key (suc n)
      ≡ cond (tried_at t kept key n) (cond (not (eqb (leader_at t marks kept n (shelf t).servers) 0)) (some (candidates_in (shelf t) kept (suc n)))
      none) none
  unfolding first_proven tried_at leader_at
  chosen_more n h =
      found_more (proven real (shelf t) (marked marks) (replies_in (shelf t) marks kept)) (λ c. eqb (rank c.stamp) key)
      (candidates_in (shelf t) kept) n h

  -- the slot is passed
  pub chosen-passed : (n : ℕ) → first_proven t marks kept key n ≡ none
      → cond (tried_at t kept key n) (leader_at t marks kept n (shelf t).servers) 0 ≡ 0 → first_proven t marks kept key (n + 1) ≡ none
  chosen-passed n h e =
      ap (first_proven t marks kept key) (add-one n) ∙ chosen_more n h ∙ go (tried_at t kept key n) (leader_at t marks kept n (shelf t).servers) e
    where
      go : (b : Bool) (x : ℕ) → cond b x 0 ≡ 0 → cond b (cond (not (eqb x 0)) (some (candidates_in (shelf t) kept (suc n))) none) none ≡ none
      go true x q = rw (eq-eqb x 0 q)
      go false x q = refl

  -- the slot is the choice's
  pub chosen_here : (n : ℕ) (r : Group) → n < (shelf t).servers → first_proven t marks kept key n ≡ none
      → Leads t marks kept n (cond (tried_at t kept key n) (leader_at t marks kept n (shelf t).servers) 0) r
      → Hit t marks kept key (record { slot = n; group = r })
  chosen_here n r l h g = go (tried_at t kept key n) refl
    where
      entering : tried_at t kept key n ≡ true → enters (candidates_in (shelf t) kept) (suc n) ≡ true
      entering q = unfold tried_at in (and_both (eqb (rank (candidates_in (shelf t) kept (suc n)).stamp) key)
          (enters (candidates_in (shelf t) kept) (suc n)) q).1

      later : (c : Candidate) → first_proven t marks kept key (suc n) ≡ some c → first_proven t marks kept key (shelf t).servers ≡ some c
      later c q =
          let e : suc n + ((shelf t).servers - suc n) ≡ (shelf t).servers = omega arith in
          sym (ap (first_proven t marks kept key) e)
          ∙ (unfold first_proven in found-kept (proven real (shelf t) (marked marks) (replies_in (shelf t) marks kept)) (λ d. eqb (rank d.stamp) key)
          (candidates_in (shelf t) kept) c (suc n) ((shelf t).servers - suc n) (unfold first_proven in q))

      go : (y : Bool) → tried_at t kept key n ≡ y → Hit t marks kept key (record { slot = n; group = r })
      go true q =
          let w : leader_at t marks kept n (shelf t).servers ≡ suc r.leader = sym (ap (λ (z : Bool). cond z (leader_at t marks kept n (shelf t).servers)
          0) q) ∙ g.leader in
          record {
            slot = l;
            listed = entering q;
            chosen = later (candidates_in (shelf t) kept (suc n)) (chosen_more n h ∙ rw (q, w, ne_eqb (suc r.leader) 0 (λ z. omega arith)));
            leader = w;
            members = g.these;
          }
      go false q =
          let z : 0 ≡ suc r.leader = sym (ap (λ (z : Bool). cond z (leader_at t marks kept n (shelf t).servers) 0) q) ∙ g.leader in
          absurd (omega arith)

-- ---- the slot that holds it

module _ (held : ByServer Candidate) (i : ℕ) (h : enters held (suc i) ≡ true) where
  before : (n : ℕ) → n ≤ i → slot_of held (held (suc i)) n ≡ n
  unfolding slot_of
  before zero l = refl
  before (suc n) l = rw (before n (omega arith), le-ltb n n (omega arith), differs n (omega arith))
    where
      differs : (j : ℕ) → j < i → same_candidate (held (suc j)) (held (suc i)) ≡ false
      differs j k = go (same_candidate (held (suc j)) (held (suc i))) refl
        where
          go : (b : Bool) → same_candidate (held (suc j)) (held (suc i)) ≡ b → same_candidate (held (suc j)) (held (suc i)) ≡ false
          go true q =
              let e : held (suc j) ≡ held (suc i) = candidate-same (held (suc j)) (held (suc i)) q in
              absurd (subst T (sym h ∙ enters_twin held i j (entered held i h) k (subst (λ (x : Candidate). same_candidate (held (suc i)) x ≡ true)
              (sym e) (candidate-refl (held (suc i))))) tt)
          go false q = q

  pub slot_of_lem : (k : ℕ) → slot_of held (held (suc i)) (suc i + k) ≡ i
  unfolding slot_of
  slot_of_lem zero =
      let e : suc i + 0 ≡ suc i = omega arith in
      ap (slot_of held (held (suc i))) e ∙ rw (before i (omega arith), le-ltb i i (omega arith), candidate-refl (held (suc i)))
  slot_of_lem (suc k) =
      let e : suc i + suc k ≡ suc (suc i + k) = omega arith in
      ap (slot_of held (held (suc i))) e ∙ rw (slot_of_lem k, lt-ltb i (suc i + k) (omega arith))
