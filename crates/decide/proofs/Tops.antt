-- The highest rank that stays decides: no live candidate is left where it is the blank one, and the highest live candidates are those of that rank.
-- A rank is below it where some live candidate's is higher: by induction on the servers; a twin raises nothing, since its rank was passed. Nothing is
-- assumed.
use mathlib.Core.Path.{◌≡◌, refl, sym, ap, ◌∙◌, subst}
use mathlib.Core.Bool.{Bool, true, false, cond, ◌&&◌, ◌||◌, or-true, and-false, or-false}
use mathlib.Core.List.{List, [], ◌∷◌, ◌++◌}
use Prim.Native.Nat.{ℕ, zero, suc, ◌≤◌, ◌<◌}
use native.Mathlib.Omega.{arith}
use lib.Dec.{T, ltb, eqb}
use borrow.Author.Tests.{ltb-true, ltb-false, eqb-true, eqb-false, lt-ltb}
use Rattle.cluster.specs.Config.{Config, quorum}
use Rattle.protocol.specs.Values.{Candidate, Held, same_candidate, is_blank_def, below, rank}
use Rattle.protocol.specs.Primitives.{real}
use Rattle.protocol.specs.Rules.{ByServer, count_to, any, keep, gather, lower}
use Rattle.protocol.proofs.Equal.{test_ext, candidate-same}
use Rattle.decide.specs.Listing.{enters}
use Rattle.decide.specs.Steps.{blank_rank, ranks_below, stays, raised, top_rank}
use Rattle.protocol.proofs.Ranks.{below-rank}
use Rattle.decide.proofs.Counted.{count_ext}
use Rattle.decide.proofs.Gathered.{any_append, gather_more, entered}

pub keep_append : {A : Type 0} (p : A → Bool) (xs ys : List A) → keep p (xs ++ ys) ≡ keep p xs ++ keep p ys
unfolding keep
keep_append p [] ys = refl
keep_append p (x ∷ xs) ys = go (p x) (keep_append p xs ys)
  where
    go : (b : Bool) → keep p (xs ++ ys) ≡ keep p xs ++ keep p ys → cond b (x ∷ keep p (xs ++ ys)) (keep p (xs ++ ys)) ≡ cond b (x ∷ keep p xs)
        (keep p xs) ++ keep p ys
    go true e = ap (λ z. x ∷ z) e
    go false e = e

pub keep-keep : {A : Type 0} (p q : A → Bool) (xs : List A) → keep p (keep q xs) ≡ keep (λ x. q x && p x) xs
unfolding keep
keep-keep p q [] = refl
keep-keep p q (x ∷ xs) = go (q x) (keep-keep p q xs)
  where
    go : (b : Bool) → keep p (keep q xs) ≡ keep (λ y. q y && p y) xs
        → keep p (cond b (x ∷ keep q xs) (keep q xs)) ≡ cond (b && p x) (x ∷ keep (λ y. q y && p y) xs) (keep (λ y. q y && p y) xs)
    go true e = ap (λ z. cond (p x) (x ∷ z) z) e
    go false e = e

-- one of those kept
pub any_member : (c : Candidate) (p q : Candidate → Bool) (l : List Candidate) → any (same_candidate c) l ≡ true → q c ≡ true → p c ≡ true → any p
    (keep q l) ≡ true
unfolding any keep
any_member c p q [] h k m = absurd (subst T (sym h) tt)
any_member c p q (y ∷ ys) h k m = go (same_candidate c y) refl (any_member c p q ys)
  where
    kept : (b : Bool) → any p (keep q ys) ≡ true → any p (cond b (y ∷ keep q ys) (keep q ys)) ≡ true
    kept true e = rw e (or-true (p y))
    kept false e = e

    go : (b : Bool) → same_candidate c y ≡ b → (any (same_candidate c) ys ≡ true → q c ≡ true → p c ≡ true → any p (keep q ys) ≡ true)
        → any p (cond (q y) (y ∷ keep q ys) (keep q ys)) ≡ true
    go true e f = let s : c ≡ y = candidate-same c y e in rw (ap q (sym s) ∙ k, ap p (sym s) ∙ m)
    go false e f = kept (q y) (f (subst (λ (b : Bool). (b || any (same_candidate c) ys) ≡ true) e h) k m)

pub any-true : {A : Type 0} (xs : List A) → any (λ x. true) xs ≡ false → xs ≡ []
unfolding any
any-true [] e = refl
any-true (x ∷ xs) e = absurd (subst T e tt)

pub raise_law : (x top key : ℕ) (b : Bool) → ltb x (cond (ltb top key && b) key top) ≡ (ltb x top || (b && ltb x key))
raise_law x top key false = rw (and-false (ltb top key)) (sym (or-false (ltb x top)))
raise_law x top key true = go (ltb top key) refl
  where
    go : (y : Bool) → ltb top key ≡ y → ltb x (cond (y && true) key top) ≡ (ltb x top || ltb x key)
    go true e =
        let l = ltb-true top key e in
        test_ext (ltb x key) (ltb x top || ltb x key) (λ q. rw q (or-true (ltb x top))) (λ q. higher (ltb x top) refl q l)
      where
        higher : (z : Bool) → ltb x top ≡ z → (z || ltb x key) ≡ true → top < key → ltb x key ≡ true
        higher true f q k = let m = ltb-true x top f in lt-ltb x key (omega arith)
        higher false f q k = q
    go false e =
        let l = ltb-false top key e in
        test_ext (ltb x top) (ltb x top || ltb x key) (λ q. rw q) (λ q. lower_one (ltb x top) refl q l)
      where
        lower_one : (z : Bool) → ltb x top ≡ z → (z || ltb x key) ≡ true → key ≤ top → ltb x top ≡ true
        lower_one true f q k = f
        lower_one false f q k = let m = ltb-true x key q in lt-ltb x top (omega arith)

module _ (s : Config) (m : ByServer Bool) (g : ByServer Held) (held : ByServer Candidate)
    (W : (i : ℕ) → (held i).stamp.writer < 256) (U : (i : ℕ) → (g i).stamp.writer < 256) where
  -- a candidate is live where its rank stays
  abbrev pub is_live_def : Candidate → Bool
  is_live_def c = ltb (count_to s.servers (lower real s m g c)) (quorum s)

  pub live-stays : (i : ℕ) → is_live_def (held i) ≡ stays s m g (rank (held i).stamp)
  unfolding stays lower
  live-stays i =
      ap (λ (n : ℕ). ltb n (quorum s))
      (count_ext s.servers (λ j. m j && below (g j).stamp (held i).stamp) (ranks_below m g (rank (held i).stamp))
      (λ j. ap (λ (b : Bool). m j && b) (below-rank (g j).stamp (held i).stamp (U j) (W i))))

  -- what holds of each listed one
  pub keep-gather : (p q : Candidate → Bool) (n : ℕ) → ((i : ℕ) → i < n → is_blank_def (held (suc i)).stamp ≡ false → p (held (suc i)) ≡ q (held (suc i)))
      → keep p (gather held n) ≡ keep q (gather held n)
  unfolding keep gather
  keep-gather p q zero h = refl
  keep-gather p q (suc n) h =
      ap (keep p) (gather_more held n) ∙ go (enters held (suc n)) refl (keep-gather p q n (λ i l. h i (omega arith))) ∙ sym
      (ap (keep q) (gather_more held n))
    where
      go : (b : Bool) → enters held (suc n) ≡ b → keep p (gather held n) ≡ keep q (gather held n)
          → keep p (cond b (gather held n ++ (held (suc n) ∷ [])) (gather held n)) ≡ keep q
          (cond b (gather held n ++ (held (suc n) ∷ [])) (gather held n))
      go true e f =
          keep_append p (gather held n) (held (suc n) ∷ [])
          ∙ rw (f, h n (omega arith) (entered held n e)) (sym (keep_append q (gather held n) (held (suc n) ∷ [])))
      go false e f = f

  pub any-gather : (p q r : Candidate → Bool) (n : ℕ) → ((i : ℕ) → is_blank_def (held (suc i)).stamp ≡ false → p (held (suc i)) ≡ q (held (suc i)))
      → any p (keep r (gather held n)) ≡ any q (keep r (gather held n))
  unfolding any keep gather
  any-gather p q r zero h = refl
  any-gather p q r (suc n) h =
      ap (λ (l : List Candidate). any p (keep r l)) (gather_more held n) ∙ go (enters held (suc n)) refl (any-gather p q r n h)
      ∙ sym (ap (λ (l : List Candidate). any q (keep r l)) (gather_more held n))
    where
      last : (b : Bool) → is_blank_def (held (suc n)).stamp ≡ false → any p (cond b (held (suc n) ∷ []) []) ≡ any q (cond b (held (suc n) ∷ []) [])
      last true e = rw (h n e)
      last false e = refl

      go : (b : Bool) → enters held (suc n) ≡ b → any p (keep r (gather held n)) ≡ any q (keep r (gather held n))
          → any p (keep r (cond b (gather held n ++ (held (suc n) ∷ [])) (gather held n))) ≡ any q
          (keep r (cond b (gather held n ++ (held (suc n) ∷ [])) (gather held n)))
      go true e f =
          rw (
            keep_append r (gather held n) (held (suc n) ∷ []),
            any_append p (keep r (gather held n)) (keep r (held (suc n) ∷ [])),
            any_append q
                (keep r (gather held n)) (keep r (held (suc n) ∷ [])),
            f,
          )
          (ap (λ (b : Bool). any q (keep r (gather held n)) || b) (last (r (held (suc n))) (entered held n e)))
      go false e f = f

  -- ---- the highest rank

  raised-most : (c : Candidate) (x : ℕ) → x ≤ raised s m g c x
  unfolding raised
  raised-most c x = go (ltb x (rank c.stamp)) refl (stays s m g (rank c.stamp))
    where
      go : (b : Bool) → ltb x (rank c.stamp) ≡ b → (d : Bool) → x ≤ cond (b && d) (rank c.stamp) x
      go true e true = let l = ltb-true x (rank c.stamp) e in omega arith
      go true e false = omega arith
      go false e d = omega arith

  pub top_least : (n : ℕ) → blank_rank ≤ top_rank s m g held n
  unfolding top_rank
  top_least zero = omega arith
  top_least (suc n) = omega (arith, top_least n, raised-most (held (suc n)) (top_rank s m g held n))

  -- no candidate that stays has a higher one
  pub top-most : (n i : ℕ) → i < n → stays s m g (rank (held (suc i)).stamp) ≡ true → rank (held (suc i)).stamp ≤ top_rank s m g held n
  unfolding top_rank raised
  top-most zero i l e = absurd (omega arith)
  top-most (suc n) i l e = go (eqb i n) refl (top-most n i)
    where
      last : rank (held (suc n)).stamp ≤ cond (ltb (top_rank s m g held n) (rank (held (suc n)).stamp) && true) (rank (held (suc n)).stamp)
          (top_rank s m g held n)
      last = here (ltb (top_rank s m g held n) (rank (held (suc n)).stamp)) refl
        where
          here : (b : Bool) → ltb (top_rank s m g held n) (rank (held (suc n)).stamp) ≡ b
              → rank (held (suc n)).stamp ≤ cond (b && true) (rank (held (suc n)).stamp) (top_rank s m g held n)
          here true q = omega arith
          here false q = ltb-false (top_rank s m g held n) (rank (held (suc n)).stamp) q

      go : (b : Bool) → eqb i n ≡ b → (i < n → stays s m g (rank (held (suc i)).stamp) ≡ true → rank (held (suc i)).stamp ≤ top_rank s m g held n)
          → rank (held (suc i)).stamp ≤ raised s m g (held (suc n)) (top_rank s m g held n)
      go true q f =
          let z : i ≡ n = eqb-true i n q in
          subst (λ (j : ℕ). rank (held (suc j)).stamp ≤ raised s m g (held (suc n)) (top_rank s m g held n)) (sym z)
          (rw (subst (λ (j : ℕ). stays s m g (rank (held (suc j)).stamp) ≡ true) z e) last)
      go false q f =
          let d = eqb-false i n q in
          let k = f (omega arith) e in
          omega (arith, raised-most (held (suc n)) (top_rank s m g held n))

  pub top-stays : (n : ℕ) → blank_rank < top_rank s m g held n → stays s m g (top_rank s m g held n) ≡ true
  unfolding top_rank raised
  top-stays zero h = absurd (omega arith)
  top-stays (suc n) h = go (ltb (top_rank s m g held n) (rank (held (suc n)).stamp)) (stays s m g (rank (held (suc n)).stamp)) refl (top-stays n) h
    where
      go : (b d : Bool) → stays s m g (rank (held (suc n)).stamp) ≡ d → (blank_rank < top_rank s m g held n → stays s m g (top_rank s m g held n) ≡
          true)
          → blank_rank < cond (b && d) (rank (held (suc n)).stamp) (top_rank s m g held n)
          → stays s m g (cond (b && d) (rank (held (suc n)).stamp) (top_rank s m g held n)) ≡ true
      go true true e f k = e
      go true false e f k = f k
      go false d e f k = f k
