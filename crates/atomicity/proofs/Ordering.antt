-- From "who ended before another began has the lower key" and "a read's write is the last one below it" to the one order: the calls that
-- count, sorted by key.
-- Assumes nothing.
use mathlib.Core.Path.{◌≡◌, refl, sym, ap, ◌∙◌, subst}
use mathlib.Core.Bool.{Bool, true, false, cond}
use mathlib.Core.List.{List, [], ◌∷◌, map}
use mathlib.Core.Option.{Option, none, some}
use mathlib.Core.Logic.{◌⊎◌, inl, inr}
use Prim.Native.Nat.{ℕ, ◌≤◌}
use Rattle.protocol.specs.Rules.{keep}
use Rattle.atomicity.specs.Page41.{earlier_own, Sourced}
use Rattle.atomicity.specs.Lists.{All, In, AllPairs, Perm, nil, skip, swap, trans}
use Rattle.atomicity.specs.Claim.{Logged, before, counted, holds, Replay, OneOrder}
use Rattle.atomicity.proofs.Util.{no_some, all_in, all_map, in_map}
use Rattle.atomicity.proofs.Sorting.{sort, perm_sort, all_sort, sort_sorted}
use Rattle.cluster.proofs.Tests.{untrue}

pub in_perm : {A : Type 0} {xs ys : List A} → Perm xs ys → (x : A) → In x ys → In x xs
unfolding In
in_perm nil x i = i
in_perm (skip y p) x (inl e) = inl e
in_perm (skip y p) x (inr i) = inr (in_perm p x i)
in_perm (swap y z xs) x (inl e) = inr (inl e)
in_perm (swap y z xs) x (inr (inl e)) = inl e
in_perm (swap y z xs) x (inr (inr i)) = inr (inr i)
in_perm (trans p q) x i = in_perm p x (in_perm q x i)

pub perm-sym : {A : Type 0} {xs ys : List A} → Perm xs ys → Perm ys xs
perm-sym nil = nil
perm-sym (skip x p) = skip x (perm-sym p)
perm-sym (swap x y xs) = swap y x xs
perm-sym (trans p q) = trans (perm-sym q) (perm-sym p)

perm-map : {A B : Type 0} (f : A → B) {xs ys : List A} → Perm xs ys → Perm (map f xs) (map f ys)
perm-map f nil = nil
perm-map f (skip x p) = skip (f x) (perm-map f p)
perm-map f (swap x y xs) = swap (f x) (f y) (map f xs)
perm-map f (trans p q) = trans (perm-map f p) (perm-map f q)

-- the complete round of call w had begun when call c ended
abbrev pub ReachedBy : Logged → Logged → Type 0
ReachedBy w c = (n : ℕ) × (e : ℕ) × (w.reached ≡ some n) × (c.over ≡ some e) × (n ≤ e)

-- no write stands ahead of one that its client had begun before it
abbrev pub InTurn : List Logged → Type 0
InTurn order = AllPairs (λ a b. earlier_own b a ≡ false) order

module _ {A : Type 0} (call : A → Logged) (less : A → A → Bool)
    (chain : (a b c : A) → less a b ≡ true → less b c ≡ true → less a c ≡ true)
    (asym : (a b : A) → less a b ≡ true → less b a ≡ true → ⊥) where
  -- no write of cs stands below r
  unfoldable pub Clear : List A → A → Type 0
  Clear cs r = (w : A) (v : List ℕ) → In w cs → (call w).wrote ≡ some v → less w r ≡ true → ⊥

  -- w, with the content v, is the last write of cs below r
  unfoldable pub Last : List A → A → A → List ℕ → Type 0
  Last cs r w v = In w cs × ((call w).wrote ≡ some v) × (less w r ≡ true) ×
      ((x : A) (u : List ℕ) → In x cs → (call x).wrote ≡ some u → less x r ≡ true → less w x ≡ true → ⊥)

  -- what the read r gives is explained by the register's content m and the calls cs to come
  unfoldable pub Explained : Option (List ℕ) → List A → A → Type 0
  Explained m cs r = (((call r).answer ≡ m) × Clear cs r) ⊎ ((w : A) × (v : List ℕ) × ((call r).answer ≡ some v) × Last cs r w v)

  pub Sorted : List A → Type 0
  Sorted cs = AllPairs (λ a b. less a b ≡ true) cs

  unfoldable pub Reads : Option (List ℕ) → List A → Type 0
  Reads m cs = (r : A) → In r cs → (call r).wrote ≡ none → Explained m cs r

  -- a read in front leaves the explanations of the others
  past_read : (m : Option (List ℕ)) (c : A) (cs : List A) → (call c).wrote ≡ none → Reads m (c ∷ cs) → Reads m cs
  unfolding Reads Explained Clear Last In
  past_read m c cs e h r i n = go (h r (inr i) n)
    where
      go : Explained m (c ∷ cs) r → Explained m cs r
      go (inl p) = inl (p.0, λ w v k. p.1 w v (inr k))
      go (inr p) = keep_it p.3.0
        where
          keep_it : In p.0 (c ∷ cs) → Explained m cs r
          keep_it (inl q) = absurd (no_some (sym e ∙ ap (λ (x : A). (call x).wrote) (sym q) ∙ p.3.1))
          keep_it (inr k) = inr (p.0, p.1, p.2, (k, p.3.1, p.3.2, λ x u j. p.3.3 x u (inr j)))

  past_write : (m : Option (List ℕ)) (c : A) (v : List ℕ) (cs : List A) → (call c).wrote ≡ some v → Sorted (c ∷ cs) → Reads m (c ∷ cs) →
      Reads (some v) cs
  unfolding Reads Explained Clear Last In Sorted AllPairs
  past_write m c v cs e s h r i n = go (h r (inr i) n)
    where
      ahead : (x : A) → In x cs → less c x ≡ true
      ahead = all_in (λ x. less c x ≡ true) cs s.0

      go : Explained m (c ∷ cs) r → Explained (some v) cs r
      go (inl p) = absurd (p.1 c v (inl refl) e (ahead r i))
      go (inr p) = keep_it p.3.0
        where
          keep_it : In p.0 (c ∷ cs) → Explained (some v) cs r
          keep_it (inl q) = inl (
            p.2 ∙ sym p.3.1 ∙ ap (λ (x : A). (call x).wrote) q ∙ e,
            λ x u k l b. p.3.3 x u (inr k) l b (subst (λ (y : A). less y x ≡ true) (sym q) (ahead x k)),
          )
          keep_it (inr k) = inr (p.0, p.1, p.2, (k, p.3.1, p.3.2, λ x u j. p.3.3 x u (inr j)))

  pub replays : (m : Option (List ℕ)) (cs : List A) → Sorted cs → Reads m cs → Replay m (map call cs)
  unfolding Replay Sorted AllPairs Explained Clear Last In Reads
  replays m [] s h = tt
  replays m (c ∷ cs) s h = go (call c).wrote refl
      (λ e. replays m cs s.1 (past_read m c cs e h)) (λ v e. replays (some v) cs s.1 (past_write m c v cs e s h))
    where
      mine : (call c).wrote ≡ none → Explained m (c ∷ cs) c → (call c).answer ≡ m
      mine e (inl p) = p.0
      mine e (inr p) = absurd (here p.3.0)
        where
          here : In p.0 (c ∷ cs) → ⊥
          here (inl q) = no_some (sym e ∙ ap (λ (x : A). (call x).wrote) (sym q) ∙ p.3.1)
          here (inr k) = asym c p.0 (all_in (λ x. less c x ≡ true) cs s.0 p.0 k) p.3.2

      go : (o : Option (List ℕ)) → (call c).wrote ≡ o → ((call c).wrote ≡ none → Replay m (map call cs)) →
          ((v : List ℕ) → (call c).wrote ≡ some v → Replay (some v) (map call cs)) →
          ((call c).wrote ≡ none → (call c).answer ≡ m) × Replay (holds m o) (map call cs)
      go none e f g = (λ q. mine q (h c (inl refl) q), f e)
      go (some v) e f g = (λ q. absurd (no_some (sym q ∙ e)), g v e)

  -- where a relation goes with the order, whoever stands ahead in a sorted list does not come after by it
  pub timely : (R : Logged → Logged → Bool) (cs : List A) → ((a b : A) → In a cs → In b cs → R (call a) (call b) ≡ true → less a b ≡ true) →
      Sorted cs → AllPairs (λ a b. R b a ≡ false) (map call cs)
  unfolding Sorted AllPairs In All
  timely R [] t s = tt
  timely R (c ∷ cs) t s = (each cs (λ x i. i) s.0, timely R cs (λ a b i j. t a b (inr i) (inr j)) s.1)
    where
      each : (xs : List A) → ((x : A) → In x xs → In x cs) → All (λ x. less c x ≡ true) xs → All (λ x. R x (call c) ≡ false) (map call xs)
      each [] sub h = tt
      each (x ∷ xs) sub h = (
        untrue (R (call x) (call c)) (λ b. asym c x h.0 (t x c (inr (sub x (inl refl))) (inl refl) b)),
        each xs (λ y i. sub y (inr i)) h.1,
      )

  -- membership in the sorted list, both ways
  all_self : (xs : List A) → All (λ x. In x xs) xs
  unfolding All In
  all_self [] = tt
  all_self (x ∷ xs) = (inl refl, all_map (λ y. In y xs) (λ y. In y (x ∷ xs)) (λ y i. inr i) xs (all_self xs))

  from_sort : (xs : List A) (x : A) → In x (sort less xs) → In x xs
  from_sort xs x i = all_in (λ y. In y xs) (sort less xs) (all_sort less (λ y. In y xs) xs (all_self xs)) x i

  into_sort : (xs : List A) (x : A) → In x xs → In x (sort less xs)
  into_sort xs x i = in_perm (perm_sort less xs) x i

  reads_sort : (m : Option (List ℕ)) (xs : List A) → Reads m xs → Reads m (sort less xs)
  unfolding Reads Explained Clear Last
  reads_sort m xs h r i n = go (h r (from_sort xs r i) n)
    where
      go : Explained m xs r → Explained m (sort less xs) r
      go (inl p) = inl (p.0, λ w v k. p.1 w v (from_sort xs w k))
      go (inr p) = inr (p.0, p.1, p.2, (into_sort xs p.0 p.3.0, p.3.1, p.3.2, λ x u j. p.3.3 x u (from_sort xs x j)))

  -- the calls that count
  abbrev pub count_in_lem : List A → List A
  count_in_lem cs = keep (λ a. counted (call a)) cs

  keep-call : (cs : List A) → keep counted (map call cs) ≡ map call (count_in_lem cs)
  unfolding keep
  keep-call [] = refl
  keep-call (c ∷ cs) = go (counted (call c)) (keep-call cs)
    where
      go : (b : Bool) → keep counted (map call cs) ≡ map call (count_in_lem cs) →
          cond b (call c ∷ keep counted (map call cs)) (keep counted (map call cs)) ≡ map call (cond b (c ∷ count_in_lem cs) (count_in_lem cs))
      go true e = ap (λ (l : List Logged). call c ∷ l) e
      go false e = e

  -- whatever a read gave was written by a write below it, in time
  abbrev pub Sources : List A → Type 0
  Sources cs = (r : A) → In r cs → (v : List ℕ) → (call r).wrote ≡ none → (call r).answer ≡ some v →
      (w : A) × In w cs × (less w r ≡ true) × ((call w).wrote ≡ some v) × ReachedBy (call w) (call r)

  -- who stands below a call in a sorted list stands ahead of it
  sourced : (ahead cs : List A) → Sorted cs →
      ((r : A) → In r cs → (v : List ℕ) → (call r).wrote ≡ none → (call r).answer ≡ some v →
      (w : A) × (In w ahead ⊎ In w cs) × (less w r ≡ true) × ((call w).wrote ≡ some v) × ReachedBy (call w) (call r)) →
      Sourced (map call ahead) (map call cs)
  unfolding Sorted AllPairs Sourced In
  sourced ahead [] s h = tt
  sourced ahead (c ∷ cs) s h = (mine, sourced (c ∷ ahead) cs s.1 later)
    where
      mine : (v : List ℕ) → (call c).wrote ≡ none → (call c).answer ≡ some v →
          (w : Logged) × In w (map call ahead) × (w.wrote ≡ some v) × ReachedBy w (call c)
      mine v n a = let k = h c (inl refl) v n a in (call k.0, in_map call ahead k.0 (place k.0 k.2 k.1), k.3, k.4)
        where
          place : (w : A) → less w c ≡ true → In w ahead ⊎ In w (c ∷ cs) → In w ahead
          place w l (inl i) = i
          place w l (inr (inl e)) = absurd (asym c c (subst (λ (z : A). less z c ≡ true) e l) (subst (λ (z : A). less z c ≡ true) e l))
          place w l (inr (inr i)) = absurd (asym c w (all_in (λ x. less c x ≡ true) cs s.0 w i) l)

      later : (r : A) → In r cs → (v : List ℕ) → (call r).wrote ≡ none → (call r).answer ≡ some v →
          (w : A) × (In w (c ∷ ahead) ⊎ In w cs) × (less w r ≡ true) × ((call w).wrote ≡ some v)
          × ReachedBy (call w) (call r)
      later r i v n a = let k = h r (inr i) v n a in (k.0, move k.0 k.1, k.2, k.3, k.4)
        where
          move : (w : A) → In w ahead ⊎ In w (c ∷ cs) → In w (c ∷ ahead) ⊎ In w cs
          move w (inl i) = inl (inr i)
          move w (inr (inl e)) = inl (inl e)
          move w (inr (inr i)) = inr i

  -- the one order, from five facts about the calls that count
  pub one-order : (cs : List A) →
      AllPairs (λ a b. (less a b ≡ true) ⊎ (less b a ≡ true)) (count_in_lem cs) →
      ((a b : A) → In a (count_in_lem cs) → In b (count_in_lem cs) → before (call a) (call b) ≡ true → less a b ≡ true) →
      ((a b : A) → In a (count_in_lem cs) → In b (count_in_lem cs) → earlier_own (call a) (call b) ≡ true → less a b ≡ true) →
      Reads none (count_in_lem cs) → Sources (count_in_lem cs) → (o : OneOrder (map call cs)) × (Sourced [] o.order × InTurn o.order)
  unfolding Sorted
  one-order cs apart fits turns reads sources =
      let xs = count_in_lem cs in
      let o = sort_sorted less chain xs apart in (
        record {
          order = map call (sort less xs);
          exact = subst (Perm (map call (sort less xs))) (sym (keep-call cs)) (perm-map call (perm_sort less xs));
          time = timely before (sort less xs) (λ a b i j. fits a b (from_sort xs a i) (from_sort xs b j)) o;
          legal = replays none (sort less xs) o (reads_sort none xs reads);
        },
        (
          sourced [] (sort less xs) o
              (λ r i v w a. let k = sources r (from_sort xs r i) v w a in (k.0, inr (into_sort xs k.0 k.1), k.2, k.3, k.4)),
          timely earlier_own (sort less xs) (λ a b i j. turns a b (from_sort xs a i) (from_sort xs b j)) o,
        ),
      )
