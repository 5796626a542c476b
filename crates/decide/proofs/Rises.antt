-- The servers of a group rise, so they are all different, and restoring uses all of them in order: by induction on the servers and on the places.
-- Nothing is assumed.
use mathlib.Core.Path.{◌≡◌, refl, sym, ap, ◌∙◌}
use mathlib.Core.Bool.{Bool, true, false, cond, ◌||◌}
use mathlib.Core.List.{List, [], ◌∷◌, ◌++◌, map, append-nil, map-append}
use Prim.Native.Nat.{ℕ, zero, suc, ◌*◌, ◌≤◌, ◌<◌}
use native.Mathlib.Omega.{arith}
use lib.Dec.{ltb, eqb}
use lib.ListN.{get_or-append, length, take, drop, get_or, length-append}
use lib.Seq.{take-length, get_or_at, get_or-take, take-suc}
use borrow.Author.Tests.{ltb-true, ltb-false, lt-ltb, le-leb, ne_eqb}
use Rattle.cluster.specs.Config.{shelf}
use Rattle.cluster.specs.Ranges.{within}
use Rattle.erasure.specs.Fragments.{Part}
use Rattle.protocol.specs.Rules.{ByServer}
use Rattle.erasure.specs.Choice.{among, picked, first_different, parts_at}
use Rattle.erasure.specs.Steps.{each}
use Rattle.decide.specs.Steps.{servers_of_def, Rising}

-- ---- the list of marked servers

servers_in : (m : ByServer Bool) (n i : ℕ) → i < length (servers_of_def n m) → (1 ≤ get_or (servers_of_def n m) i 0) × (get_or (servers_of_def n m) i 0 ≤ n)
unfolding servers_of_def
servers_in m zero i h = absurd (omega arith)
servers_in m (suc n) i h = go (m (suc n)) h (servers_in m n i)
  where
    go : (b : Bool) → i < length (servers_of_def n m ++ cond b (suc n ∷ []) []) → (i < length (servers_of_def n m) → (1 ≤ get_or (servers_of_def n m) i 0) ×
        (get_or (servers_of_def n m) i 0 ≤ n))
        → (1 ≤ get_or (servers_of_def n m ++ cond b (suc n ∷ []) []) i 0) × (get_or (servers_of_def n m ++ cond b (suc n ∷ []) []) i 0 ≤ suc n)
    go false l f = rw append-nil (let w = f (omega (arith, ap length (append-nil (servers_of_def n m)))) in (w.0, omega (arith, w.1)))
    go true l f = last (ltb i (length (servers_of_def n m))) refl
      where
        last : (y : Bool) → ltb i (length (servers_of_def n m)) ≡ y
            → (1 ≤ get_or (servers_of_def n m ++ (suc n ∷ [])) i 0) × (get_or (servers_of_def n m ++ (suc n ∷ [])) i 0 ≤ suc n)
        last true q =
            let k = ltb-true i (length (servers_of_def n m)) q in
            let w = f k in
            rw (get_or-append (servers_of_def n m) (suc n ∷ []) 0 i k) (w.0, omega (arith, w.1))
        last false q =
            let k = ltb-false i (length (servers_of_def n m)) q in
            let e : length (servers_of_def n m) ≡ i = omega (arith, length-append (servers_of_def n m) (suc n ∷ [])) in
            rw (get_or_at (servers_of_def n m) (suc n) [] 0 i e) (omega arith, omega arith)

servers_rise : (m : ByServer Bool) (n i j : ℕ) → i < j → j < length (servers_of_def n m) → get_or (servers_of_def n m) i 0 < get_or (servers_of_def n m) j 0
unfolding servers_of_def
servers_rise m zero i j l h = absurd (omega arith)
servers_rise m (suc n) i j l h = go (m (suc n)) h (servers_rise m n i j l)
  where
    go : (b : Bool) → j < length (servers_of_def n m ++ cond b (suc n ∷ []) []) → (j < length (servers_of_def n m) → get_or (servers_of_def n m) i 0 < get_or
        (servers_of_def n m) j 0)
        → get_or (servers_of_def n m ++ cond b (suc n ∷ []) []) i 0 < get_or (servers_of_def n m ++ cond b (suc n ∷ []) []) j 0
    go false k f = rw append-nil (f (omega (arith, ap length (append-nil (servers_of_def n m)))))
    go true k f = last (ltb j (length (servers_of_def n m))) refl
      where
        last : (y : Bool) → ltb j (length (servers_of_def n m)) ≡ y → get_or (servers_of_def n m ++ (suc n ∷ [])) i 0 < get_or (servers_of_def n m ++ (suc n ∷ [])) j 0
        last true q =
            let a = ltb-true j (length (servers_of_def n m)) q in
            rw (get_or-append (servers_of_def n m) (suc n ∷ []) 0 i (omega arith), get_or-append (servers_of_def n m) (suc n ∷ []) 0 j a) (f a)
        last false q =
            let a = ltb-false j (length (servers_of_def n m)) q in
            let e : length (servers_of_def n m) ≡ j = omega (arith, length-append (servers_of_def n m) (suc n ∷ [])) in
            let w = servers_in m n i (omega arith) in
            rw (get_or-append (servers_of_def n m) (suc n ∷ []) 0 i (omega arith), get_or_at (servers_of_def n m) (suc n) [] 0 j e) (omega (arith, w.1))

-- an array that begins with enough of them
pub members_rise : (t : ℕ) (m : ByServer Bool) (servers : List ℕ) → take (shelf t).threshold servers ≡ take (shelf t).threshold
    (servers_of_def (shelf t).servers m)
    → (shelf t).threshold ≤ length (servers_of_def (shelf t).servers m) → Rising t servers
members_rise t m servers e k =
    let g : (i : ℕ) → i < (shelf t).threshold → get_or servers i 0 ≡ get_or (servers_of_def (shelf t).servers m) i 0 =
    λ i l. sym (get_or-take (shelf t).threshold servers i 0 l) ∙ ap (λ (z : List ℕ). get_or z i 0) e ∙ get_or-take (shelf t).threshold
    (servers_of_def (shelf t).servers m) i 0 l in
    record {
      lowest = λ i l. rw (g i l) (servers_in m (shelf t).servers i (omega arith)).0;
      highest = λ i l. rw (g i l) (servers_in m (shelf t).servers i (omega arith)).1;
      rising = λ i j l h. rw (g i (omega arith), g j h) (servers_rise m (shelf t).servers i j l (omega arith));
    }

-- ---- all of them are used, in order

-- 0, 1, .., n - 1
unfoldable pub places : ℕ → List ℕ
places zero = []
places (suc n) = places n ++ (n ∷ [])

places-length : (n : ℕ) → length (places n) ≡ n
unfolding places
places-length zero = refl
places-length (suc n) = omega (arith, length-append (places n) (n ∷ []), places-length n)

among-append : (s : ℕ) (xs ys : List ℕ) → among s (xs ++ ys) ≡ (among s xs || among s ys)
unfolding among
among-append s [] ys = refl
among-append s (x ∷ xs) ys = go (eqb x s) (among-append s xs ys)
  where
    go : (b : Bool) → among s (xs ++ ys) ≡ (among s xs || among s ys) → (b || among s (xs ++ ys)) ≡ ((b || among s xs) || among s ys)
    go true e = refl
    go false e = e

module _ (ss : List ℕ) (rise : (i j : ℕ) → i < j → j < length ss → get_or ss i 0 < get_or ss j 0) where
  not-before : (i j : ℕ) → i ≤ j → j < length ss → among (get_or ss j 0) (map (λ p. get_or ss p 0) (places i)) ≡ false
  unfolding places among
  not-before zero j l h = refl
  not-before (suc i) j l h =
      ap (among (get_or ss j 0)) (map-append (λ p. get_or ss p 0) (places i) (i ∷ []))
      ∙ among-append (get_or ss j 0) (map (λ p. get_or ss p 0) (places i)) (get_or ss i 0 ∷ [])
      ∙ rw (not-before i j (omega arith) h, ne_eqb (get_or ss i 0) (get_or ss j 0) (λ e. let k = rise i j (omega arith) h in omega arith))

  chosen-places : (i : ℕ) → i ≤ length ss → picked (length ss) ss i ≡ places i
  unfolding picked places
  chosen-places zero h = refl
  chosen-places (suc i) h =
      rw (chosen-places i (omega arith), places-length i, lt-ltb i (length ss) (omega arith), not-before i i (omega arith) (omega arith))

  pub all-chosen : first_different (length ss) ss ≡ places (length ss)
  unfolding first_different
  all-chosen = chosen-places (length ss) (omega arith)

  pub chosen-length : length (first_different (length ss) ss) ≡ length ss
  chosen-length = ap length all-chosen ∙ places-length (length ss)

-- reading a list at all its places gives it
map-places : {B : Type 0} (h k : ℕ → B) (n : ℕ) → ((p : ℕ) → p < n → h p ≡ k p) → map h (places n) ≡ map k (places n)
unfolding places
map-places h k zero f = refl
map-places h k (suc n) f =
    map-append h (places n) (n ∷ [])
    ∙ rw (map-places h k n (λ p l. f p (omega arith)), f n (omega arith)) (sym (map-append k (places n) (n ∷ [])))

map_of : {B : Type 0} (f : ℕ → B) (ss : List ℕ) (n : ℕ) → n ≤ length ss → map (λ p. f (get_or ss p 0)) (places n) ≡ map f (take n ss)
unfolding places
map_of f ss zero h = refl
map_of f ss (suc n) h =
    map-append (λ p. f (get_or ss p 0)) (places n) (n ∷ [])
    ∙ rw (map_of f ss n (omega arith), take-suc ss n 0 (omega arith)) (sym (map-append f (take n ss) (get_or ss n 0 ∷ [])))

-- the parts at all places, where each stands
pub parts_all : (f : ℕ) (ss frs : List ℕ) (g : ℕ → Part) → ((p : ℕ) → p < length ss → record
    { server = get_or ss p 0; bytes = take f (drop (p * f) frs) } ≡ g (get_or ss p 0))
    → parts_at f ss frs (places (length ss)) ≡ map g ss
unfolding parts_at
parts_all f ss frs g h =
    map-places (λ p. record { server = get_or ss p 0; bytes = take f (drop (p * f) frs) }) (λ p. g (get_or ss p 0)) (length ss) h
    ∙ map_of g ss (length ss) (omega arith) ∙ ap (map g) (take-length ss)

pub each_within : (lo hi : ℕ) (ss : List ℕ) → ((i : ℕ) → i < length ss → (lo ≤ get_or ss i 0) × (get_or ss i 0 ≤ hi)) → each (within lo hi) ss ≡ true
unfolding each
each_within lo hi [] h = refl
each_within lo hi (x ∷ xs) h =
    rw (le-leb lo x (h 0 (omega arith)).0, le-leb x hi (h 0 (omega arith)).1) (each_within lo hi xs (λ i l. h (suc i) (omega arith)))
