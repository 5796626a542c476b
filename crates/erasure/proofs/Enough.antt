-- Where k different servers are among those given, k are chosen: while there is room, each server given is among the chosen ones, and
-- different servers that are all among fewer than k cannot be k. Nothing is assumed.
use mathlib.Core.Path.{◌≡◌, refl, sym, ap, subst, ◌∙◌}
use mathlib.Core.Logic.{◌≢◌}
use mathlib.Core.Bool.{Bool, true, false, cond, ◌||◌, true≢false}
use mathlib.Core.List.{List, [], ◌∷◌, ◌++◌}
use Prim.Native.Nat.{ℕ, zero, suc, ◌<◌, ◌≤◌, suc-le-suc, zero-le}
use native.Mathlib.Nat.{zero-lt-suc, le_of_suc-le-suc, not-suc-le-zero}
use native.Mathlib.Decide.{ℕ_discrete, dec_lt}
use native.Mathlib.Omega.{arith}
use borrow.Author.Tests.{eqb-true, ltb-false}
use lib.Arith.{lt_of_le-ne}
use lib.Dec.{eqb, ltb}
use lib.ListN.{length, get_or, length-append, length-map}
use lib.Seq.{get_or-append_seam}
use Rattle.gf256.proofs.Apart.{Distinct, apart_at}
use Rattle.erasure.specs.Choice.{among, more, picked, servers_at, first_different}
use Rattle.erasure.proofs.Choosing.{among-found, map_snoc}

-- ---- a list without the first d

without : ℕ → List ℕ → List ℕ
without d [] = []
without d (x ∷ xs) = cond (eqb x d) xs (x ∷ without d xs)

length_without : (d : ℕ) (xs : List ℕ) → among d xs ≡ true → suc (length (without d xs)) ≡ length xs
unfolding among without
length_without d [] e = absurd (true≢false (sym e))
length_without d (x ∷ xs) e = go (eqb x d) e (length_without d xs)
  where
    go : (b : Bool) → (b || among d xs) ≡ true → (among d xs ≡ true → suc (length (without d xs)) ≡ length xs)
        → suc (length (cond b xs (x ∷ without d xs))) ≡ suc (length xs)
    go true h k = refl
    go false h k = ap suc (k h)

among_without : (d s : ℕ) (xs : List ℕ) → s ≢ d → among s xs ≡ true → among s (without d xs) ≡ true
unfolding among without
among_without d s [] ne e = e
among_without d s (x ∷ xs) ne e = go (eqb x d) (eqb x s) refl refl e (among_without d s xs ne)
  where
    go : (b c : Bool) → eqb x d ≡ b → eqb x s ≡ c → (c || among s xs) ≡ true → (among s xs ≡ true → among s (without d xs) ≡ true)
        → among s (cond b xs (x ∷ without d xs)) ≡ true
    go true true p q h k = absurd (ne (sym (eqb-true x s q) ∙ eqb-true x d p))
    go true false p q h k = h
    go false true p q h k = ap (λ t. t || among s (without d xs)) q
    go false false p q h k = ap (λ t. t || among s (without d xs)) q ∙ k h

-- different numbers that are all among xs are not more than xs
few : (ds xs : List ℕ) → Distinct ds → ((i : ℕ) → i < length ds → among (get_or ds i 0) xs ≡ true) → length ds ≤ length xs
few [] xs d h = zero-le
few (x ∷ ds) xs d h =
    let e : suc (length (without x xs)) ≡ length xs = length_without x xs (h 0 (zero-lt-suc (length ds))) in
    let k : length ds ≤ length (without x xs) =
    few ds (without x xs) d.1 (λ i b. among_without x (get_or ds i 0) xs (λ q. apart_at 0 x ds d.0 i b (sym q)) (h (suc i) (suc-le-suc b))) in
    omega (arith, e, k)

-- ---- while there is room, all are among the chosen

among_left : (s : ℕ) (xs ys : List ℕ) → among s xs ≡ true → among s (xs ++ ys) ≡ true
unfolding among
among_left s [] ys e = absurd (true≢false (sym e))
among_left s (x ∷ xs) ys e = go (eqb x s) e (among_left s xs ys)
  where
    go : (b : Bool) → (b || among s xs) ≡ true → (among s xs ≡ true → among s (xs ++ ys) ≡ true) → (b || among s (xs ++ ys)) ≡ true
    go true h k = refl
    go false h k = k h

among_last : (s : ℕ) (xs : List ℕ) → among s (xs ++ (s ∷ [])) ≡ true
among_last s xs = among-found s (xs ++ (s ∷ [])) (length xs) (omega (arith, length-append xs (s ∷ []))) (get_or-append_seam xs s [] 0)

step : (k : ℕ) (ss ps : List ℕ) (i : ℕ) (room held : Bool) → ltb (length ps) k ≡ room → among (get_or ss i 0) (servers_at ss ps) ≡ held
    → (length ps < k → (j : ℕ) → j < i → among (get_or ss j 0) (servers_at ss ps) ≡ true)
    → length (more room held ps i) < k → (j : ℕ) → j < suc i → among (get_or ss j 0) (servers_at ss (more room held ps i)) ≡ true
step k ss ps i false held r m ih l j h = absurd (omega (arith, ltb-false (length ps) k r))
step k ss ps i true true r m ih l j h = go (ℕ_discrete j i)
  where
    go : Dec (j ≡ i) → among (get_or ss j 0) (servers_at ss ps) ≡ true
    go (yes e) = ap (λ (x : ℕ). among (get_or ss x 0) (servers_at ss ps)) e ∙ m
    go (no ne) = ih l j (lt_of_le-ne (le_of_suc-le-suc h) ne)
step k ss ps i true false r m ih l j h = subst (λ (xs : List ℕ). among (get_or ss j 0) xs ≡ true) (sym (map_snoc (λ p. get_or ss p 0) ps i))
    (go (ℕ_discrete j i))
  where
    go : Dec (j ≡ i) → among (get_or ss j 0) (servers_at ss ps ++ (get_or ss i 0 ∷ [])) ≡ true
    go (yes e) = ap (λ (x : ℕ). among (get_or ss x 0) (servers_at ss ps ++ (get_or ss i 0 ∷ []))) e ∙ among_last (get_or ss i 0) (servers_at ss ps)
    go (no ne) =
        among_left (get_or ss j 0) (servers_at ss ps) (get_or ss i 0 ∷ []) (ih (omega (arith, length-append ps (i ∷ []))) j
        (lt_of_le-ne (le_of_suc-le-suc h) ne))

all_among : (k : ℕ) (ss : List ℕ) (i : ℕ) → length (picked k ss i) < k → (j : ℕ) → j < i → among (get_or ss j 0) (servers_at ss (picked k ss i)) ≡
    true
unfolding picked
all_among k ss zero l j h = absurd (not-suc-le-zero h)
all_among k ss (suc i) l j h =
    step k ss (picked k ss i) i (ltb (length (picked k ss i)) k) (among (get_or ss i 0) (servers_at ss (picked k ss i))) refl refl
    (all_among k ss i) l j h

-- d stands somewhere in ss
abbrev pub Stands : ℕ → List ℕ → Type 0
Stands d ss = (i : ℕ) × (i < length ss) × (get_or ss i 0 ≡ d)

pub enough : (k : ℕ) (ss ds : List ℕ) → Distinct ds → k ≤ length ds → ((i : ℕ) → i < length ds → Stands (get_or ds i 0) ss)
    → k ≤ length (first_different k ss)
unfolding first_different
enough k ss ds d l at = go (dec_lt (length ps) k)
  where
    ps : List ℕ
    ps = picked k ss (length ss)

    go : Dec (length ps < k) → k ≤ length ps
    go (no n) = omega arith
    go (yes h) = absurd
        (let m : length ds ≤ length (servers_at ss ps) =
        few ds (servers_at ss ps) d
        (λ i b.
        let (p, q, e) = at i b in
        subst (λ (x : ℕ). among x (servers_at ss ps) ≡ true) e (all_among k ss (length ss) h p q)) in
        omega (arith, m, length-map ps (λ p. get_or ss p 0)))
