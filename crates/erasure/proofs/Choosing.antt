-- The servers that are chosen: a search through a list finds what stands in it; the chosen places stand in the list given and are at most k, and
-- their servers are all different, since a server joins only where there is room and it is not held. Nothing is assumed.
use mathlib.Core.Path.{◌≡◌, refl, sym, ap, subst, ◌∙◌}
use mathlib.Core.Logic.{◌≢◌}
use mathlib.Core.Bool.{Bool, true, false, ◌||◌, true≢false, or-true}
use mathlib.Core.List.{List, [], ◌∷◌, ◌++◌, map}
use Prim.Native.Nat.{ℕ, zero, suc, ◌+◌, ◌<◌, ◌≤◌, suc-le-suc, zero-le}
use native.Mathlib.Nat.{zero-lt-suc, le_of_suc-le-suc, not-suc-le-zero}
use native.Mathlib.Decide.{ℕ_discrete, dec_lt}
use native.Mathlib.Omega.{arith}
use native.Mathlib.Numerals.{add-one}
use borrow.Author.Tests.{eq-eqb, ne_eqb, lt-ltb, le-ltb, ltb-true}
use lib.Arith.{lt_of_le-ne}
use lib.Dec.{eqb, ltb}
use lib.ListN.{length, get_or, set, take, length-append, get_or-append}
use lib.Seq.{get_or-append_seam, take-suc-set}
use Rattle.std.specs.List.{list_any}
use Rattle.erasure.specs.Choice.{among, picked, more, servers_at}

pub among-found : (b : ℕ) (xs : List ℕ) (j : ℕ) → j < length xs → get_or xs j 0 ≡ b → among b xs ≡ true
unfolding among
among-found b [] j h e = absurd (not-suc-le-zero h)
among-found b (x ∷ xs) zero h e = ap (λ t. t || among b xs) (eq-eqb x b e)
among-found b (x ∷ xs) (suc j) h e = ap (λ t. eqb x b || t) (among-found b xs j (le_of_suc-le-suc h) e) ∙ or-true (eqb x b)

pub among_none : (b : ℕ) (xs : List ℕ) → ((i : ℕ) → i < length xs → get_or xs i 0 ≡ b → ⊥) → among b xs ≡ false
unfolding among
among_none b [] h = refl
among_none b (x ∷ xs) h = ap (λ t. t || among b xs) (ne_eqb x b (h 0 (zero-lt-suc (length xs)))) ∙ among_none b xs (λ i l. h (suc i) (suc-le-suc l))

-- the search that slices have is the same
pub any-among : (b : ℕ) (xs : List ℕ) → list_any (λ y. eqb y b) xs ≡ among b xs
unfolding among
any-among b [] = refl
any-among b (x ∷ xs) = ap (λ t. eqb x b || t) (any-among b xs)

pub map_snoc : (g : ℕ → ℕ) (ps : List ℕ) (i : ℕ) → map g (ps ++ (i ∷ [])) ≡ map g ps ++ (g i ∷ [])
map_snoc g [] i = refl
map_snoc g (p ∷ ps) i = ap (λ (t : List ℕ). g p ∷ t) (map_snoc g ps i)

-- a choice, mapped
pub more-map : (g : ℕ → ℕ) (t s : Bool) (ps : List ℕ) (i : ℕ) → map g (more t s ps i) ≡ more t s (map g ps) (g i)
more-map g true true ps i = refl
more-map g true false ps i = map_snoc g ps i
more-map g false s ps i = refl

-- a server joins an array of which the first n are chosen
pub more_joins : (n k : ℕ) (held : Bool) (xs : List ℕ) (x : ℕ) → n < k → held ≡ false → n < length xs
    → take (n + 1) (set xs n x) ≡ more (ltb n k) held (take n xs) x
more_joins n k held xs x room new h = rw (lt-ltb n k room, new) (rw add-one (take-suc-set xs n x h))

pub more_full : (n k : ℕ) (held : Bool) (xs : List ℕ) (x : ℕ) → k ≤ n → more (ltb n k) held xs x ≡ xs
more_full n k held xs x h = rw (le-ltb n k h) refl

pub more_held : (room held : Bool) (xs : List ℕ) (x : ℕ) → held ≡ true → more room held xs x ≡ xs
more_held true held xs x e = rw e refl
more_held false held xs x e = refl

-- one server more of the list is looked at, from what is chosen of those before it
pub picked_more : (k : ℕ) (ss : List ℕ) (i n : ℕ) (at servers at' servers' : List ℕ) → take n at ≡ picked k ss i
    → take n servers ≡ servers_at ss (picked k ss i) → length (picked k ss i) ≡ n
    → at' ≡ more (ltb n k) (among (get_or ss i 0) (take n servers)) (take n at) i
    → servers' ≡ more (ltb n k) (among (get_or ss i 0) (take n servers)) (take n servers) (get_or ss i 0)
    → (at' ≡ picked k ss (i + 1)) × (servers' ≡ servers_at ss (picked k ss (i + 1)))
unfolding picked
picked_more k ss i n at servers at' servers' p s l p' s' =
    rw (add-one i, l) (p' ∙ rw (s, p) refl, s' ∙ rw s (sym (more-map (λ q. get_or ss q 0) _ _ (picked k ss i) i)))

-- ---- all different

-- no two of them are equal
abbrev pub Ordered : List ℕ → Type 0
Ordered xs = (i j : ℕ) → i < j → j < length xs → get_or xs i 0 ≢ get_or xs j 0

snoc : (xs : List ℕ) (b : ℕ) → Ordered xs → among b xs ≡ false → Ordered (xs ++ (b ∷ []))
snoc xs b o n i j l h = go (ℕ_discrete j (length xs))
  where
    long : length (xs ++ (b ∷ [])) ≡ length xs + 1
    long = length-append xs (b ∷ [])

    go : Dec (j ≡ length xs) → get_or (xs ++ (b ∷ [])) i 0 ≢ get_or (xs ++ (b ∷ [])) j 0
    go (yes e) q =
        let il : i < length xs = omega arith in
        true≢false
        (sym (among-found b xs i il
        (sym (get_or-append xs (b ∷ []) 0 i il) ∙ q ∙ ap (λ (x : ℕ). get_or (xs ++ (b ∷ [])) x 0) e ∙ get_or-append_seam xs b [] 0)) ∙ n)
    go (no ne) q =
        let jl : j < length xs = lt_of_le-ne (omega (arith, long)) ne in
        let il : i < length xs = omega arith in
        o i j l jl (sym (get_or-append xs (b ∷ []) 0 i il) ∙ q ∙ get_or-append xs (b ∷ []) 0 j jl)

step : (t s : Bool) (xs : List ℕ) (b : ℕ) → among b xs ≡ s → Ordered xs → Ordered (more t s xs b)
step true true xs b e o = o
step true false xs b e o = snoc xs b o e
step false s xs b e o = o

pub chosen_ordered : (k : ℕ) (ss : List ℕ) (i : ℕ) → Ordered (servers_at ss (picked k ss i))
unfolding picked
chosen_ordered k ss zero = λ i j l h. absurd (not-suc-le-zero h)
chosen_ordered k ss (suc i) =
    let ps = picked k ss i in
    let b = get_or ss i 0 in
    let s = among b (servers_at ss ps) in
    subst Ordered (sym (more-map (λ p. get_or ss p 0) (ltb (length ps) k) s ps i)) (step (ltb (length ps) k) s (servers_at ss ps) b refl
    (chosen_ordered k ss i))

pub chosen-different : (k : ℕ) (ss : List ℕ) (n i j : ℕ) → let xs = servers_at ss (picked k ss n) in i < length xs → j < length xs → i ≢ j → get_or xs
    i 0 ≢ get_or xs j 0
chosen-different k ss n i j hi hj ne e = go (dec_lt i j)
  where
    xs : List ℕ
    xs = servers_at ss (picked k ss n)

    go : Dec (i < j) → ⊥
    go (yes l) = chosen_ordered k ss n i j l hj e
    go (no nl) = chosen_ordered k ss n j i (lt_of_le-ne (omega arith) (λ q. ne (sym q))) hi (sym e)

-- ---- the places stand in the list

more_lt : (a b : Bool) (ps : List ℕ) (i : ℕ) → ((j : ℕ) → j < length ps → get_or ps j 0 < i) → (j : ℕ) → j < length (more a b ps i) → get_or
    (more a b ps i) j 0 < suc i
more_lt true true ps i h j l = omega (arith, h j l)
more_lt false b ps i h j l = omega (arith, h j l)
more_lt true false ps i h j l = go (dec_lt j (length ps))
  where
    go : Dec (j < length ps) → get_or (ps ++ (i ∷ [])) j 0 < suc i
    go (yes b) = let e : get_or (ps ++ (i ∷ [])) j 0 ≡ get_or ps j 0 = get_or-append ps (i ∷ []) 0 j b in omega (arith, h j b, e)
    go (no nb) =
        let q : j ≡ length ps = omega (arith, length-append ps (i ∷ [])) in
        let e : get_or (ps ++ (i ∷ [])) j 0 ≡ i = ap (λ (x : ℕ). get_or (ps ++ (i ∷ [])) x 0) q ∙ get_or-append_seam ps i [] 0 in
        omega (arith, e)

pub chosen-lt : (k : ℕ) (ss : List ℕ) (i j : ℕ) → j < length (picked k ss i) → get_or (picked k ss i) j 0 < i
unfolding picked
chosen-lt k ss zero j h = absurd (not-suc-le-zero h)
chosen-lt k ss (suc i) j h =
    more_lt (ltb (length (picked k ss i)) k) (among (get_or ss i 0) (map (λ p. get_or ss p 0) (picked k ss i))) (picked k ss i) i (chosen-lt k ss i)
    j h

-- ---- and are at most k

more-most : (k : ℕ) (room held : Bool) (ps : List ℕ) (i : ℕ) → ltb (length ps) k ≡ room → length ps ≤ k → length (more room held ps i) ≤ k
more-most k true true ps i e h = h
more-most k true false ps i e h = omega (arith, ltb-true (length ps) k e, length-append ps (i ∷ []))
more-most k false held ps i e h = h

pub chosen-most : (k : ℕ) (ss : List ℕ) (i : ℕ) → length (picked k ss i) ≤ k
unfolding picked
chosen-most k ss zero = zero-le
chosen-most k ss (suc i) =
    more-most k (ltb (length (picked k ss i)) k) (among (get_or ss i 0) (servers_at ss (picked k ss i))) (picked k ss i) i refl (chosen-most k ss i)
