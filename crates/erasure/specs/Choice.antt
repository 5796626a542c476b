-- Which fragments restoring uses (document 01): those of the first k different servers given; a server's second fragment is ignored.
use Rattle.std.specs.Prelude.{Bool, true, false, ◌||◌, List, [], ◌∷◌, ◌++◌, map, ℕ, zero, suc, ◌*◌, eqb, ltb, length, get_or, take, drop}
use Rattle.erasure.specs.Fragments.{Part}

-- s is one of xs
unfoldable pub among : ℕ → List ℕ → Bool
among s [] = false
among s (x ∷ xs) = eqb x s || among s xs

-- xs with x at its end, where there is room and it is not there yet
abbrev pub more : (room held : Bool) → List ℕ → ℕ → List ℕ
more true true xs x = xs
more true false xs x = xs ++ (x ∷ [])
more false held xs x = xs

-- the servers at these places, counted from 0
abbrev pub servers_at : List ℕ → List ℕ → List ℕ
servers_at servers places = map (λ p. get_or servers p 0) places

-- the places of the first k different servers among the first i given, in order
unfoldable pub picked : ℕ → List ℕ → ℕ → List ℕ
picked k servers zero = []
picked k servers (suc i) =
    more (ltb (length (picked k servers i)) k) (among (get_or servers i 0) (servers_at servers (picked k servers i))) (picked k servers i) i

-- the places of the first k different servers
unfoldable pub first_different : ℕ → List ℕ → List ℕ
first_different k servers = picked k servers (length servers)

-- the fragments of f bytes at these places of the fragments given, which stand one after the other
unfoldable pub parts_at : ℕ → List ℕ → List ℕ → List ℕ → List Part
parts_at f servers fragments places = map (λ p. record { server = get_or servers p 0; bytes = take f (drop (p * f) fragments) }) places
