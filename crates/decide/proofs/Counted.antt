-- Counting the servers that a test holds of, one server more at a time, and the list of them in order. Nothing is assumed.
use mathlib.Core.Path.{◌≡◌, refl, sym, ap, ◌∙◌, subst}
use mathlib.Core.Bool.{Bool, true, false, cond}
use mathlib.Core.List.{List, [], ◌∷◌, ◌++◌, append-nil}
use Prim.Native.Nat.{ℕ, zero, suc, ◌+◌, ◌-◌, ◌*◌, ◌≤◌, ◌<◌}
use native.Mathlib.Numerals.{add-one}
use native.Mathlib.Omega.{arith}
use lib.Dec.{ltb}
use lib.ListN.{length, take, set, length-append, length-take}
use lib.Seq.{take-length, take-suc-set, take-append-le}
use borrow.Author.Tests.{ltb-true, ltb-false}
use Rattle.cluster.specs.Config.{shelf, quorum}
use Rattle.protocol.specs.Rules.{ByServer, count_to}
use Rattle.decide.specs.Steps.{servers_of_def}

-- one server more, of which the test holds or not
pub count_in : (n : ℕ) (m : ByServer Bool) → m (suc n) ≡ true → count_to (n + 1) m ≡ count_to n m + 1
unfolding count_to
count_in n m h = rw (add-one, h) (omega arith)

pub count_out : (n : ℕ) (m : ByServer Bool) → m (suc n) ≡ false → count_to (n + 1) m ≡ count_to n m
unfolding count_to
count_out n m h = rw (add-one, h) (omega arith)

pub count_none : (m : ByServer Bool) → count_to 0 m ≡ 0
unfolding count_to
count_none m = refl

pub count_ext : (n : ℕ) (p q : ByServer Bool) → ((i : ℕ) → p i ≡ q i) → count_to n p ≡ count_to n q
unfolding count_to
count_ext zero p q h = refl
count_ext (suc n) p q h = rw (h (suc n), count_ext n p q h)

-- S - t
pub quorum_of : (t s : ℕ) → s ≡ 3 * t + 1 → s - t ≡ quorum (shelf t)
unfolding quorum shelf
quorum_of t s e = omega arith

-- ---- the list of them

pub servers-length : (n : ℕ) (m : ByServer Bool) → length (servers_of_def n m) ≡ count_to n m
unfolding servers_of_def count_to
servers-length zero m = refl
servers-length (suc n) m = go (m (suc n)) (servers-length n m)
  where
    go : (b : Bool) → length (servers_of_def n m) ≡ count_to n m → length (servers_of_def n m ++ cond b (suc n ∷ []) []) ≡ cond b 1 0 + count_to n m
    go true e = omega (arith, length-append (servers_of_def n m) (suc n ∷ []))
    go false e = rw append-nil (omega arith)

-- the first ones of a longer list are those of a shorter one
pub servers_first : (m : ByServer Bool) (j n : ℕ) → j ≤ n → take (length (servers_of_def j m)) (servers_of_def n m) ≡ servers_of_def j m
unfolding servers_of_def
servers_first m j zero h = let e : j ≡ 0 = omega arith in subst (λ (i : ℕ). take (length (servers_of_def i m)) (servers_of_def 0 m) ≡ servers_of_def i m) (sym e)
    refl
servers_first m j (suc n) h = go (ltb n j) refl (servers_first m j n)
  where
    go : (b : Bool) → ltb n j ≡ b → (j ≤ n → take (length (servers_of_def j m)) (servers_of_def n m) ≡ servers_of_def j m)
        → take (length (servers_of_def j m)) (servers_of_def (suc n) m) ≡ servers_of_def j m
    go true e f = let l = ltb-true n j e in let q : j ≡ suc n = omega arith in subst
        (λ (i : ℕ). take (length (servers_of_def i m)) (servers_of_def (suc n) m) ≡ servers_of_def i m) (sym q) (take-length (servers_of_def (suc n) m))
    go false e f =
        let l = ltb-false n j e in
        let x : take (length (servers_of_def j m)) (servers_of_def n m) ≡ servers_of_def j m = f (omega arith) in
        let k : length (servers_of_def j m) ≤ length (servers_of_def n m) = omega (arith, ap length x, length-take (length (servers_of_def j m)) (servers_of_def n m)) in
        take-append-le (length (servers_of_def j m)) (servers_of_def n m) (cond (m (suc n)) (suc n ∷ []) []) k ∙ x

-- one server more is put behind those found, where the test holds of it
pub servers_in : (m : ByServer Bool) (j n : ℕ) (out : List ℕ) → n ≡ length (servers_of_def j m) → take n out ≡ servers_of_def j m → n < length out
    → m (suc j) ≡ true → (n + 1 ≡ length (servers_of_def (j + 1) m)) × (take (n + 1) (set out n (j + 1)) ≡ servers_of_def (j + 1) m)
unfolding servers_of_def
servers_in m j n out e h l q =
    let i : n + 1 ≡ suc n = add-one n in
    let f : servers_of_def (j + 1) m ≡ servers_of_def j m ++ (suc j ∷ []) = rw (add-one j, q) refl in (
      omega (arith, ap length f, length-append (servers_of_def j m) (suc j ∷ [])),
      rw (f, i, add-one j) (take-suc-set out n (suc j) l ∙ ap (λ (z : List ℕ). z ++ (suc j ∷ [])) h),
    )

pub servers_out : (m : ByServer Bool) (j : ℕ) → m (suc j) ≡ false → servers_of_def (j + 1) m ≡ servers_of_def j m
unfolding servers_of_def
servers_out m j q = rw (add-one, q) (append-nil (servers_of_def j m))
