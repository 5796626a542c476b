-- Document 01's shelf is legal for every t from 1 to 4: 3t+1 servers, k = t+1, and server i has the point i.
-- The table of points is 1, 2, .., S: at the place i stands i + 1, and past it 0. Nothing is assumed.
use mathlib.Core.Path.{◌≡◌, refl, ◌∙◌}
use mathlib.Core.Bool.{Bool, true, false}
use mathlib.Core.List.{[], ◌∷◌, ◌++◌}
use Prim.Native.Nat.{ℕ, zero, suc, ◌+◌, ◌*◌, ◌≤◌, ◌<◌}
use native.Mathlib.Omega.{arith}
use lib.Dec.{ltb}
use borrow.Author.Tests.{ltb-true, ltb-false}
use lib.ListN.{length, get_or, length-append, get_or-append, get_or-eq_default}
use lib.Seq.{get_or_at}
use Rattle.cluster.specs.Config.{up_to, shelf, Legal}
use Rattle.cluster.specs.Ranges.{top_faults}

pub up_to-length : (n : ℕ) → length (up_to n) ≡ n
unfolding up_to
up_to-length zero = refl
up_to-length (suc n) = omega (arith, length-append (up_to n) (suc n ∷ []), up_to-length n)

pub up_to_at : (n i : ℕ) → i < n → get_or (up_to n) i 0 ≡ i + 1
unfolding up_to
up_to_at zero i h = absurd (omega arith)
up_to_at (suc n) i h = go (ltb i n) refl (λ k. up_to_at n i k)
  where
    go : (b : Bool) → ltb i n ≡ b → (i < n → get_or (up_to n) i 0 ≡ i + 1) → get_or (up_to n ++ (suc n ∷ [])) i 0 ≡ i + 1
    go true e before =
        let k : i < n = ltb-true i n e in
        let l : i < length (up_to n) = omega (arith, up_to-length n) in
        get_or-append (up_to n) (suc n ∷ []) 0 i l ∙ before k
    go false e before =
        let k : n ≡ i = omega (arith, ltb-false i n e) in
        get_or_at (up_to n) (suc n) [] 0 i (up_to-length n ∙ k) ∙ omega arith

-- a point is at most S
point-le : (n i : ℕ) → get_or (up_to n) i 0 ≤ n
point-le n i = go (ltb i n) refl
  where
    go : (b : Bool) → ltb i n ≡ b → get_or (up_to n) i 0 ≤ n
    go true e = omega (arith, up_to_at n i (ltb-true i n e), ltb-true i n e)
    go false e =
        let l : length (up_to n) ≤ i = omega (arith, up_to-length n, ltb-false i n e) in
        omega (arith, get_or-eq_default (up_to n) 0 l)

pub legal-shelf : (t : ℕ) → 1 ≤ t → t ≤ top_faults → Legal (shelf t)
unfolding shelf
legal-shelf t l h =
    let S : ℕ = 3 * t + 1 in
    record {
      faulty = l;
      most = omega arith;
      restores = omega arith;
      covered = omega arith;
      few = omega arith;
      table = up_to-length S;
      apart = record {
        bytes = λ i. omega (arith, point-le S i);
        different = λ i j p q n e. n (omega (
          arith,
          e,
          up_to_at S i (omega (arith, p, up_to-length S)),
          up_to_at S j (omega (arith, q, up_to-length S)),
        ));
      };
    }
