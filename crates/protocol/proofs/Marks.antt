-- The marks of a round: as bytes, as a test of servers, and as a count.
-- One more mark raises the count by one; a new round has none. Nothing is assumed.
use mathlib.Core.Path.{◌≡◌, refl, sym, ap, ◌∙◌}
use mathlib.Core.Bool.{Bool, true, false, cond}
use mathlib.Core.List.{List}
use mathlib.Core.Logic.{◌≢◌}
use Prim.Native.Nat.{ℕ, zero, suc, ◌+◌, ◌≤◌, ◌<◌}
use native.Mathlib.Omega.{arith}
use lib.Dec.{eqb}
use lib.ListN.{length, get_or, set, replicate}
use lib.Seq.{get_or-set_same, get_or-set_other}
use borrow.Author.Tests.{ne_eqb, eqb-true, eqb-false}
use Rattle.cluster.specs.Ranges.{most_servers}
use Rattle.protocol.specs.Rules.{ByServer, upd, nobody, count_to}
use Rattle.protocol.specs.View.{marked}

get_or-zeros : (n i : ℕ) → ◌≡◌ {A = ℕ} (get_or (replicate n 0) i 0) 0
get_or-zeros zero i = refl
get_or-zeros (suc n) zero = refl
get_or-zeros (suc n) (suc i) = get_or-zeros n i

-- nobody is marked in a new round
pub marked-fresh : marked (replicate most_servers 0) ≡ nobody
unfolding marked nobody
marked-fresh = λ k i. at i k
  where
    at : (i : ℕ) → marked (replicate most_servers 0) i ≡ false
    at zero = refl
    at (suc i) = rw (get_or-zeros most_servers i)

-- one more mark
pub marked-set : (ms : List ℕ) (i : ℕ) → i < length ms → marked (set ms i 1) ≡ upd (marked ms) (suc i) true
unfolding marked upd
marked-set ms i h = λ k j. at j k
  where
    at : (j : ℕ) → marked (set ms i 1) j ≡ cond (eqb j (suc i)) true (marked ms j)
    at zero = rw (ne_eqb 0 (suc i) (λ e. omega arith))
    at (suc j) = go (eqb (suc j) (suc i)) refl
      where
        go : (b : Bool) → eqb (suc j) (suc i) ≡ b → marked (set ms i 1) (suc j) ≡ cond b true (marked ms (suc j))
        go true e = let q : j ≡ i = omega (arith, eqb-true (suc j) (suc i) e) in rw (q, get_or-set_same ms i 1 0 h)
        go false e = rw (get_or-set_other ms i j 1 0 (λ q. eqb-false _ _ e (ap suc q)))

-- ---- counts

pub count-le : (n : ℕ) (m : ByServer Bool) → count_to n m ≤ n
unfolding count_to
count-le zero m = omega arith
count-le (suc n) m = go (m (suc n)) (count-le n m)
  where
    go : (b : Bool) → count_to n m ≤ n → cond b 1 0 + count_to n m ≤ suc n
    go true h = omega arith
    go false h = omega arith

pub count-nobody : (n : ℕ) → count_to n nobody ≡ 0
unfolding count_to nobody
count-nobody zero = refl
count-nobody (suc n) = let h : count_to n nobody ≡ 0 = count-nobody n in omega arith

pub count-fresh : (n : ℕ) → ◌≡◌ {A = ℕ} 0 (count_to n (marked (replicate most_servers 0)))
count-fresh n = sym (ap (count_to n) marked-fresh ∙ count-nobody n)

count_beyond : (n b : ℕ) (m : ByServer Bool) → n < b → count_to n (upd m b true) ≡ count_to n m
unfolding count_to upd
count_beyond zero b m h = refl
count_beyond (suc n) b m h = rw (ne_eqb (suc n) b (λ e. omega arith), count_beyond n b m (omega arith))

pub count_mark : (n b : ℕ) (m : ByServer Bool) → 1 ≤ b → b ≤ n → m b ≡ false → count_to n (upd m b true) ≡ suc (count_to n m)
unfolding count_to upd
count_mark zero b m lo hi e = absurd (omega arith)
count_mark (suc n) b m lo hi e = go (eqb (suc n) b) refl (count_mark n b m lo)
  where
    go : (t : Bool) → eqb (suc n) b ≡ t → (b ≤ n → m b ≡ false → count_to n (upd m b true) ≡ suc (count_to n m))
        → cond (cond t true (m (suc n))) 1 0 + count_to n (upd m b true) ≡ suc (cond (m (suc n)) 1 0 + count_to n m)
    go true q k =
        let p : suc n ≡ b = eqb-true _ _ q in
        let r : m (suc n) ≡ false = ap m p ∙ e in
        rw (r, count_beyond n b m (omega arith)) (omega arith)
    go false q k =
        let d : suc n ≢ b = eqb-false _ _ q in
        let j : b ≤ n = omega arith in
        rw (k j e) (omega arith)
