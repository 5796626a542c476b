-- Ranks: no two slots have one, each tells its slot, and the next rank below a number is the highest of those below it.
-- By induction on the count of slots; a rank is a key and a byte, so sums of numbers tell all. Assumes nothing.
use mathlib.Core.Path.{◌≡◌, refl, sym, ap, ◌∙◌, subst}
use mathlib.Core.Bool.{Bool, true, false, cond}
use mathlib.Core.List.{List, [], ◌∷◌}
use mathlib.Core.Logic.{◌⊎◌, inl, inr}
use Prim.Native.Nat.{ℕ, zero, suc, ◌+◌, ◌-◌, ◌*◌, ◌%◌, ◌≤◌, ◌<◌, max}
use native.Mathlib.Omega.{arith}
use native.Mathlib.Nat.{mul-add-mod_self_left, mod-eq_of_lt, mul-le-mul_right}
use native.Mathlib.Numerals.{add-one}
use lib.Dec.{ltb}
use lib.ListN.{take, drop}
use borrow.Author.Tests.{ltb-true, ltb-false, lt-ltb, le-ltb}
use Rattle.cluster.specs.Config.{Config, shelf}
use Rattle.format.specs.Format.{Bytes}
use Rattle.protocol.specs.Values.{candidate_size_def, rank}
use Rattle.protocol.specs.View.{stamp_at_def}
use Rattle.format.specs.Reading.{bytes_at}
use Rattle.format.proofs.Answers.{bytes_drop}
use Rattle.std.proofs.lemmas.Grind.{common_steps}
use Rattle.std.specs.Ordering.{ord_max, nat_cmp}
use Rattle.std.specs.Option.{option_cmp}
use Rattle.std.specs.declared.option.Option.{Option}
use Rattle.std.specs.Prelude.{Some, None, MatchOption}
use Rattle.server.specs.Ranks.{slot_of, rank_of, slot_with_def, higher_of, next_rank_def}

-- the last of suc m, or one before it
pub last_of : (j m : ℕ) → j < suc m → (j < m) ⊎ (j ≡ m)
last_of j m h = go (ltb j m) refl
  where
    go : (b : Bool) → ltb j m ≡ b → (j < m) ⊎ (j ≡ m)
    go true e = inl (ltb-true j m e)
    go false e = inr (omega (arith, ltb-false j m e))

-- ---- bounds

bytes_take : (n : ℕ) (d : List ℕ) → Bytes d → Bytes (take n d)
bytes_take zero d h i = omega arith
bytes_take (suc n) [] h i = omega arith
bytes_take (suc n) (x ∷ xs) h zero = h 0
bytes_take (suc n) (x ∷ xs) h (suc i) = bytes_take n xs (λ j. h (suc j)) i

pub slot-bytes : (s : Config) (y : List ℕ) (i : ℕ) → Bytes y → Bytes (slot_of s y i)
unfolding slot_of bytes_at
slot-bytes s y i h = bytes_take (candidate_size_def s) (drop (candidate_size_def s * i) y) (bytes_drop (candidate_size_def s * i) y h)

pub key-top : (x : List ℕ) → Bytes x → rank (stamp_at_def x) < 1099511627776
unfolding stamp_at_def
key-top x h = omega (arith, h 0, h 1, h 2, h 3, h 4)

pub rank-made : (s : Config) (y : List ℕ) (i : ℕ) {x : List ℕ} {k : ℕ} → x ≡ slot_of s y i → k ≡ rank (stamp_at_def x) → 256 * k + (255 - i) ≡ rank_of s y i
unfolding rank_of
rank-made s y i p q = ap (λ (k : ℕ). 256 * k + (255 - i)) (q ∙ ap (λ (z : List ℕ). rank (stamp_at_def z)) p)

pub key_fits : (s : Config) (y : List ℕ) (i : ℕ) → Bytes y → {x : List ℕ} {k : ℕ} → x ≡ slot_of s y i → k ≡ rank (stamp_at_def x) → k < 1099511627776
key_fits s y i h {x} {k} p q = omega (arith, q, key-top x (subst Bytes (sym p) (slot-bytes s y i h)))

pub rank-top : (s : Config) (y : List ℕ) (i : ℕ) → Bytes y → rank_of s y i < 281474976710656
unfolding rank_of
rank-top s y i h = omega (arith, key-top (slot_of s y i) (slot-bytes s y i h))

-- ---- slots

-- the place of a slot is a number of the code
pub place-fits : (t i : ℕ) → t < 256 → i < 256 → {z : ℕ} → z ≡ candidate_size_def (shelf t) → z * i < 18446744073709551616
unfolding shelf
place-fits t i h k {z} e =
    let l : z ≤ 32768 = omega arith in
    let m : z * i ≤ 32768 * i = mul-le-mul_right i l in
    omega (arith, m)

pub slot-made : (s : Config) (y : List ℕ) (i : ℕ) {a b : ℕ} {x : List ℕ} → a ≡ candidate_size_def s → b ≡ candidate_size_def s → x ≡ bytes_at y (a * i) b → x ≡
    slot_of s y i
unfolding slot_of
slot-made s y i p q r = r ∙ (λ j. bytes_at y (p j * i) (q j))

-- ---- a rank tells its slot

module _ (s : Config) (y : List ℕ) where
  pub rank_inj : (i j : ℕ) → i < 255 → j < 255 → rank_of s y i ≡ rank_of s y j → i ≡ j
  unfolding rank_of
  rank_inj i j h k e = omega arith

  pub rank-slot : (i : ℕ) → i < 255 → slot_with_def (rank_of s y i) ≡ i
  unfolding rank_of slot_with_def
  rank-slot i h =
      let m : (256 * rank (stamp_at_def (slot_of s y i)) + (255 - i)) % 256 ≡ 255 - i =
      mul-add-mod_self_left 256 (rank (stamp_at_def (slot_of s y i))) (255 - i) ∙ mod-eq_of_lt (omega arith) in
      omega (arith, m)

  -- the higher key has the higher rank, and so has the earlier of equals
  pub rank-higher : (i j : ℕ) → i < 255 → j < 255 → rank (stamp_at_def (slot_of s y i)) < rank (stamp_at_def (slot_of s y j)) → rank_of s y i < rank_of s y j
  unfolding rank_of
  rank-higher i j h k l = omega arith

  pub rank_earlier : (i j : ℕ) → i < j → rank (stamp_at_def (slot_of s y j)) ≤ rank (stamp_at_def (slot_of s y i)) → rank_of s y j ≤ rank_of s y i
  unfolding rank_of
  rank_earlier i j h l = omega arith

  -- ---- the next rank

  -- r is the highest rank below bound among the first n slots
  pub record Highest (n bound r : ℕ) : Type 0 where
    pub slot : (i : ℕ) × (i < n) × (r ≡ rank_of s y i)
    pub below : r < bound
    pub most : (j : ℕ) → j < n → rank_of s y j < bound → rank_of s y j ≤ r

  abbrev pub HighestIn : ℕ → ℕ → Option ℕ → Type 0
  HighestIn n bound o = MatchOption o ((j : ℕ) → j < n → bound ≤ rank_of s y j) (λ r. Highest n bound r)

  -- with one more slot
  module _ (n bound : ℕ) where
    -- what holds of the ranks of the slots before, and of the last one
    each : (P : ℕ → Type 0) → ((j : ℕ) → j < n → P (rank_of s y j)) → P (rank_of s y n) → (j : ℕ) → j < suc n → P (rank_of s y j)
    each P before last j l = go (last_of j n l)
      where
        go : (j < n) ⊎ (j ≡ n) → P (rank_of s y j)
        go (inl k) = before j k
        go (inr e) = subst (λ (z : ℕ). P (rank_of s y z)) (sym e) last

    kept : {a : ℕ} → Highest n bound a → (rank_of s y n < bound → rank_of s y n ≤ a) → Highest (suc n) bound a
    kept {a} h last =
        let (i, l, e) = h.slot in
        record { slot = (i, omega arith, e); below = h.below; most = each (λ z. z < bound → z ≤ a) h.most last }

    last : rank_of s y n < bound → ((j : ℕ) → j < n → rank_of s y j < bound → rank_of s y j ≤ rank_of s y n)
        → Highest (suc n) bound (rank_of s y n)
    last l before =
        record {
          slot = (n, omega arith, refl);
          below = l;
          most = each (λ z. z < bound → z ≤ rank_of s y n) before (λ k. omega arith);
        }

    step : (b : Bool) → ltb (rank_of s y n) bound ≡ b → (o : Option ℕ) → HighestIn n bound o
        → HighestIn (suc n) bound (cond b (higher_of o (rank_of s y n)) o)
    step false e None h = each (λ z. bound ≤ z) h (ltb-false (rank_of s y n) bound e)
    step false e (Some a) h = kept h (λ k. absurd (omega (arith, ltb-false (rank_of s y n) bound e)))
    step true e None h = last (ltb-true (rank_of s y n) bound e) (λ j l k. absurd (omega (arith, h j l)))
    step true e (Some a) h = go (ltb a (rank_of s y n)) refl
      where
        go : (c : Bool) → ltb a (rank_of s y n) ≡ c → Highest (suc n) bound (max a (rank_of s y n))
        go true f =
            let m : rank_of s y n ≡ max a (rank_of s y n) = omega (arith, ltb-true a (rank_of s y n) f) in
            subst (Highest (suc n) bound) m
            (last (ltb-true (rank_of s y n) bound e) (λ j l k. omega (arith, h.most j l k, ltb-true a (rank_of s y n) f)))
        go false f =
            let m : a ≡ max a (rank_of s y n) = omega (arith, ltb-false a (rank_of s y n) f) in
            subst (Highest (suc n) bound) m (kept h (λ k. ltb-false a (rank_of s y n) f))

  pub next_is : (n bound : ℕ) → HighestIn n bound (next_rank_def s y n bound)
  unfolding next_rank_def
  next_is zero bound = λ j l. absurd (omega arith)
  next_is (suc n) bound = step n bound (ltb (rank_of s y n) bound) refl (next_rank_def s y n bound) (next_is n bound)

  -- ---- one more slot, as the code tests it

  max-higher : (o : Option ℕ) (r : ℕ) → ord_max (option_cmp nat_cmp) o (Some r) ≡ higher_of o r
  max-higher None r = refl
  max-higher (Some a) r = grind (arith, common_steps)

  pub next-higher : (n bound : ℕ) {best up : Option ℕ} {r : ℕ} → best ≡ next_rank_def s y n bound → r ≡ rank_of s y n → r < bound
      → up ≡ ord_max (option_cmp nat_cmp) best (Some r) → up ≡ next_rank_def s y (n + 1) bound
  unfolding next_rank_def
  next-higher n bound {best} {up} {r} p q l u =
      let m : rank_of s y n < bound = omega (arith, q, l) in
      rw (add-one, lt-ltb (rank_of s y n) bound m) (u ∙ max-higher best r ∙ (λ i. higher_of (p i) (q i)))

  pub next-same : (n bound : ℕ) {best : Option ℕ} {r : ℕ} → best ≡ next_rank_def s y n bound → r ≡ rank_of s y n → bound ≤ r
      → best ≡ next_rank_def s y (n + 1) bound
  unfolding next_rank_def
  next-same n bound p q l =
      let m : bound ≤ rank_of s y n = omega (arith, q, l) in
      rw (add-one, le-ltb (rank_of s y n) bound m) p
