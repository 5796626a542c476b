-- Reading values one after another: what stands at a place is a value or none, the first of n values and those after it, one more at the end.
-- A parser gives one answer, so two readings of one place agree. Nothing is assumed.
use mathlib.Core.Path.{◌≡◌, refl, sym, ap, ◌∙◌, subst}
use mathlib.Core.Option.{Option, none, some, none-ne-some}
use mathlib.Core.Logic.{◌⊎◌, inl, inr}
use mathlib.Core.List.{List, [], ◌∷◌, ◌++◌}
use Prim.Native.Nat.{ℕ, zero, suc, ◌+◌, ◌-◌, ◌≤◌}
use native.Mathlib.Omega.{arith}
use native.Mathlib.Numerals.{add-one}
use native.Mathlib.Nat.{suc_inj}
use lib.ListN.{length, drop, length-append, length-drop}
use lib.Seq.{drop-drop, drop_at}
use Rattle.format.specs.Format.{Fmt, Lawful, Bytes, All, and_then, parse_many, many}
use Rattle.format.specs.Reading.{Leaves, Stops}
use Rattle.format.proofs.Answers.{and_then_some, same-value, same_rest, bytes_drop}

-- F reads something there, or nothing
pub record Reads {A : Type 0} (F : Fmt A) (s : List ℕ) (at : ℕ) : Type 0 where
  pub value : A
  pub next : ℕ
  pub there : Leaves F s at value next

pub decide : {A : Type 0} (F : Fmt A) → Lawful F → (s : List ℕ) (at : ℕ) → Bytes s → at ≤ length s → Reads F s at ⊎ Stops F s at
decide {A} F law s at bs h = go (F.parse (drop at s)) refl
  where
    go : (o : Option (A × List ℕ)) → F.parse (drop at s) ≡ o → Reads F s at ⊎ Stops F s at
    go none e = inr (record { stopped = e })
    go (some x) e =
        let u : drop at s ≡ F.print x.0 ++ x.1 = law.read (drop at s) x.0 x.1 (bytes_drop at s bs) e in
        let n : ℕ = length (F.print x.0) in
        let r : drop (at + n) s ≡ x.1 = sym (drop-drop n at s) ∙ ap (drop n) u ∙ drop_at (F.print x.0) x.1 n refl in
        let l : length s - at ≡ n + length x.1 = sym (length-drop at s) ∙ ap length u ∙ length-append (F.print x.0) x.1 in
        inl
        (record {
          value = x.0;
          next = at + n;
          there = record {
            parsed = e ∙ ap (λ (y : List ℕ). some (x.0, y)) (sym r);
            within = omega arith;
            ok = law.fits (drop at s) x.0 x.1 e;
          };
        })

-- the same at places that are known to be the same
pub leaves_moved : {A : Type 0} {F : Fmt A} {s : List ℕ} {at at' k k' : ℕ} {a : A} → at ≡ at' → k ≡ k' → Leaves F s at a k → Leaves F s at' a k'
leaves_moved {A} {F} {s} {at} {at'} {k} {k'} {a} p q f = subst (λ (i : ℕ). Leaves F s i a k') p (subst (λ (j : ℕ). Leaves F s at a j) q f)

pub many-count : {A : Type 0} (n : ℕ) (F : Fmt A) {s : List ℕ} {at k : ℕ} {xs : List A} → Leaves (many n F) s at xs k → length xs ≡ n
unfolding many
many-count n F m = m.ok.0

-- ---- the first of n values

module _ {A : Type 0} (F : Fmt A) {s : List ℕ} {at : ℕ} where
  next_of : (j : ℕ) {q k : ℕ} {w : A} {ys : List A} → Leaves (many (suc j) F) s at ys k → Leaves F s at w q
      → (zs : List A) × (ys ≡ w ∷ zs) × Leaves (many j F) s q zs k
  unfolding many
  next_of j {q} {k} {w} {ys} m f =
      let (zs, r, ec, em) = and_then_some (parse_many F j (drop q s)) (λ xs r. some (w ∷ xs, r)) ys (drop k s) (rw f.parsed at m.parsed) in
      let p : w ∷ zs ≡ ys = same-value (w ∷ zs) ys r (drop k s) em in
      let l : r ≡ drop k s = same_rest (w ∷ zs) ys r (drop k s) em in
      let o = subst (λ (y : List A). (length y ≡ suc j) × All F.Ok y) (sym p) m.ok in
      (zs, sym p, record { parsed = ec ∙ ap (λ (y : List ℕ). some (zs, y)) l; within = m.within; ok = (suc_inj o.0, o.1.1) })

  -- the first of n = j + 1 values, and the j after it
  pub many-next : (n j : ℕ) {q k : ℕ} {w : A} {ys : List A} → n ≡ suc j → Leaves (many n F) s at ys k → Leaves F s at w q
      → (zs : List A) × (ys ≡ w ∷ zs) × Leaves (many j F) s q zs k
  many-next n j {q} {k} {w} {ys} e m f = next_of j (subst (λ (i : ℕ). Leaves (many i F) s at ys k) e m) f

  stops_of : (j : ℕ) {k : ℕ} {ys : List A} → Leaves (many (suc j) F) s at ys k → Stops F s at → ⊥
  unfolding many
  stops_of j {k} {ys} m f = none-ne-some (ys, drop k s) (rw f.stopped at m.parsed)

  pub many_stops : (n j : ℕ) {k : ℕ} {ys : List A} → n ≡ suc j → Leaves (many n F) s at ys k → Stops F s at → ⊥
  many_stops n j {k} {ys} e m f = stops_of j (subst (λ (i : ℕ). Leaves (many i F) s at ys k) e m) f

  none_of : {k : ℕ} {ys : List A} → Leaves (many 0 F) s at ys k → ys ≡ []
  unfolding many
  none_of {k} {ys} m = sym (same-value [] ys (drop at s) (drop k s) m.parsed)

  pub many_none : (n : ℕ) {k : ℕ} {ys : List A} → n ≡ 0 → Leaves (many n F) s at ys k → ys ≡ []
  many_none n {k} {ys} e m = none_of (subst (λ (i : ℕ). Leaves (many i F) s at ys k) e m)

-- ---- one more value at the end

pub all_snoc : {A : Type 0} (P : A → Type 0) (xs : List A) (w : A) → All P xs → P w → All P (xs ++ w ∷ [])
all_snoc P [] w h p = (p, tt)
all_snoc P (x ∷ xs) w h p = (h.0, all_snoc P xs w h.1 p)

module _ {A : Type 0} (F : Fmt A) where
  parse_snoc : (n : ℕ) (b : List ℕ) (xs : List A) (q : List ℕ) (w : A) (r : List ℕ) → parse_many F n b ≡ some (xs, q) → F.parse q ≡ some (w, r)
      → parse_many F (suc n) b ≡ some (xs ++ w ∷ [], r)
  parse_snoc zero b xs q w r e f =
      let p : [] ≡ xs = same-value [] xs b q e in
      let l : b ≡ q = same_rest [] xs b q e in
      rw (l, f) (ap (λ (y : List A). some (y ++ w ∷ [], r)) p)
  parse_snoc (suc n) b xs q w r e f =
      let (a, q', ea, ek) = and_then_some (F.parse b) (λ a q. and_then (parse_many F n q) (λ ys s. some (a ∷ ys, s))) xs q e in
      let (ys, s, ec, em) = and_then_some (parse_many F n q') (λ ys s. some (a ∷ ys, s)) xs q ek in
      let p : a ∷ ys ≡ xs = same-value (a ∷ ys) xs s q em in
      let l : s ≡ q = same_rest (a ∷ ys) xs s q em in
      let g = parse_snoc n q' ys s w r ec (ap F.parse l ∙ f) in
      let step : List A → List ℕ → A → Option (List A × List ℕ) = λ ys s a. some (a ∷ ys, s) in
      ap (λ (z : Option (A × List ℕ)). and_then z (λ a q. and_then (parse_many F (suc n) q) (λ ys s. step ys s a))) ea
      ∙ ap (λ (z : Option (List A × List ℕ)). and_then z (λ ys s. step ys s a)) g
      ∙ ap (λ (y : List A). some (y ++ w ∷ [], r)) p

  pub many_snoc : (n : ℕ) {s : List ℕ} {at k q : ℕ} {xs : List A} {w : A} → Leaves (many n F) s at xs k → Leaves F s k w q
      → Leaves (many (n + 1) F) s at (xs ++ w ∷ []) q
  unfolding many
  many_snoc n {s} {at} {k} {q} {xs} {w} m f =
      record {
        parsed = rw add-one (parse_snoc n (drop at s) xs (drop k s) w (drop q s) m.parsed f.parsed);
        within = f.within;
        ok = (omega (arith, length-append xs (w ∷ []), m.ok.0), all_snoc F.Ok xs w m.ok.1 f.ok);
      }
