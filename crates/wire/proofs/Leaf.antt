-- What the formats of single fields give at a place of a list: a number in its range, or a run of bytes.
-- Each parser looks at the bytes that stand there, so one look at the front of the list tells its answer.
-- Assumes nothing.
use mathlib.Core.Path.{◌≡◌, refl, sym, ap, ◌∙◌, subst}
use mathlib.Core.Bool.{Bool, true, false}
use mathlib.Core.Logic.{⊎_elim, inl, inr}
use mathlib.Core.Option.{none, some-ne-none}
use mathlib.Core.List.{List, [], ◌∷◌}
use Prim.Native.Nat.{ℕ, ◌+◌, ◌-◌, ◌≤◌, ◌<◌}
use native.Mathlib.Omega.{arith}
use lib.ListN.{length, get_or, drop, length-drop}
use lib.Seq.{drop-drop, length-take-le, get_or-drop}
use lib.Dec.{leb}
use borrow.Author.Tests.{le-leb, lt-leb}
use Rattle.cluster.proofs.Tests.{below_or_not}
use Rattle.format.specs.Format.{Fmt, guard, ranged, parse_byte, parse2, parse4, value2, run, byte, number2, number4}
use Rattle.format.specs.Reading.{bytes_at, Leaves, Stops, number4_at}
use Rattle.wire.specs.Places.{length_at}
use Rattle.wire.specs.Reads.{Past, FieldAs, RangedAs, number_l, first_byte}
use Rattle.std.specs.Prelude.{Some, None}
use Rattle.std.specs.declared.option.Option.{Option}
use Rattle.wire.specs.declared.fields.Cursor.{Cursor}

-- ---- numbers

-- F reads w bytes, and takes their number X if it is from lo to hi
pub record Numbered (F : Fmt ℕ) (lo hi w : ℕ) (X : List ℕ → ℕ) : Type 0 where
  some_bytes : 0 < w
  short : (d : List ℕ) → length d < w → F.parse d ≡ none
  long : (d : List ℕ) → w ≤ length d → F.parse d ≡ ranged lo hi (X d) (drop w d)
  ok : (x : ℕ) → lo ≤ x → x ≤ hi → F.Ok x

guard_none : {A : Type 0} (b : Bool) → guard {A = A} b none ≡ none
guard_none true = refl
guard_none false = refl

module _ {F : Fmt ℕ} {lo hi w : ℕ} {X : List ℕ → ℕ} (r : Numbered F lo hi w X) (s : List ℕ) (at : ℕ) where
  pub ends : length (drop at s) < w → Stops F s at
  ends h = record { stopped = r.short (drop at s) h }

  pub answers : w ≤ length (drop at s) → (f : Option (ℕ × Cursor)) {v : ℕ} → v ≡ X (drop at s) → RangedAs lo hi v (at + w) f → FieldAs (number_l F X w) s at f
  answers h (Some x) {v} e (q, l, k, p) =
      let n : ℕ = X (drop at s) in
      let a : lo ≤ n = omega arith in
      let b : n ≤ hi = omega arith in
      let g : Leaves F s at n (at + w) = record {
        parsed = r.long (drop at s) h ∙ simp (le-leb lo n a, le-leb n hi b, drop-drop);
        within = omega (arith, length-drop at s, r.some_bytes);
        ok = r.ok n a b;
      } in
      record { leaves = subst (λ (z : ℕ). Leaves F s at n z) (sym p) g; number = q ∙ e; place = p }
  answers h None {v} e (inl l) = record { stopped = r.long (drop at s) h ∙ simp (lt-leb lo (X (drop at s)) (omega arith)) }
  answers h None {v} e (inr k) = record {
    stopped = r.long (drop at s) h ∙ simp (lt-leb (X (drop at s)) hi (omega arith))
        (guard_none (leb lo (X (drop at s))));
  }

-- the byte at a place, counted from it
pub here : (s : List ℕ) (at : ℕ) → get_or s at 0 ≡ first_byte (drop at s)
here s at = let e : at ≡ at + 0 = omega arith in ap (λ (k : ℕ). get_or s k 0) e ∙ sym (get_or-drop at s 0 0)

module _ (lo hi : ℕ) where
  pub byte-numbered : Numbered (byte lo hi) lo hi 1 first_byte
  unfolding byte
  byte-numbered = record { some_bytes = omega arith; short = short; long = long; ok = λ x l k. (l, k) }
    where
      short : (d : List ℕ) → length d < 1 → parse_byte lo hi d ≡ none
      short [] h = refl
      short (x ∷ d) h = absurd (omega arith)

      long : (d : List ℕ) → 1 ≤ length d → parse_byte lo hi d ≡ ranged lo hi (first_byte d) (drop 1 d)
      long [] h = absurd (omega arith)
      long (x ∷ d) h = refl

  pub number2-numbered : Numbered (number2 lo hi) lo hi 2 length_at
  unfolding number2 length_at
  number2-numbered = record { some_bytes = omega arith; short = short; long = long; ok = λ x l k. (l, k) }
    where
      short : (d : List ℕ) → length d < 2 → parse2 lo hi d ≡ none
      short [] h = refl
      short (x ∷ []) h = refl
      short (x ∷ y ∷ d) h = absurd (omega arith)

      long : (d : List ℕ) → 2 ≤ length d → parse2 lo hi d ≡ ranged lo hi (value2 (get_or d 0 0) (get_or d 1 0)) (drop 2 d)
      long [] h = absurd (omega arith)
      long (x ∷ []) h = absurd (omega arith)
      long (x ∷ y ∷ d) h = refl

  pub number4-numbered : Numbered (number4 lo hi) lo hi 4 number4_at
  unfolding number4
  number4-numbered = record { some_bytes = omega arith; short = short; long = long; ok = λ x l k. (l, k) }
    where
      short : (d : List ℕ) → length d < 4 → parse4 lo hi d ≡ none
      short [] h = refl
      short (x ∷ []) h = refl
      short (x ∷ y ∷ []) h = refl
      short (x ∷ y ∷ z ∷ []) h = refl
      short (x ∷ y ∷ z ∷ w ∷ d) h = absurd (omega arith)

      long : (d : List ℕ) → 4 ≤ length d → parse4 lo hi d ≡ ranged lo hi (number4_at d) (drop 4 d)
      long [] h = absurd (omega arith)
      long (x ∷ []) h = absurd (omega arith)
      long (x ∷ y ∷ []) h = absurd (omega arith)
      long (x ∷ y ∷ z ∷ []) h = absurd (omega arith)
      long (x ∷ y ∷ z ∷ w ∷ d) h = refl

-- ---- runs

module _ (n : ℕ) {s : List ℕ} {at : ℕ} where
  pub run_past : length s - at < n → Stops (run n) s at
  unfolding run
  run_past h = record { stopped = simp (lt-leb n (length (drop at s)) (omega (arith, length-drop at s))) }

  pub run_in : at + n ≤ length s → Past (run n) s at (bytes_at s at n) (at + n) n
  unfolding run bytes_at
  run_in h =
      let k : n ≤ length (drop at s) = omega (arith, length-drop at s) in
      record {
        leaves = record { parsed = simp (le-leb n (length (drop at s)) k, drop-drop); within = h; ok = length-take-le n (drop at s) k };
        place = refl;
      }

  -- where a run is not taken, there are fewer bytes
  pub run-few : Stops (run n) s at → length s < at + n
  run-few z =
      ⊎_elim (λ h. h) (λ h. absurd (some-ne-none _ (sym (run_in h).leaves.parsed ∙ z.stopped))) (below_or_not (length s) (at + n))
