-- Formats at a place of a list: what the readers of the parts leave is what the reader of the whole leaves, and where a part stops, the whole stops.
-- Each unfolds one combinator once, so that a composite reader's proof is a term. Nothing is assumed.
use mathlib.Core.Path.{◌≡◌, refl, sym, subst}
use mathlib.Core.Bool.{Bool, true, false}
use mathlib.Core.Option.{none, some}
use mathlib.Core.Logic.{inl, inr}
use mathlib.Core.List.{List, []}
use Prim.Native.Nat.{ℕ, ◌+◌, ◌-◌, ◌≤◌, ◌<◌}
use native.Mathlib.Omega.{arith}
use lib.ListN.{length, take, drop, length-drop}
use lib.Seq.{drop-drop}
use borrow.Author.Tests.{le-leb, lt-leb}
use Rattle.format.specs.Format.{Fmt, zeros, byte, seq, via, such, or_blank, many, optional}
use Rattle.format.specs.Reading.{Leaves, Stops}

module _ {A B : Type 0} (F : Fmt A) (G : A → Fmt B) {s : List ℕ} {at : ℕ} where
  pub leaves-seq : {a : A} {b : B} {k n : ℕ} → Leaves F s at a k → Leaves (G a) s k b n → Leaves (seq F G) s at (a, b) n
  unfolding seq
  leaves-seq f g = record { parsed = rw (f.parsed, g.parsed); within = g.within; ok = (f.ok, g.ok) }

  pub stops_first : Stops F s at → Stops (seq F G) s at
  unfolding seq
  stops_first f = record { stopped = rw f.stopped }

  pub stops_second : {a : A} {k : ℕ} → Leaves F s at a k → Stops (G a) s k → Stops (seq F G) s at
  unfolding seq
  stops_second f g = record { stopped = rw (f.parsed, g.stopped) }

module _ {A B : Type 0} (to : A → B) (from : B → A) (F : Fmt A) {s : List ℕ} {at : ℕ} where
  pub leaves-via : {a : A} {k : ℕ} → from (to a) ≡ a → Leaves F s at a k → Leaves (via to from F) s at (to a) k
  unfolding via
  leaves-via e f = record { parsed = rw f.parsed; within = f.within; ok = subst (λ (x : A). F.Ok x) (sym e) f.ok }

  pub stops-via : Stops F s at → Stops (via to from F) s at
  unfolding via
  stops-via f = record { stopped = rw f.stopped }

module _ {A : Type 0} (test : A → Bool) (F : Fmt A) {s : List ℕ} {at : ℕ} where
  pub leaves-keep : {a : A} {k : ℕ} → Leaves F s at a k → test a ≡ true → Leaves (such test F) s at a k
  unfolding such
  leaves-keep f t = record { parsed = rw (f.parsed, t); within = f.within; ok = (t, f.ok) }

  pub stops-kept : Stops F s at → Stops (such test F) s at
  unfolding such
  stops-kept f = record { stopped = rw f.stopped }

  pub stops-test : {a : A} {k : ℕ} → Leaves F s at a k → test a ≡ false → Stops (such test F) s at
  unfolding such
  stops-test f t = record { stopped = rw (f.parsed, t) }

module _ {A : Type 0} (n : ℕ) (blank : A) (F : Fmt A) {s : List ℕ} {at : ℕ} where
  pub leaves_some : {a : A} {k : ℕ} → Leaves F s at a k → Leaves (or_blank n blank F) s at a k
  unfolding or_blank
  leaves_some f = record { parsed = rw f.parsed; within = f.within; ok = inr f.ok }

  pub leaves-blank : Stops F s at → at + n ≤ length s → zeros (take n (drop at s)) ≡ true → Leaves (or_blank n blank F) s at blank (at + n)
  unfolding or_blank
  leaves-blank f h z =
      record {
        parsed = rw (f.stopped, le-leb n (length (drop at s)) (omega (arith, length-drop at s)), z, drop-drop);
        within = h;
        ok = inl refl;
      }

  pub stops_short : Stops F s at → length s - at < n → Stops (or_blank n blank F) s at
  unfolding or_blank
  stops_short f h = record { stopped = rw (f.stopped, lt-leb n (length (drop at s)) (omega (arith, length-drop at s))) }

  pub stops-blank : Stops F s at → at + n ≤ length s → zeros (take n (drop at s)) ≡ false → Stops (or_blank n blank F) s at
  unfolding or_blank
  stops-blank f h z = record { stopped = rw (f.stopped, le-leb n (length (drop at s)) (omega (arith, length-drop at s)), z) }

-- n of a kind, where n is 0
module _ {A : Type 0} (F : Fmt A) (n : ℕ) {s : List ℕ} {at : ℕ} where
  pub leaves_none : at ≤ length s → Leaves (many 0 F) s at [] at
  unfolding many
  leaves_none h = record { parsed = refl; within = h; ok = (refl, tt) }

-- a value that may be absent: the byte alone, or the byte and the value
module _ {A : Type 0} (hi : ℕ) (F : Fmt A) {s : List ℕ} {at : ℕ} where
  pub leaves_absent : {k : ℕ} → Leaves (byte 0 hi) s at 0 k → Leaves (optional hi F) s at none k
  unfolding optional byte
  leaves_absent f = record { parsed = rw f.parsed; within = f.within; ok = tt }

  pub leaves_present : {a : A} {k l : ℕ} → Leaves (byte 0 hi) s at 1 k → Leaves F s k a l → Leaves (optional hi F) s at (some a) l
  unfolding optional byte
  leaves_present f g = record { parsed = rw (f.parsed, g.parsed); within = g.within; ok = (f.ok.1, g.ok) }

  pub stops-flag : Stops (byte 0 hi) s at → Stops (optional hi F) s at
  unfolding optional byte
  stops-flag f = record { stopped = rw f.stopped }

  pub stops_present : {k : ℕ} → Leaves (byte 0 hi) s at 1 k → Stops F s k → Stops (optional hi F) s at
  unfolding optional byte
  stops_present f g = record { stopped = rw (f.parsed, g.stopped) }
