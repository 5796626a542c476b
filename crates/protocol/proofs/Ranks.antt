-- The order of stamps is that of one number each, 256 times the number and the writer, which is a byte. Nothing is assumed.
use mathlib.Core.Path.{◌≡◌, refl, sym}
use mathlib.Core.Bool.{Bool, true, false, ◌&&◌, ◌||◌}
use Prim.Native.Nat.{ℕ, ◌+◌, ◌*◌, ◌<◌}
use native.Mathlib.Omega.{arith}
use lib.Dec.{ltb, eqb}
use borrow.Author.Tests.{lt-ltb, le-ltb, ltb-true, ltb-false, eqb-true, eqb-false}
use Rattle.protocol.specs.declared.Stamp.{Stamp}
use Rattle.protocol.specs.Values.{rank, below}

pub below-rank : (a b : Stamp) → a.writer < 256 → b.writer < 256 → below a b ≡ ltb (rank a) (rank b)
unfolding below
below-rank a b ha hb = go (ltb a.number b.number) (eqb a.number b.number) (ltb a.writer b.writer) refl refl refl
  where
    j : ℕ
    j = 256 * a.number + a.writer

    k : ℕ
    k = 256 * b.number + b.writer

    go : (x y z : Bool) → ltb a.number b.number ≡ x → eqb a.number b.number ≡ y → ltb a.writer b.writer ≡ z → (x || (y && z)) ≡ ltb
        j k
    go true y z p q r = sym (lt-ltb j k (omega (arith, ltb-true a.number b.number p)))
    go false true true p q r = sym (lt-ltb j k (omega (arith, eqb-true a.number b.number q, ltb-true a.writer b.writer r)))
    go false true false p q r = sym (le-ltb j k (omega (arith, eqb-true a.number b.number q, ltb-false a.writer b.writer r)))
    go false false z p q r = sym (le-ltb j k (omega (arith, ltb-false a.number b.number p, eqb-false a.number b.number q)))
