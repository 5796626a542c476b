-- The laws of the formats of fields and of their composition: what is printed is parsed back, what is parsed is in range, and was printed.
-- One law for each combinator; the law of a layout is then a term of the layout's shape. Nothing is assumed.
use mathlib.Core.Path.{◌≡◌, refl, sym, ap, ◌∙◌, subst}
use mathlib.Core.Bool.{Bool, true}
use mathlib.Core.Option.{some}
use mathlib.Core.List.{List, [], ◌∷◌, ◌++◌, append_assoc}
use Prim.Native.Nat.{ℕ, ◌+◌, ◌*◌, ◌/◌, ◌%◌, ◌≤◌, ◌<◌}
use native.Mathlib.Omega.{arith}
use lib.ListN.{length, take, drop, take-append-drop, length-append}
use lib.Seq.{take_at, drop_at, length-take-le}
use lib.Dec.{leb}
use borrow.Author.Tests.{le-leb, leb-true}
use Rattle.format.specs.Format.{Fmt, Lawful, Bytes, guard, and_then, parse_byte, parse2, parse4, value2, value4, print2, print4}
use Rattle.format.specs.Format.{empty, byte, number2, number4, run, seq, via, such}
use Rattle.format.proofs.Answers.{guard_some, ranged_some, no_some, same-value, same_rest, and_then_some, bytes_rest}

-- ---- one byte from lo to hi

pub byte_read : (lo hi : ℕ) (b : List ℕ) (a : ℕ) (r : List ℕ) → parse_byte lo hi b ≡ some (a, r) → ((lo ≤ a) × (a ≤ hi)) × (b ≡ a ∷ r)
byte_read lo hi [] a r e = no_some (a, r) e
byte_read lo hi (x ∷ q) a r e =
    let (g, (k, l)) = ranged_some lo hi x a q r e in
    (g, cc)

pub byte_law : (lo hi : ℕ) → Lawful (byte lo hi)
unfolding byte
byte_law lo hi =
    record {
      made = λ a r h. simp (le-leb _ _ h.0, le-leb _ _ h.1);
      fits = λ b a r e. (byte_read lo hi b a r e).0;
      read = λ b a r bs e. (byte_read lo hi b a r e).1;
    }

-- ---- a big-endian number of 2 bytes, and one of 4: the bytes tell every number, for the first byte printed is not reduced

pub value2-print : (n : ℕ) → value2 (n / 256) (n % 256) ≡ n
value2-print n = omega arith

pub print2-value : (a b : ℕ) → b < 256 → print2 (value2 a b) ≡ a ∷ b ∷ []
print2-value a b k =
    let p : value2 a b / 256 ≡ a = omega arith in
    let q : value2 a b % 256 ≡ b = omega arith in
    cc

pub value4-print : (n : ℕ) → value4 (n / 16777216) (n / 65536 % 256) (n / 256 % 256) (n % 256) ≡ n
value4-print n =
    let p : n / 65536 ≡ n / 256 / 256 = omega arith in
    let q : n / 16777216 ≡ n / 256 / 256 / 256 = omega arith in
    let b : 256 * (n / 256 / 256 / 256) + n / 65536 % 256 ≡ n / 256 / 256 = omega arith in
    let c : 256 * (n / 256 / 256) + n / 256 % 256 ≡ n / 256 = omega arith in
    let d : 256 * (n / 256) + n % 256 ≡ n = omega arith in
    omega arith

pub print4-value : (a b c d : ℕ) → b < 256 → c < 256 → d < 256 → print4 (value4 a b c d) ≡ a ∷ b ∷ c ∷ d ∷ []
print4-value a b c d k l m =
    let p : value4 a b c d / 16777216 ≡ a = omega arith in
    let q : value4 a b c d / 65536 % 256 ≡ b = omega arith in
    let r : value4 a b c d / 256 % 256 ≡ c = omega arith in
    let s : value4 a b c d % 256 ≡ d = omega arith in
    cc

fits2 : (lo hi : ℕ) (b : List ℕ) (a : ℕ) (r : List ℕ) → parse2 lo hi b ≡ some (a, r) → (lo ≤ a) × (a ≤ hi)
fits2 lo hi [] a r e = no_some (a, r) e
fits2 lo hi (x ∷ []) a r e = no_some (a, r) e
fits2 lo hi (x ∷ y ∷ q) a r e = (ranged_some lo hi (value2 x y) a q r e).0

read2 : (lo hi : ℕ) (b : List ℕ) (a : ℕ) (r : List ℕ) → Bytes b → parse2 lo hi b ≡ some (a, r) → b ≡ print2 a ++ r
read2 lo hi [] a r bs e = no_some (a, r) e
read2 lo hi (x ∷ []) a r bs e = no_some (a, r) e
read2 lo hi (x ∷ y ∷ q) a r bs e =
    let (g, (k, l)) = ranged_some lo hi (value2 x y) a q r e in
    let m : print2 (value2 x y) ++ q ≡ print2 a ++ r = cc in
    sym (ap (λ (s : List ℕ). s ++ q) (print2-value x y (bs 1))) ∙ m

fits4 : (lo hi : ℕ) (b : List ℕ) (a : ℕ) (r : List ℕ) → parse4 lo hi b ≡ some (a, r) → (lo ≤ a) × (a ≤ hi)
fits4 lo hi [] a r e = no_some (a, r) e
fits4 lo hi (x ∷ []) a r e = no_some (a, r) e
fits4 lo hi (x ∷ y ∷ []) a r e = no_some (a, r) e
fits4 lo hi (x ∷ y ∷ z ∷ []) a r e = no_some (a, r) e
fits4 lo hi (x ∷ y ∷ z ∷ w ∷ q) a r e = (ranged_some lo hi (value4 x y z w) a q r e).0

read4 : (lo hi : ℕ) (b : List ℕ) (a : ℕ) (r : List ℕ) → Bytes b → parse4 lo hi b ≡ some (a, r) → b ≡ print4 a ++ r
read4 lo hi [] a r bs e = no_some (a, r) e
read4 lo hi (x ∷ []) a r bs e = no_some (a, r) e
read4 lo hi (x ∷ y ∷ []) a r bs e = no_some (a, r) e
read4 lo hi (x ∷ y ∷ z ∷ []) a r bs e = no_some (a, r) e
read4 lo hi (x ∷ y ∷ z ∷ w ∷ q) a r bs e =
    let v : ℕ = value4 x y z w in
    let (g, (k, l)) = ranged_some lo hi v a q r e in
    let m : print4 v ++ q ≡ print4 a ++ r = cc in
    sym (ap (λ (s : List ℕ). s ++ q) (print4-value x y z w (bs 1) (bs 2) (bs 3))) ∙ m

pub number2_law : (lo hi : ℕ) → Lawful (number2 lo hi)
unfolding number2
number2_law lo hi =
    record {
      made = λ a r h. simp (value2-print a, le-leb _ _ h.0, le-leb _ _ h.1);
      fits = fits2 lo hi;
      read = read2 lo hi;
    }

pub number4_law : (lo hi : ℕ) → Lawful (number4 lo hi)
unfolding number4
number4_law lo hi =
    record {
      made = λ a r h. simp (value4-print a, le-leb _ _ h.0, le-leb _ _ h.1);
      fits = fits4 lo hi;
      read = read4 lo hi;
    }

-- ---- n bytes; no bytes

pub run_law : (n : ℕ) → Lawful (run n)
unfolding run
run_law n =
    record {
      made = λ a r h. simp (take_at a r n h, drop_at a r n h, le-leb n (length (a ++ r)) (omega (arith, length-append a r, h)));
      fits = λ b a r e.
          let g = guard_some (leb n (length b)) (some (take n b, drop n b)) (a, r) e in
          ap length (sym (same-value (take n b) a (drop n b) r g.1)) ∙ length-take-le n b (leb-true n (length b) g.0);
      read = λ b a r bs e.
          let g = guard_some (leb n (length b)) (some (take n b, drop n b)) (a, r) e in
          let k : take n b ≡ a = same-value (take n b) a (drop n b) r g.1 in
          let l : drop n b ≡ r = same_rest (take n b) a (drop n b) r g.1 in
          sym (take-append-drop n b) ∙ (cc);
    }

pub empty_law : Lawful empty
unfolding empty
empty_law = record { made = λ a r h. refl; fits = λ b a r e. tt; read = λ b a r bs e. same_rest tt a b r e }

-- ---- one after the other

module _ {A B : Type 0} (F : Fmt A) (G : A → Fmt B) (f : Lawful F) (g : (a : A) → Lawful (G a)) where
  seq-fits : (b : List ℕ) (x : A × B) (r : List ℕ) → (seq F G).parse b ≡ some (x, r) → (F.Ok x.0) × ((G x.0).Ok x.1)
  unfolding seq
  seq-fits b x r e =
      let (a, q, ea, ek) = and_then_some (F.parse b) (λ a q. and_then ((G a).parse q) (λ c s. some ((a, c), s))) x r e in
      let (c, s, ec, em) = and_then_some ((G a).parse q) (λ c s. some ((a, c), s)) x r ek in
      let P : A × B → Type 0 = λ y. (F.Ok y.0) × ((G y.0).Ok y.1) in
      subst P (same-value (a, c) x s r em) (f.fits b a q ea, (g a).fits q c s ec)

  seq_read : (b : List ℕ) (x : A × B) (r : List ℕ) → Bytes b → (seq F G).parse b ≡ some (x, r)
      → b ≡ F.print x.0 ++ (G x.0).print x.1 ++ r
  unfolding seq
  seq_read b x r bs e =
      let (a, q, ea, ek) = and_then_some (F.parse b) (λ a q. and_then ((G a).parse q) (λ c s. some ((a, c), s))) x r e in
      let (c, s, ec, em) = and_then_some ((G a).parse q) (λ c s. some ((a, c), s)) x r ek in
      let u : b ≡ F.print a ++ q = f.read b a q bs ea in
      let v : q ≡ (G a).print c ++ s = (g a).read q c s (bytes_rest (F.print a) q b u bs) ec in
      let l : s ≡ r = same_rest (a, c) x s r em in
      let P : A × B → Type 0 = λ y. b ≡ F.print y.0 ++ (G y.0).print y.1 ++ r in
      subst P (same-value (a, c) x s r em)
      (u ∙ ap (λ (z : List ℕ). F.print a ++ z) (v ∙ ap (λ (z : List ℕ). (G a).print c ++ z) l) ∙ sym (append_assoc (F.print a) ((G a).print c) r))

  pub seq_law : Lawful (seq F G)
  unfolding seq
  seq_law =
      record {
        made = λ x r h.
            ap (λ (z : List ℕ). (seq F G).parse z) (append_assoc (F.print x.0) ((G x.0).print x.1) r)
            ∙ rw (f.made x.0 ((G x.0).print x.1 ++ r) h.0) (rw ((g x.0).made x.1 r h.1));
        fits = seq-fits;
        read = seq_read;
      }

-- ---- the same bytes, read as another type

pub via_law : {A B : Type 0} (to : A → B) (from : B → A) (F : Fmt A)
    → ((b : B) → to (from b) ≡ b) → ((a : A) → F.Ok a → from (to a) ≡ a) → Lawful F → Lawful (via to from F)
unfolding via
via_law {A} {B} to from F tf ft f =
    record {
      made = λ x r h. rw (f.made (from x) r h) (ap (λ (y : B). some (y, r)) (tf x));
      fits = λ b x r e.
          let (a, q, ea, ek) = and_then_some (F.parse b) (λ a r. some (to a, r)) x r e in
          let u = f.fits b a q ea in
          subst F.Ok (sym (ft a u) ∙ ap from (same-value (to a) x q r ek)) u;
      read = λ b x r bs e.
          let (a, q, ea, ek) = and_then_some (F.parse b) (λ a r. some (to a, r)) x r e in
          let l : q ≡ r = same_rest (to a) x q r ek in
          let k : a ≡ from x = sym (ft a (f.fits b a q ea)) ∙ ap from (same-value (to a) x q r ek) in
          subst (λ (y : A). b ≡ F.print y ++ r) k (rw l at (f.read b a q bs ea));
    }

-- ---- values that pass a test

pub keep_law : {A : Type 0} (test : A → Bool) (F : Fmt A) → Lawful F → Lawful (such test F)
unfolding such
keep_law {A} test F f =
    record {
      made = λ x r h. rw (f.made x r h.1) (rw h.0);
      fits = λ b x r e.
          let (a, q, ea, ek) = and_then_some (F.parse b) (λ a r. guard (test a) (some (a, r))) x r e in
          let (t, eq) = guard_some (test a) (some (a, q)) (x, r) ek in
          subst (λ (y : A). (test y ≡ true) × F.Ok y) (same-value a x q r eq) (t, f.fits b a q ea);
      read = λ b x r bs e.
          let (a, q, ea, ek) = and_then_some (F.parse b) (λ a r. guard (test a) (some (a, r))) x r e in
          let (t, eq) = guard_some (test a) (some (a, q)) (x, r) ek in
          let l : q ≡ r = same_rest a x q r eq in
          subst (λ (y : A). b ≡ F.print y ++ r) (same-value a x q r eq) (rw l at (f.read b a q bs ea));
    }
