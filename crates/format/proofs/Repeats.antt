-- The laws of the formats that choose or repeat: a blank or a value, n of a kind, a value that may be absent.
-- A blank is told from a value because the value's own format takes no zeros there. Nothing is assumed.
use mathlib.Core.Path.{◌≡◌, refl, sym, ap, ◌∙◌, subst}
use mathlib.Core.Option.{Option, none, some}
use mathlib.Core.Logic.{inl, inr, ⊎_elim, ◌≢◌}
use mathlib.Core.List.{List, [], ◌∷◌, ◌++◌, append_assoc}
use Prim.Native.Nat.{ℕ, zero, suc, ◌≤◌, zero-le}
use native.Mathlib.Omega.{arith}
use native.Mathlib.Nat.{suc_inj, suc-ne-zero}
use lib.ListN.{length, take, drop, replicate, take-append-drop, length-replicate, length-append}
use lib.Seq.{take_at, drop_at, length-take-le}
use lib.Dec.{leb, eqb}
use borrow.Author.Tests.{le-leb, leb-true, eqb-true, eqb-false}
use Rattle.format.specs.Format.{Fmt, Lawful, Bytes, guard, and_then, zeros, parse_blank, or_blank, All, parse_many, print_many, many}
use Rattle.format.specs.Format.{parse_byte, print_optional, OkOptional, parse_present, optional}
use Rattle.format.proofs.Answers.{guard_some, same-value, same_rest, and_then_some, or_else_some, cond_some, bytes_rest, zeros-replicate, zeros-only}
use Rattle.format.proofs.Formats.{byte_read}

-- ---- n zeros for the blank value

module _ {A : Type 0} (n : ℕ) (blank : A) (F : Fmt A) (pb : F.print blank ≡ replicate n 0)
    (refuses : (r : List ℕ) → F.parse (replicate n 0 ++ r) ≡ none) (f : Lawful F) where
  blank-made : (a : A) (r : List ℕ) → (or_blank n blank F).Ok a → (or_blank n blank F).parse (F.print a ++ r) ≡ some (a, r)
  unfolding or_blank
  blank-made a r (inr h) = rw (f.made a r h)
  blank-made a r (inl h) =
      rw (
        h,
        pb,
        refuses r,
        take_at (replicate n 0) r n (length-replicate n 0),
        drop_at (replicate n 0) r n (length-replicate n 0),
        zeros-replicate n,
        le-leb n (length (replicate n 0 ++ r)) (omega (arith, length-append (replicate n 0) r, length-replicate {A = ℕ} n 0)),
      )

  -- n zeros gave the blank value
  zeros-gave : (b : List ℕ) (a : A) (r : List ℕ) → parse_blank n blank b ≡ some (a, r) → (a ≡ blank) × (b ≡ F.print a ++ r)
  zeros-gave b a r p =
      let (t, q) = guard_some (leb n (length b)) (guard (zeros (take n b)) (some (blank, drop n b))) (a, r) p in
      let (z, s) = guard_some (zeros (take n b)) (some (blank, drop n b)) (a, r) q in
      let k : blank ≡ a = same-value blank a (drop n b) r s in
      let l : drop n b ≡ r = same_rest blank a (drop n b) r s in
      let m : length (take n b) ≡ n = length-take-le n b (leb-true n (length b) t) in
      let w : take n b ≡ F.print a = zeros-only (take n b) z ∙ ap (λ (j : ℕ). replicate j 0) m ∙ sym pb ∙ ap F.print k in
      (sym k, sym (take-append-drop n b) ∙ ap (λ (y : List ℕ). y ++ drop n b) w ∙ ap (λ (y : List ℕ). F.print a ++ y) l)

  pub or_blank_law : Lawful (or_blank n blank F)
  unfolding or_blank
  or_blank_law =
      record {
        made = blank-made;
        fits = λ b a r e.
            ⊎_elim (λ p. inr (f.fits b a r p)) (λ p. inl (zeros-gave b a r p).0) (or_else_some (F.parse b) (parse_blank n blank b) (a, r) e);
        read = λ b a r bs e.
            ⊎_elim (λ p. f.read b a r bs p) (λ p. (zeros-gave b a r p).1) (or_else_some (F.parse b) (parse_blank n blank b) (a, r) e);
      }

-- ---- n of a kind

module _ {A : Type 0} (F : Fmt A) (f : Lawful F) where
  many-made : (n : ℕ) (xs : List A) (r : List ℕ) → length xs ≡ n → All F.Ok xs → parse_many F n (print_many F xs ++ r) ≡ some (xs, r)
  many-made zero [] r e h = refl
  many-made zero (x ∷ xs) r e h = absurd (suc-ne-zero (length xs) e)
  many-made (suc n) [] r e h = absurd (suc-ne-zero n (sym e))
  many-made (suc n) (x ∷ xs) r e h =
      ap (λ (z : List ℕ). parse_many F (suc n) z) (append_assoc (F.print x) (print_many F xs) r)
      ∙ rw (f.made x (print_many F xs ++ r) h.0) (rw (many-made n xs r (suc_inj e) h.1))

  many-fits : (n : ℕ) (b : List ℕ) (xs : List A) (r : List ℕ) → parse_many F n b ≡ some (xs, r) → (length xs ≡ n) × All F.Ok xs
  many-fits zero b xs r e = subst (λ (y : List A). (length y ≡ zero) × All F.Ok y) (same-value [] xs b r e) (refl, tt)
  many-fits (suc n) b xs r e =
      let (a, q, ea, ek) = and_then_some (F.parse b) (λ a q. and_then (parse_many F n q) (λ ys s. some (a ∷ ys, s))) xs r e in
      let (ys, s, ec, em) = and_then_some (parse_many F n q) (λ ys s. some (a ∷ ys, s)) xs r ek in
      let v = many-fits n q ys s ec in
      subst (λ (y : List A). (length y ≡ suc n) × All F.Ok y) (same-value (a ∷ ys) xs s r em) (ap suc v.0, (f.fits b a q ea, v.1))

  many_read : (n : ℕ) (b : List ℕ) (xs : List A) (r : List ℕ) → Bytes b → parse_many F n b ≡ some (xs, r) → b ≡ print_many F xs ++ r
  many_read zero b xs r bs e = subst (λ (y : List A). b ≡ print_many F y ++ r) (same-value [] xs b r e) (same_rest [] xs b r e)
  many_read (suc n) b xs r bs e =
      let (a, q, ea, ek) = and_then_some (F.parse b) (λ a q. and_then (parse_many F n q) (λ ys s. some (a ∷ ys, s))) xs r e in
      let (ys, s, ec, em) = and_then_some (parse_many F n q) (λ ys s. some (a ∷ ys, s)) xs r ek in
      let u : b ≡ F.print a ++ q = f.read b a q bs ea in
      let v : q ≡ print_many F ys ++ s = many_read n q ys s (bytes_rest (F.print a) q b u bs) ec in
      let l : s ≡ r = same_rest (a ∷ ys) xs s r em in
      subst (λ (y : List A). b ≡ print_many F y ++ r) (same-value (a ∷ ys) xs s r em)
      (u ∙ ap (λ (z : List ℕ). F.print a ++ z) (v ∙ ap (λ (z : List ℕ). print_many F ys ++ z) l) ∙ sym (append_assoc (F.print a) (print_many F ys) r))

  pub many_law : (n : ℕ) → Lawful (many n F)
  unfolding many
  many_law n = record { made = λ xs r h. many-made n xs r h.0 h.1; fits = many-fits n; read = many_read n }

-- ---- a byte 0, or a byte 1 and a value, where the byte is at most hi

module _ {A : Type 0} (hi : ℕ) (F : Fmt A) (small : hi ≤ 1) (f : Lawful F) where
  optional-made : (x : Option A) (r : List ℕ) → OkOptional hi F x → and_then (parse_byte 0 hi (print_optional F x ++ r)) (parse_present F) ≡ some (x, r)
  optional-made none r h = simp (le-leb 0 hi zero-le)
  optional-made (some a) r h = simp (le-leb 1 hi h.0, f.made a r h.1)

  -- the two ways of an answer
  data Present (b : List ℕ) (x : Option A) (r : List ℕ) : Type 0 where
    absent : b ≡ 0 ∷ r → x ≡ none → Present b x r
    present : (a : A) (q : List ℕ) → 1 ≤ hi → b ≡ 1 ∷ q → F.parse q ≡ some (a, r) → x ≡ some a → Present b x r

  optional_ways : (b : List ℕ) (x : Option A) (r : List ℕ) → and_then (parse_byte 0 hi b) (parse_present F) ≡ some (x, r) → Present b x r
  optional_ways b x r e =
      let (n, q, ea, ek) = and_then_some (parse_byte 0 hi b) (parse_present F) x r e in
      let u = byte_read 0 hi b n q ea in
      ⊎_elim
      (λ c.
      let z : n ≡ 0 = eqb-true n 0 c.0 in
      let l : q ≡ r = same_rest none x q r c.1 in
      absent (u.1 ∙ (cc)) (sym (same-value none x q r c.1)))
      (λ c.
      let z : n ≢ 0 = eqb-false n 0 c.0 in
      let o : n ≡ 1 = omega (arith, u.0) in
      let (a, s, ec, em) = and_then_some (F.parse q) (λ a r. some (some a, r)) x r c.1 in
      let l : s ≡ r = same_rest (some a) x s r em in
      present a q (omega (arith, u.0)) (u.1 ∙ (λ i. o i ∷ q)) (rw l at ec) (sym (same-value (some a) x s r em)))
      (cond_some (eqb n 0) (some (none, q)) (and_then (F.parse q) (λ a r. some (some a, r))) (x, r) ek)

  way-fits : (b : List ℕ) (x : Option A) (r : List ℕ) → Present b x r → OkOptional hi F x
  way-fits b x r (absent e p) = subst (OkOptional hi F) (sym p) tt
  way-fits b x r (present a q g e ea p) = subst (OkOptional hi F) (sym p) (g, f.fits q a r ea)

  way_read : (b : List ℕ) (x : Option A) (r : List ℕ) → Bytes b → Present b x r → b ≡ print_optional F x ++ r
  way_read b x r bs (absent e p) = subst (λ (y : Option A). b ≡ print_optional F y ++ r) (sym p) e
  way_read b x r bs (present a q g e ea p) =
      subst (λ (y : Option A). b ≡ print_optional F y ++ r) (sym p) (e ∙ ap (λ (y : List ℕ). 1 ∷ y) (f.read q a r (bytes_rest (1 ∷ []) q b e bs) ea))

  pub optional_law : Lawful (optional hi F)
  unfolding optional
  optional_law =
      record {
        made = optional-made;
        fits = λ b x r e. way-fits b x r (optional_ways b x r e);
        read = λ b x r bs e. way_read b x r bs (optional_ways b x r e);
      }
