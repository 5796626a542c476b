-- Tests of equality: they tell equality of lists, stamps and candidates, and comparing printed stamps is comparing stamps.
-- The number of a stamp is read back off its four bytes. Nothing is assumed.
use mathlib.Core.Path.{◌≡◌, refl, sym, ap, ◌∙◌, subst}
use mathlib.Core.Bool.{Bool, true, false, cond, ◌&&◌}
use mathlib.Core.List.{List, [], ◌∷◌, ◌++◌}
use mathlib.Core.Option.{Option, none, some}
use Prim.Native.Nat.{ℕ, ◌/◌, ◌%◌}
use lib.Dec.{T, eqb}
use lib.Pointwise.{pointwise}
use lib.ListN.{get_or, drop}
use borrow.Author.Tests.{eq-eqb, eqb-true}
use Rattle.protocol.specs.declared.Stamp.{Stamp}
use Rattle.format.specs.Format.{value4, via, seq, number4, byte, run}
use Rattle.protocol.specs.Values.{Candidate, Share, Write, same_list, same_stamp, same_candidate}
use Rattle.protocol.specs.Packet.{stamp_f}
use Rattle.protocol.specs.Primitives.{stamp_message_def, candidate_message}
use Rattle.protocol.specs.Memory.{lookup}
use Rattle.format.proofs.Formats.{value4-print}
use Rattle.cluster.proofs.Tests.{and_both}

-- two tests that imply each other are one
pub test_ext : (a b : Bool) → (a ≡ true → b ≡ true) → (b ≡ true → a ≡ true) → a ≡ b
test_ext true b f g = sym (f refl)
test_ext false true f g = g refl
test_ext false false f g = refl

and_on3 : (p q r : Bool) → (p && (q && r)) ≡ true → (p ≡ true) × (q ≡ true) × (r ≡ true)
and_on3 p q r e =
    let (h, k) = and_both p (q && r) e in
    let (l, m) = and_both q r k in
    (h, l, m)

-- ---- lists

pub same_true : (a b : List ℕ) → same_list a b ≡ true → a ≡ b
same_true [] [] e = refl
same_true [] (y ∷ ys) e = absurd (subst T (sym e) tt)
same_true (x ∷ xs) [] e = absurd (subst T (sym e) tt)
same_true (x ∷ xs) (y ∷ ys) e =
    let (p, q) = and_both (eqb x y) (same_list xs ys) e in
    let h : x ≡ y = eqb-true x y p in
    let k : xs ≡ ys = same_true xs ys q in
    λ i. h i ∷ k i

pub same_refl : (a : List ℕ) → same_list a a ≡ true
same_refl [] = refl
same_refl (x ∷ xs) = rw (eq-eqb x x refl) (same_refl xs)

-- comparing arrays or slices with `==` is comparing lists
pub compared : (a b : List ℕ) → pointwise eqb a b ≡ same_list a b
compared [] [] = refl
compared [] (y ∷ ys) = refl
compared (x ∷ xs) [] = refl
compared (x ∷ xs) (y ∷ ys) = ap (λ (t : Bool). eqb x y && t) (compared xs ys)

pub byte_differs : (a b : List ℕ) (i : ℕ) → (get_or a i 0 ≡ get_or b i 0 → ⊥) → same_list a b ≡ false
byte_differs a b i h = by (same_list a b) refl
  where
    by : (t : Bool) → same_list a b ≡ t → t ≡ false
    by true e = absurd (h (ap (λ (x : List ℕ). get_or x i 0) (same_true a b e)))
    by false e = refl

-- ---- stamps and candidates

pub stamp-same : (a b : Stamp) → same_stamp a b ≡ true → a ≡ b
unfolding same_stamp
stamp-same a b e =
    let (n, w, t) = and_on3 _ _ _ e in
    λ i. record {
      number = eqb-true a.number b.number n i;
      writer = eqb-true a.writer b.writer w i;
      tag = same_true a.tag b.tag t i;
    }

pub stamp-refl : (a : Stamp) → same_stamp a a ≡ true
unfolding same_stamp
stamp-refl a = rw (eq-eqb a.number a.number refl, eq-eqb a.writer a.writer refl) (same_refl a.tag)

pub candidate-same : (a b : Candidate) → same_candidate a b ≡ true → a ≡ b
unfolding same_candidate
candidate-same a b e =
    let (s, n, t) = and_on3 _ _ _ e in
    λ i. record {
      stamp = stamp-same a.stamp b.stamp s i;
      nonce = same_true a.nonce b.nonce n i;
      tags = same_true a.tags b.tags t i;
    }

pub candidate-refl : (a : Candidate) → same_candidate a a ≡ true
unfolding same_candidate
candidate-refl a = rw (stamp-refl a.stamp, same_refl a.nonce) (same_refl a.tags)

-- ---- printed stamps

pub print_inj : (a b : Stamp) → stamp_f.print a ≡ stamp_f.print b → a ≡ b
unfolding stamp_f via seq number4 byte run
print_inj a b e =
    let n : ℕ = a.number in
    let m : ℕ = b.number in
    let c : n / 16777216 ≡ m / 16777216 = ap (λ (z : List ℕ). get_or z 0 0) e in
    let d : n / 65536 % 256 ≡ m / 65536 % 256 = ap (λ (z : List ℕ). get_or z 1 0) e in
    let f : n / 256 % 256 ≡ m / 256 % 256 = ap (λ (z : List ℕ). get_or z 2 0) e in
    let g : n % 256 ≡ m % 256 = ap (λ (z : List ℕ). get_or z 3 0) e in
    let h : n ≡ m = sym (value4-print n) ∙ (λ i. value4 (c i) (d i) (f i) (g i)) ∙ value4-print m in
    let k : a.writer ≡ b.writer = ap (λ (z : List ℕ). get_or z 4 0) e in
    let l : a.tag ≡ b.tag = ap (drop 5) e in
    λ i. record { number = h i; writer = k i; tag = l i }

pub same_printed : (a b : Stamp) → same_list (stamp_f.print a) (stamp_f.print b) ≡ same_stamp a b
same_printed a b =
    test_ext _ _
    (λ e. let q : a ≡ b = print_inj a b (same_true _ _ e) in rw q (stamp-refl b))
    (λ e. rw (stamp-same a b e) (same_refl (stamp_f.print b)))

-- the first stored write whose stamp has the bytes key
unfoldable pub found_by : List ℕ → List Write → Option Share
found_by key [] = none
found_by key (w ∷ ws) = cond (same_list (stamp_f.print w.stamp) key) (some w.share) (found_by key ws)

-- what the history holds, by printed stamp and by value
pub found-held : (a : Stamp) (ws : List Write) → found_by (stamp_f.print a) ws ≡ lookup a ws
unfolding found_by lookup
found-held a [] = refl
found-held a (w ∷ ws) = rw (same_printed w.stamp a, found-held a ws)

-- the tagged bytes are those of the packet
pub message_printed : (a : Stamp) (d : List ℕ) → candidate_message a d ≡ stamp_f.print a ++ d
unfolding candidate_message stamp_message_def stamp_f via seq number4 byte run
message_printed a d = refl
