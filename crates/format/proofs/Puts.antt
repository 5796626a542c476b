-- Bytes put over a list: the length stays, one run put after another is their join put once, and runs apart from each other are put in any order.
-- The list is the join of what stands before, the new bytes and what stands after. Nothing is assumed.
use mathlib.Core.Path.{◌≡◌, refl, sym, ap, ◌∙◌}
use mathlib.Core.List.{List, [], ◌∷◌, ◌++◌, append_assoc}
use Prim.Native.Nat.{ℕ, ◌+◌, ◌≤◌, ◌<◌}
use native.Mathlib.Omega.{arith}
use native.Mathlib.Numerals.{add-one}
use lib.ListN.{length, take, drop, set, take-append-drop, length-append, length-drop}
use lib.Seq.{length-take-le, take_at, take-take, take-append-le, drop-append-le, drop-append-add, drop-drop, set_split, paste, take-length}
use Rattle.format.specs.Reading.{put, over, Wrote}

pub put-length : (d : List ℕ) (at : ℕ) (b : List ℕ) → at + length b ≤ length d → length (put d at b) ≡ length d
unfolding put
put-length d at b h = simp (length-append, length-take-le at d (omega arith), length-drop) (omega arith)

-- one run of bytes after another
pub put_put : (d : List ℕ) (at n : ℕ) (a b : List ℕ) → length a ≡ n → at + n + length b ≤ length d → put (put d at a) (at + n) b ≡ put d at (a ++ b)
unfolding put
put_put d at n a b e h =
    let T : List ℕ = take at d in
    let D : List ℕ = drop (at + length a) d in
    let ta : T ++ (a ++ D) ≡ T ++ a ++ D = sym (append_assoc T a D) in
    let lt : length (T ++ a) ≡ at + n = omega (arith, length-append T a, length-take-le at d (omega arith), e) in
    let p : take (at + n) (T ++ (a ++ D)) ≡ T ++ a = ap (take (at + n)) ta ∙ take_at (T ++ a) D (at + n) lt in
    let m : at + length a + length b ≡ at + length (a ++ b) = omega (arith, length-append a b) in
    let q : drop (at + n + length b) (T ++ (a ++ D)) ≡ drop (at + length (a ++ b)) d =
    ap (drop (at + n + length b)) ta ∙ ap (λ (k : ℕ). drop (k + length b) (T ++ a ++ D)) (sym lt) ∙ drop-append-add (T ++ a) D (length b)
    ∙ drop-drop (length b) (at + length a) d ∙ ap (λ (k : ℕ). drop k d) m in
    rw (p, q) (simp append_assoc)

-- runs of bytes that do not touch each other are put in any order
pub puts_apart : (d : List ℕ) (p : ℕ) (a : List ℕ) (q : ℕ) (b : List ℕ) → p + length a ≤ q → q + length b ≤ length d
    → put (put d p a) q b ≡ put (put d q b) p a
unfolding put
puts_apart d p a q b h r =
    let P : List ℕ = take p d in
    let Q : List ℕ = take q d in
    let E : List ℕ = drop (q + length b) d in
    let M : List ℕ = drop (p + length a) Q in
    let lq : length Q ≡ q = length-take-le q d (omega arith) in
    let lm : length (P ++ a ++ M) ≡ q =
    omega (arith, length-append (P ++ a) M, length-append P a, length-take-le p d (omega arith), length-drop (p + length a) Q) in
    let w : drop (p + length a) d ≡ M ++ drop q d =
    ap (drop (p + length a)) (sym (take-append-drop q d)) ∙ drop-append-le (p + length a) Q (drop q d) (omega arith) in
    let e : P ++ (a ++ drop (p + length a) d) ≡ P ++ a ++ M ++ drop q d = rw w (simp append_assoc) in
    let f : drop (q + length b) (P ++ a ++ M ++ drop q d) ≡ E =
    ap (λ (k : ℕ). drop (k + length b) (P ++ a ++ M ++ drop q d)) (sym lm) ∙ drop-append-add (P ++ a ++ M) (drop q d) (length b)
    ∙ drop-drop (length b) q d in
    let g : take p (Q ++ (b ++ E)) ≡ P = take-append-le p Q (b ++ E) (omega arith) ∙ take-take p q d (omega arith) in
    rw (e, take_at (P ++ a ++ M) (drop q d) q lm, f, g, drop-append-le (p + length a) Q (b ++ E) (omega arith)) (simp append_assoc)

-- at the start of a buffer
pub put-over : (d b : List ℕ) → put d 0 b ≡ over b d
unfolding put over
put-over d b =
    let e : 0 + length b ≡ length b = omega arith in
    ap (λ (k : ℕ). b ++ drop k d) e

-- ---- what was written

pub wrote_then : {d e f : List ℕ} {at k n : ℕ} {a b : List ℕ} → Wrote d at a e k → Wrote e k b f n → at + length a + length b ≤ length d
    → Wrote d at (a ++ b) f n
wrote_then {d} {e} {f} {at} {k} {n} {a} {b} p q h =
    record {
      bytes = q.bytes ∙ ap (λ (z : List ℕ). put z k b) p.bytes ∙ ap (λ (z : ℕ). put (put d at a) z b) p.place ∙ put_put d at (length a) a b
          refl h;
      place = omega (arith, p.place, q.place, length-append a b);
    }

pub wrote-length : {d e : List ℕ} {at n : ℕ} {b : List ℕ} → Wrote d at b e n → at + length b ≤ length d → length e ≡ length d
wrote-length {d} {e} {at} {n} {b} w h = ap length w.bytes ∙ put-length d at b h

pub wrote-byte : (d : List ℕ) (at v : ℕ) → at < length d → Wrote d at (v ∷ []) (set d at v) (at + 1)
unfolding put
wrote-byte d at v h = record { bytes = rw add-one (set_split d at v h); place = refl }

-- a copy that has come to its end
pub wrote-copy : (d : List ℕ) (at : ℕ) (b : List ℕ) → Wrote d at b (paste d at b (length b)) (at + length b)
unfolding put
wrote-copy d at b = record { bytes = rw take-length (append_assoc (take at d) b (drop (at + length b) d)); place = refl }
