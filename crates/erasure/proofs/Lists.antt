-- Laws of lists that are filled place by place: entries and length of `table`, prefixes, and buffers whose first bytes were written.
-- Each holds by going through the places. Nothing is assumed.
use mathlib.Core.Path.{◌≡◌, refl, sym, ap, ap₂, subst, ◌∙◌}
use mathlib.Core.Logic.{◌≢◌}
use mathlib.Core.List.{List, [], ◌∷◌, ◌++◌, map}
use Prim.Native.Nat.{ℕ, zero, suc, ◌+◌, ◌-◌, ◌<◌, ◌≤◌, suc-le-suc}
use native.Mathlib.Nat.{zero-lt-suc, zero-add, le_of_suc-le-suc, not-suc-le-zero}
use native.Mathlib.Decide.{dec_lt}
use native.Mathlib.Omega.{arith}
use lib.ListN.{length, get_or, take, drop, length-append, length-drop, get_or-append}
use lib.Seq.{ext_get_or, length-take-le, get_or-take, get_or-drop, get_or-append-add, get_or-append_right}
use borrow.Rule.Slice.PartMut.{put_mid}
use Rattle.std.proofs.lemmas.Grind.{common_steps, elements, moves, pieces}
use Rattle.gf256.proofs.Byte.{Small}
use Rattle.gf256.proofs.Apart.{Apart, Distinct, apart_at}
use Rattle.erasure.specs.Fragments.{table}
use Rattle.erasure.specs.Lanes.{RunWritten}

pub length-table : {A : Type 0} (n : ℕ) (g : ℕ → A) → length (table n g) ≡ n
unfolding table
length-table zero g = refl
length-table (suc n) g = ap suc (length-table n (λ i. g (suc i)))

pub get_or-table : {A : Type 0} (n : ℕ) (g : ℕ → A) (i : ℕ) (d : A) → i < n → get_or (table n g) i d ≡ g i
unfolding table
get_or-table zero g i d h = absurd (not-suc-le-zero h)
get_or-table (suc n) g zero d h = refl
get_or-table (suc n) g (suc i) d h = get_or-table n (λ j. g (suc j)) i d (le_of_suc-le-suc h)

pub get_d_map : {A B : Type 0} (f : A → B) (xs : List A) (i : ℕ) (d : A) (e : B) → i < length xs → get_or (map f xs) i e ≡ f (get_or xs i d)
get_d_map f [] i d e h = absurd (not-suc-le-zero h)
get_d_map f (x ∷ xs) zero d e h = refl
get_d_map f (x ∷ xs) (suc i) d e h = get_d_map f xs i d e (le_of_suc-le-suc h)

pub map-map : {A B C : Type 0} (g : B → C) (h : A → B) (xs : List A) → map g (map h xs) ≡ map (λ x. g (h x)) xs
map-map g h [] = refl
map-map {C = C} g h (x ∷ xs) = ap (λ (l : List C). g (h x) ∷ l) (map-map g h xs)

-- a list is the table of its entries
pub table_is : (n : ℕ) (xs : List ℕ) (g : ℕ → ℕ) → length xs ≡ n → ((i : ℕ) → i < n → get_or xs i 0 ≡ g i) → xs ≡ table n g
table_is n xs g l e =
    ext_get_or 0 xs (table n g) (l ∙ sym (length-table n g))
    (λ i h. let b : i < n = subst (λ (x : ℕ). i < x) l h in e i b ∙ sym (get_or-table n g i 0 b))

pub take_is : (k : ℕ) (a b : List ℕ) → k ≤ length a → length b ≡ k → ((i : ℕ) → i < k → get_or a i 0 ≡ get_or b i 0) → take k a ≡ b
take_is k a b h l e =
    ext_get_or 0 (take k a) b (length-take-le k a h ∙ sym l)
    (λ i hi. let b : i < k = subst (λ (x : ℕ). i < x) (length-take-le k a h) hi in get_or-take k a i 0 b ∙ e i b)

-- a buffer whose first n bytes were written
pub written : (out old : List ℕ) (n : ℕ) (g : ℕ → ℕ) → length out ≡ length old → n ≤ length old → ((j : ℕ) → j < n → get_or out j 0 ≡ g j)
    → ((j : ℕ) → n ≤ j → get_or out j 0 ≡ get_or old j 0) → out ≡ table n g ++ drop n old
written out old n g l h new kept =
    ext_get_or 0 out (table n g ++ drop n old)
    (l ∙ sym (length-append (table n g) (drop n old) ∙ ap₂ (λ (x y : ℕ). x + y) (length-table n g) (length-drop n old) ∙ omega arith))
    (λ j b. go j (dec_lt j n))
  where
    go : (j : ℕ) → Dec (j < n) → get_or out j 0 ≡ get_or (table n g ++ drop n old) j 0
    go j (yes b) = new j b ∙ sym (get_or-append (table n g) (drop n old) 0 j (subst (λ (x : ℕ). j < x) (sym (length-table n g)) b) ∙ get_or-table n g
        j 0 b)
    go j (no nb) =
        let ge : n ≤ j = omega arith in
        kept j ge
        ∙ sym (ap (λ (x : ℕ). get_or (table n g ++ drop n old) x 0) (let e : length (table n g) ≡ n = length-table n g in omega (arith, e))
        ∙ get_or-append-add (table n g) (drop n old) (j - n) 0
        ∙ get_or-drop n old (j - n) 0 ∙ ap (λ (x : ℕ). get_or old x 0) (omega arith))

-- ---- bytes, and numbers that are all different, told by their places

pub small_of : (xs : List ℕ) → ((i : ℕ) → i < length xs → get_or xs i 0 < 256) → Small xs
small_of [] h = tt
small_of (x ∷ xs) h = (h 0 (zero-lt-suc (length xs)), small_of xs (λ i b. h (suc i) (suc-le-suc b)))

apart_of : (y : ℕ) (xs : List ℕ) → ((i : ℕ) → i < length xs → y ≢ get_or xs i 0) → Apart y xs
apart_of y [] h = tt
apart_of y (x ∷ xs) h = (h 0 (zero-lt-suc (length xs)), apart_of y xs (λ i b. h (suc i) (suc-le-suc b)))

pub distinct_of : (xs : List ℕ) → ((i j : ℕ) → i < j → j < length xs → get_or xs i 0 ≢ get_or xs j 0) → Distinct xs
distinct_of [] h = tt
distinct_of (x ∷ xs) h = (
  apart_of x xs (λ i b. h 0 (suc i) (zero-lt-suc i) (suc-le-suc b)),
  distinct_of xs (λ i j l b. h (suc i) (suc j) (suc-le-suc l) (suc-le-suc b)),
)

pub distinct_at : (xs : List ℕ) → Distinct xs → (i j : ℕ) → i < j → j < length xs → get_or xs i 0 ≢ get_or xs j 0
distinct_at [] d i j l h = absurd (not-suc-le-zero h)
distinct_at (x ∷ xs) d zero zero l h = absurd (not-suc-le-zero l)
distinct_at (x ∷ xs) d (suc i) zero l h = absurd (not-suc-le-zero l)
distinct_at (x ∷ xs) d zero (suc j) l h = apart_at 0 x xs d.0 j (le_of_suc-le-suc h)
distinct_at (x ∷ xs) d (suc i) (suc j) l h = distinct_at xs d.1 i j (le_of_suc-le-suc l) (le_of_suc-le-suc h)

-- ---- writing from a place on

-- a second piece behind the first
pub written_on : (old mid new : List ℕ) (at n m : ℕ) (g : ℕ → ℕ) → RunWritten old mid at n g → RunWritten mid new (at + n) m (λ i. g (n + i))
    → RunWritten old
    new at (n + m) g
written_on old mid new at n m g a b = record {
  long = b.long ∙ a.long;
  here = λ i h. go i h (dec_lt i n);
  below = λ i h. b.below i (omega arith) ∙ a.below i h;
  above = λ i h. b.above i (omega arith) ∙ a.above i (omega arith);
}
  where
    go : (i : ℕ) → i < n + m → Dec (i < n) → get_or new (at + i) 0 ≡ g i
    go i h (yes l) = b.below (at + i) (omega arith) ∙ a.here i l
    go i h (no nl) =
        let e : n + (i - n) ≡ i = omega arith in
        ap (λ (x : ℕ). get_or new x 0) (omega arith) ∙ b.here (i - n) (omega arith) ∙ ap g e

-- from the start on
pub written_next : (old mid new : List ℕ) (n m : ℕ) (g : ℕ → ℕ) → RunWritten old mid 0 n g → RunWritten mid new n m (λ i. g (n + i))
    → RunWritten old new 0
    (n + m) g
written_next old mid new n m g a b = written_on old mid new 0 n m g a (subst (λ (x : ℕ). RunWritten mid new x m (λ i. g (n + i))) (sym (zero-add n))
    b)

-- a byte that was written from the start on
pub written_at : (old new : List ℕ) (n : ℕ) (g : ℕ → ℕ) → RunWritten old new 0 n g → (i : ℕ) → i < n → get_or new i 0 ≡ g i
written_at old new n g w i h = ap (λ (x : ℕ). get_or new x 0) (sym (zero-add i)) ∙ w.here i h

-- a buffer whose first n bytes were written
pub written_first : (old new : List ℕ) (n : ℕ) (g : ℕ → ℕ) → n ≤ length old → RunWritten old new 0 n g → new ≡ table n g ++ drop n old
written_first old new n g h w =
    written new old n g w.long h (written_at old new n g w) (λ i b. w.above i (omega arith))

-- the same bytes, told otherwise
pub written_as : (old new : List ℕ) (at m : ℕ) (g h : ℕ → ℕ) → ((i : ℕ) → i < m → g i ≡ h i) → RunWritten old new at m g → RunWritten old new at m h
written_as old new at m g h e w = record { long = w.long; here = λ i l. w.here i l ∙ e i l; below = w.below; above = w.above }

-- and with ys put there, as a copy to a part puts them
pub put_written : (old ys : List ℕ) (at m k : ℕ) (g : ℕ → ℕ) → length ys ≡ m → k ≡ m → at + m ≤ length old
    → ((i : ℕ) → i < m → get_or ys i 0 ≡ g i) → RunWritten old (put_mid at k old ys) at m g
put_written old ys at m k g long same fits are = record {
  long = grind (arith, common_steps, elements, moves, pieces);
  here = λ i h.
      past (at + i) i (omega arith) ∙ get_or-append ys rest 0 i (omega arith) ∙ are i h;
  below = λ i h. get_or-append (take at old) (ys ++ rest) 0 i (omega (arith, lead)) ∙ get_or-take at old i 0 h;
  above = λ i h.
      past i (i - at) (omega arith) ∙ get_or-append_right ys rest (i - at) 0 (omega arith) ∙ get_or-drop k (drop at old) (i - at - length ys) 0
      ∙ get_or-drop at old (k + (i - at - length ys)) 0 ∙ ap (λ (x : ℕ). get_or old x 0) (omega arith);
}
  where
    rest : List ℕ
    rest = drop k (drop at old)

    lead : length (take at old) ≡ at
    lead = length-take-le at old (omega arith)

    past : (i j : ℕ) → at + j ≡ i → get_or (take at old ++ (ys ++ rest)) i 0 ≡ get_or (ys ++ rest) j 0
    past i j e = get_or-append_right (take at old) (ys ++ rest) i 0 (omega (arith, lead)) ∙ ap (λ (x : ℕ). get_or (ys ++ rest) x 0) (omega (arith, lead))

-- a piece more, put behind the first q bytes
pub written_step : (old mid ys : List ℕ) (q n k d e : ℕ) (g : ℕ → ℕ) → RunWritten old mid 0 d g → d ≡ q → length ys ≡ n → k ≡ n → q + n ≤ length mid
    → ((i : ℕ) → i < n → get_or ys i 0 ≡ g (q + i)) → e ≡ q + n → RunWritten old (put_mid q k mid ys) 0 e g
written_step old mid ys q n k d e g before start long same fits are end =
    subst (λ (x : ℕ). RunWritten old (put_mid q k mid ys) 0 x g) (sym end)
    (written_next old mid (put_mid q k mid ys) q n g (subst (λ (x : ℕ). RunWritten old mid 0 x g) start before)
    (put_written mid ys q n k (λ i. g (q + i)) long same fits are))

-- a part of src
pub part_long : (src ys : List ℕ) (from m n : ℕ) → ys ≡ take n (drop from src) → n ≡ m → from + m ≤ length src → length ys ≡ m
part_long src ys from m n part same there =
    ap length part ∙ length-take-le n (drop from src) (omega (arith, length-drop {A = ℕ} from src)) ∙ same

pub part_at : (src ys : List ℕ) (from m n : ℕ) → ys ≡ take n (drop from src) → n ≡ m → (i : ℕ) → i < m → get_or ys i 0 ≡ get_or src (from + i) 0
part_at src ys from m n part same i h =
    ap (λ (l : List ℕ). get_or l i 0) part ∙ get_or-take n (drop from src) i 0 (omega arith) ∙ get_or-drop from src i 0
