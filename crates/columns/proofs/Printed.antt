-- A number is printed from its last digit on: what has been printed stands at the end of its column, spaces before it, and the rest of the number is
-- due there. Columns are put one after another. By induction on the columns. Assumes nothing.
use mathlib.Core.Path.{◌≡◌, refl, ap, sym, ◌∙◌}
use mathlib.Core.Bool.{Bool, true, false, cond}
use mathlib.Core.List.{List, [], ◌∷◌, ◌++◌, append_assoc, append-nil}
use Prim.Native.Nat.{ℕ, zero, suc, ◌+◌, ◌-◌, ◌*◌, ◌/◌, ◌%◌, ◌≤◌, ◌<◌}
use native.Mathlib.Omega.{arith}
use native.Mathlib.Nat.{div-lt_iff_lt-mul, div-add-mod'}
use native.Mathlib.Numerals.{add-one}
use lib.Dec.{eqb}
use lib.ListN.{length, get_or, take, drop, set, replicate, length-append, length-replicate, length-set, length-drop, take-append-drop}
use lib.Seq.{take-suc, take-take, take_all, take-length, take_at, length-take-le, take-set-le, set_at, drop-set-lt, drop-cons, drop-drop, drop-append-add, get_or-set_same, paste}
use borrow.Author.Tests.{eq-eqb, ne_eqb, lt-ltb, le-ltb}
use Rattle.columns.specs.Columns.{column_size, justified, columns, row}
use Rattle.columns.specs.Reads.{row_at}

-- the first of many copies are copies
pub take_copies : (m n x : ℕ) → m ≤ n → take m (replicate n x) ≡ replicate m x
take_copies zero n x h = refl
take_copies (suc m) zero x h = absurd (omega arith)
take_copies (suc m) (suc n) x h = ap (λ (z : List ℕ). x ∷ z) (take_copies m n x (omega arith))

-- i characters are left for the rest of the number v
pub record Printing (v i rest : ℕ) (a : List ℕ) : Type 0 where
  pub size : length a ≡ column_size
  pub left : i ≤ column_size
  pub front : take i a ≡ replicate i 32
  pub back : justified column_size v ≡ justified i rest ++ drop i a

module _ (v j rest : ℕ) (a : List ℕ) (p : Printing v (suc j) rest a) where
  room : j < length a
  room = omega (arith, p.size, p.left)

  spaces_left : take j (set a j (48 + rest % 10)) ≡ replicate j 32
  spaces_left = take-set-le j a j (48 + rest % 10) (omega arith) ∙ cut ∙ ap (take j) p.front ∙ take_copies j (suc j) 32 (omega arith)
    where
      cut : take j a ≡ take j (take (suc j) a)
      cut = sym (take-take j (suc j) a (omega arith))

  digit_put : drop j (set a j (48 + rest % 10)) ≡ (48 + rest % 10) ∷ drop (suc j) a
  digit_put =
      let d : ℕ = 48 + rest % 10 in
      drop-cons (set a j d) j 0 (omega (arith, length-set a j d, room))
      ∙ rw (get_or-set_same a j d 0 room, drop-set-lt (suc j) a j d (omega arith))

  pub printing_more : (rest / 10 ≡ 0 → ⊥) → Printing v j (rest / 10) (set a j (48 + rest % 10))
  unfolding justified
  printing_more h =
      record {
        size = length-set a j (48 + rest % 10) ∙ p.size;
        left = omega (arith, p.left);
        front = spaces_left;
        back = p.back ∙ rw (ne_eqb (rest / 10) 0 h, digit_put) (append_assoc (justified j (rest / 10)) ((48 + rest % 10) ∷ []) (drop (suc j) a));
      }

  pub printing_last : rest / 10 ≡ 0 → set a j (48 + rest % 10) ≡ justified column_size v
  unfolding justified
  printing_last h =
      let d : ℕ = 48 + rest % 10 in
      sym (take-append-drop j (set a j d)) ∙ rw (spaces_left, digit_put)
      (sym (p.back ∙ rw (eq-eqb (rest / 10) 0 h) (append_assoc (replicate j 32) (d ∷ []) (drop (suc j) a))))

pub printing_full : (v rest : ℕ) (a : List ℕ) → Printing v 0 rest a → a ≡ justified column_size v
unfolding justified
printing_full v rest a p = sym p.back

-- ---- columns

spaces-or : (b : Bool) (n : ℕ) (d : List ℕ) → length d ≡ n → length (cond b (replicate n 32) d) ≡ n
spaces-or true n d h = length-replicate n 32
spaces-or false n d h = h

pub justified-length : (n v : ℕ) → length (justified n v) ≡ n
unfolding justified
justified-length zero v = refl
justified-length (suc n) v =
    length-append (cond (eqb (v / 10) 0) (replicate n 32) (justified n (v / 10))) ((48 + v % 10) ∷ [])
    ∙ rw (spaces-or (eqb (v / 10) 0) n (justified n (v / 10)) (justified-length n (v / 10))) (omega arith)

columns-append : (vs ws : List ℕ) → columns (vs ++ ws) ≡ columns vs ++ columns ws
unfolding columns
columns-append [] ws = refl
columns-append (v ∷ vs) ws = ap (λ (z : List ℕ). justified column_size v ++ z) (columns-append vs ws) ∙ sym
    (append_assoc (justified column_size v) (columns vs) (columns ws))

pub columns-length : (vs : List ℕ) → length (columns vs) ≡ column_size * length vs
unfolding columns
columns-length [] = refl
columns-length (v ∷ vs) = length-append (justified column_size v) (columns vs) ∙ omega (arith, justified-length column_size v, columns-length vs)

pub row-length : (vs : List ℕ) → length (row vs) ≡ column_size * length vs + 1
unfolding row
row-length vs = length-append (columns vs) (10 ∷ []) ∙ omega (arith, columns-length vs)

columns_one : (v : ℕ) → columns (v ∷ []) ≡ justified column_size v
unfolding columns
columns_one v = append-nil (justified column_size v)

pub columns_more : (vs : List ℕ) (j : ℕ) → j < length vs → columns (take (j + 1) vs) ≡ columns (take j vs) ++ justified column_size (get_or vs j 0)
columns_more vs j h =
    rw (add-one, take-suc vs j 0 h) (columns-append (take j vs) (get_or vs j 0 ∷ []) ∙ ap (λ (z : List ℕ). columns (take j vs) ++ z)
    (columns_one (get_or vs j 0)))

-- ---- put one after another

-- the columns of the first j values stand from the place on
pub record PutTo (d : List ℕ) (at : ℕ) (vs e : List ℕ) (j : ℕ) : Type 0 where
  pub within : j ≤ length vs
  pub bytes : e ≡ take at d ++ columns (take j vs) ++ drop (at + column_size * j) d

pub put_none : (d : List ℕ) (at : ℕ) (vs : List ℕ) → PutTo d at vs d 0
unfolding columns
put_none d at vs =
    let e : at + 0 ≡ at = omega arith in
    record { within = omega arith; bytes = rw (e, append-nil (take at d)) (sym (take-append-drop at d)) }

module _ (d : List ℕ) (at : ℕ) (vs : List ℕ) (room : at + column_size * length vs ≤ length d) where
  front_length : (j : ℕ) → j ≤ length vs → length (take at d ++ columns (take j vs)) ≡ at + column_size * j
  front_length j h = omega (
    arith,
    length-append (take at d) (columns (take j vs)),
    length-take-le at d (omega arith),
    columns-length (take j vs),
    length-take-le j vs h,
  )

  pub same_size : (e : List ℕ) (j : ℕ) → PutTo d at vs e j → length e ≡ length d
  same_size e j p = omega (
    arith,
    ap length p.bytes,
    length-append (take at d ++ columns (take j vs)) (drop (at + column_size * j) d),
    front_length j p.within,
    length-drop (at + column_size * j) d,
    p.within,
  )

  -- a column put past those that stand
  put_past : (p b : List ℕ) (n : ℕ) → length p ≡ n → length b ≡ column_size → paste (p ++ drop n d) n b column_size ≡ p ++ b ++ drop (n + column_size) d
  put_past p b n l k =
      let r : drop (n + column_size) (p ++ drop n d) ≡ drop (n + column_size) d =
      ap (λ (i : ℕ). drop (i + column_size) (p ++ drop n d)) (sym l) ∙ drop-append-add p (drop n d) column_size ∙ drop-drop column_size n d in
      rw (take_at p (drop n d) n l, take_all column_size b (omega arith), r)

  pub put_one_more : (e : List ℕ) (j : ℕ) → PutTo d at vs e j → j < length vs → {f b : List ℕ} → b ≡ justified column_size (get_or vs j 0)
      → f ≡ paste e (at + column_size * j) b column_size → PutTo d at vs f (j + 1)
  put_one_more e j p h {f} {b} q r =
      let P : List ℕ = take at d ++ columns (take j vs) in
      let n : ℕ = at + column_size * j in
      let lb : length b ≡ column_size = ap length q ∙ justified-length column_size (get_or vs j 0) in
      let m : n + column_size ≡ at + column_size * (j + 1) = omega arith in
      let c : columns (take (j + 1) vs) ≡ columns (take j vs) ++ b = columns_more vs j h ∙ ap (λ (z : List ℕ). columns (take j vs) ++ z) (sym q) in
      record {
        within = omega arith;
        bytes =
            r ∙ ap (λ (z : List ℕ). paste z n b column_size) p.bytes ∙ put_past P b n (front_length j p.within) lb
            ∙ ap (λ (k : ℕ). P ++ b ++ drop k d) m
            ∙ ap (λ (z : List ℕ). z ++ drop (at + column_size * (j + 1)) d)
            (append_assoc (take at d) (columns (take j vs)) b ∙ ap (λ (z : List ℕ). take at d ++ z) (sym c));
      }

  pub put_all : (e : List ℕ) (j : ℕ) → PutTo d at vs e j → length vs ≤ j → e ≡ take at d ++ columns vs ++ drop (at + column_size * length vs) d
  put_all e j p h =
      let k : j ≡ length vs = omega (arith, p.within) in
      p.bytes ∙ rw (k, take-length vs)

-- ---- the whole row

module _ (d : List ℕ) (at : ℕ) (vs : List ℕ) where
  pub no_room : length d ≤ at + column_size * length vs → record { next = at; output = d } ≡ row_at d at vs
  unfolding row_at
  no_room h = rw (le-ltb (at + column_size * length vs) (length d) h)

  pub put-newline : {e : List ℕ} → at + column_size * length vs < length d → e ≡ take at d ++ columns vs ++ drop (at + column_size * length vs) d
      → record { next = at + column_size * length vs + 1; output = set e (at + column_size * length vs) 10 } ≡ row_at d at vs
  unfolding row_at
  put-newline {e} h p =
      let n : ℕ = at + column_size * length vs in
      let P : List ℕ = take at d ++ columns vs in
      let lp : length P ≡ n = omega (arith, length-append (take at d) (columns vs), length-take-le at d (omega arith), columns-length vs) in
      let k : at + length (row vs) ≡ n + 1 = omega (arith, row-length vs) in
      let r : take at d ++ (row vs ++ drop (n + 1) d) ≡ P ++ (10 ∷ drop (n + 1) d) = unfold row in simp (append_assoc) in
      let q : set e n 10 ≡ P ++ (10 ∷ drop (n + 1) d) =
      ap (λ (z : List ℕ). set z n 10) (p ∙ ap (λ (z : List ℕ). P ++ z) (drop-cons d n 0 h)) ∙ set_at P (get_or d n 0) (drop (suc n) d) 10 n lp
      ∙ rw add-one in
      rw (lt-ltb n (length d) h, k, q, r)

-- by division: room for n columns and 0Ah
pub room_short : (x at n : ℕ) → at < x → (x - at - 1) / 8 < n → x ≤ at + column_size * n
room_short x at n h k = let q = (div-lt_iff_lt-mul {k = 8} {x = x - at - 1} {y = n} (omega arith)).0 k in omega arith

pub room_fits : (x at n : ℕ) → at < x → n ≤ (x - at - 1) / 8 → at + column_size * n < x
room_fits x at n h k = let d = div-add-mod' (x - at - 1) 8 in omega arith
