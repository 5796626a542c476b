-- The entries of an array of byte arrays are bytes: what the array's type says of each row, read at one place. Nothing is assumed.
use mathlib.Core.List.{List, [], ◌∷◌}
use Prim.Native.Nat.{ℕ, zero, suc, ◌<◌}
use native.Mathlib.Nat.{zero-lt-suc}
use borrow.Author.Rules.{elem_Fits}
use borrow.Kind.Array.{e_arr, e_int}
use denote.Array.{each}
use denote.Shadow.{shadow}
use mir.Syntax.{w8}
use mir.Val.{Val}
use lib.ListN.{get_or}

pub entry-byte : (n : ℕ) (rows : List (List ℕ)) (us : List Val) (r c : ℕ) → shadow (each (List ℕ) (e_arr (e_int w8) n).ty.own_val rows us)
    → get_or (get_or rows r []) c 0 < 256
entry-byte n [] us r c p = zero-lt-suc 255
entry-byte n (x ∷ xs) [] r c p = absurd p
entry-byte n (x ∷ xs) (u ∷ us) zero c p = (elem_Fits w8 w8 x p.0.0 c p.0.1.1 tt).fits
entry-byte n (x ∷ xs) (u ∷ us) (suc r) c p = entry-byte n xs us r c p.1
