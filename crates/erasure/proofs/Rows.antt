-- From rows to the system: all rows turned, with the pivot's row begun as a unit row, make the system turned at p. Nothing is assumed.
use mathlib.Core.Path.{◌≡◌, ap, ap₂, subst, ◌∙◌}
use mathlib.Core.Logic.{◌≢◌}
use mathlib.Core.List.{List, []}
use Prim.Native.Nat.{ℕ, ◌<◌, ◌≤◌}
use native.Mathlib.Nat.{le_trans}
use lib.Bits.{bit_xor}
use lib.ListN.{length, get_or, set}
use lib.Seq.{get_or-set_same, get_or-set_other}
use Rattle.gf256.specs.Gf.{times}
use Rattle.gf256.proofs.Linear.{one-times}
use Rattle.erasure.specs.System.{width, entry, RowTurned, SystemTurned}

module _ (k : ℕ) (a out : List (List ℕ)) (p d : ℕ) (unit : List ℕ) (pb : p < length a) (small : d < 256)
    (one : get_or unit p 0 ≡ 1) (nil : (c : ℕ) → c < width → c ≢ p → get_or unit c 0 ≡ 0) (pk : p < k) (kw : k ≤ width)
    (rows : (j : ℕ) → j < k → RowTurned (get_or (set a p unit) j []) (get_or a p []) d p (get_or out j [])) where
  here-row : get_or (set a p unit) p [] ≡ unit
  here-row = get_or-set_same a p unit [] pb

  there-row : (r : ℕ) → r ≢ p → get_or (set a p unit) r [] ≡ get_or a r []
  there-row r ne = get_or-set_other a p r unit [] ne

  one-d : times (get_or unit p 0) d ≡ d
  one-d = ap (λ (x : ℕ). times x d) one ∙ one-times d small

  rows_p : RowTurned unit (get_or a p []) d p (get_or out p [])
  rows_p = subst (λ (x : List ℕ). RowTurned x (get_or a p []) d p (get_or out p [])) here-row (rows p pk)

  rows_r : (r : ℕ) → r < k → r ≢ p → RowTurned (get_or a r []) (get_or a p []) d p (get_or out r [])
  rows_r r h ne = subst (λ (x : List ℕ). RowTurned x (get_or a p []) d p (get_or out r [])) (there-row r ne) (rows r h)

  pub system_turned : SystemTurned k a p d out
  system_turned = record {
    pp = rows_p.here ∙ one-d;
    pc = λ c h ne. rows_p.there c (le_trans h kw) ne ∙ ap₂ bit_xor (nil c (le_trans h kw) ne) (ap (λ (x : ℕ). times x (entry a p c)) one-d);
    rp = λ r h ne. (rows_r r h ne).here;
    rc = λ r c hr hc nr nc. (rows_r r hr nr).there c (le_trans hc kw) nc;
  }
