-- What the private functions on given runs promise each other; no public contract names these.
-- Where the points of the plain runs stand among the points given, and the system that the others need.
use Rattle.std.specs.Prelude.{◌≡◌, true, false, cond, Option, Some, None, List, ℕ, eqb, take, replicate}
use Rattle.std.specs.Option.{is_some}
use Rattle.std.specs.List.{list_all}
use Rattle.erasure.specs.System.{width, system_row, weight_at, Solves}

-- zeros where all runs are given; otherwise the solved system
pub record SystemAs (k : ℕ) (given : List ℕ) (places : List (Option ℕ)) (a : List (List ℕ)) : Type 0 where
  pub unused : list_all is_some (take k places) ≡ true → a ≡ replicate width (replicate system_row 0)
  pub solved : list_all is_some (take k places) ≡ false → Solves k given a

-- what the j-th value counts for in the run whose point z stands at this place: all or nothing, and where it stands at none, as the solved system
-- a weighs at z
unfoldable pub weight_in : (k : ℕ) (a : List (List ℕ)) (place : Option ℕ) (z j : ℕ) → ℕ
weight_in k a (Some p) z j = cond (eqb p j) 1 0
weight_in k a None z j = weight_at k a z j
