-- A fragment has no more bytes than the content and t, so that lengths of parts can be added up. By division. Assumes nothing.
use Prim.Native.Nat.{ℕ, ◌+◌, ◌-◌, ◌≤◌}
use native.Mathlib.Nat.{div-le_self}
use native.Mathlib.Omega.{arith}
use Rattle.cluster.specs.Config.{shelf}
use Rattle.erasure.specs.Fragments.{fragment_size_def}

pub fragment-few : (t n : ℕ) → fragment_size_def (shelf t).threshold n ≤ n + t
unfolding fragment_size_def shelf
fragment-few t n = omega (arith, div-le_self (n + (t + 1) - 1) (t + 1))

pub ruleset few = (fragment-few)
