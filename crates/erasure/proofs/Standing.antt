-- Where the points of the plain runs stand among the points given: a run that stands somewhere has its point there, and where one stands nowhere,
-- not all are given. Nothing is assumed.
use Rattle.std.proofs.Common.{◌≡◌, false, Option, Some, None, List, ℕ, ◌<◌, ◌≤◌, eqb, length, get_or, take, sym, ap, ◌∙◌, arith}
use Rattle.std.proofs.lemmas.List.Quantifiers.{position-Some}
use Rattle.std.proofs.lemmas.List.Folds.{list_all_at}
use Rattle.std.specs.List.{position, list_all}
use Rattle.std.specs.Option.{is_some}
use borrow.Author.Tests.{eqb-true}
use lib.Seq.{get_or-take, length-take-le}

-- a run that stands somewhere has its point there
pub place-stands : (k : ℕ) (points given : List ℕ) (places : List (Option ℕ)) → length (take k given) ≡ k
    → ((i : ℕ) → i < k → get_or places i None ≡ position (λ x. eqb x (get_or points i 0)) (take k given))
    → (i p : ℕ) → i < k → get_or places i None ≡ Some p → (p < k) × (get_or given p 0 ≡ get_or points i 0)
place-stands k points given places full are i p h e =
    let s = position-Some (λ x. eqb x (get_or points i 0)) (take k given) p 0 (sym (are i h) ∙ e) in
    let b : p < k = omega (arith, s.0, full) in
    (b, sym (get_or-take k given p 0 b) ∙ eqb-true (get_or (take k given) p 0) (get_or points i 0) s.1)

-- where a run stands nowhere, not all are given
pub one_missing : (k : ℕ) (places : List (Option ℕ)) → k ≤ length places → (i : ℕ) → i < k → get_or places i None ≡ None
    → list_all is_some (take k places) ≡ false
one_missing k places long i h e =
    list_all_at is_some (take k places) i None (omega (arith, h, length-take-le k places long)) (ap is_some (get_or-take k places i None h ∙ e))
