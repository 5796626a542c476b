-- What is told of a group: none leads, one slot leads, or the first that leads is the leader. Nothing is assumed.
use mathlib.Core.Path.{◌≡◌, sym, ap, ◌∙◌}
use mathlib.Core.Bool.{true, false, cond, and-false}
use mathlib.Core.List.{List}
use Prim.Native.Nat.{ℕ, suc, ◌+◌, ◌-◌, ◌<◌}
use native.Mathlib.Omega.{arith}
use lib.Dec.{eqb}
use borrow.Author.Tests.{eq-eqb, ne_eqb}
use Rattle.cluster.specs.Config.{shelf}
use Rattle.protocol.specs.View.{candidates_in}
use Rattle.protocol.specs.Values.{rank}
use Rattle.decide.specs.Listing.{enters}
use Rattle.decide.specs.Steps.{leads_at, leader_at, tried_at}
use Rattle.decide.proofs.Groups.{leader_more, leader-kept}

module _ (t : ℕ) (marks kept : List ℕ) (i : ℕ) where
  -- the first slot that leads
  pub first-leads : (b n : ℕ) → b < (shelf t).servers → leader_at t marks kept i b ≡ 0 → cond (leads_at t marks kept i b) (suc b) 0 ≡ suc n
      → leader_at t marks kept i (shelf t).servers ≡ suc n
  first-leads b n l h g =
      let m : leader_at t marks kept i (b + 1) ≡ suc n = leader_more t marks kept i b h ∙ g in
      let e : b + 1 + ((shelf t).servers - (b + 1)) ≡ (shelf t).servers = omega arith in
      sym (ap (leader_at t marks kept i) e) ∙ leader-kept t marks kept i n (b + 1) m ((shelf t).servers - (b + 1))

-- ---- which slots are tried

module _ (t : ℕ) (kept : List ℕ) (key i : ℕ) where
  pub other-rank : (rank (candidates_in (shelf t) kept (suc i)).stamp ≡ key → ⊥) → tried_at t kept key i ≡ false
  unfolding tried_at
  other-rank h = rw (ne_eqb (rank (candidates_in (shelf t) kept (suc i)).stamp) key h)

  pub not_listed : enters (candidates_in (shelf t) kept) (suc i) ≡ false → tried_at t kept key i ≡ false
  unfolding tried_at
  not_listed h = rw h (and-false (eqb (rank (candidates_in (shelf t) kept (suc i)).stamp) key))

  pub is-tried : rank (candidates_in (shelf t) kept (suc i)).stamp ≡ key → enters (candidates_in (shelf t) kept) (suc i) ≡ true → tried_at t kept key i
      ≡ true
  unfolding tried_at
  is-tried e h = rw (eq-eqb (rank (candidates_in (shelf t) kept (suc i)).stamp) key e, h)
