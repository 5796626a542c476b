-- What the exports of fragments and restoring rest on: the operations' answers by cases on their refusal, and how large a count can be.
-- A count is 0 or belongs to a legal content, so it fits its 16 bits. Assumes nothing.
use mathlib.Core.Path.{◌≡◌, refl, sym, subst, ◌∙◌}
use mathlib.Core.List.{List}
use Prim.Native.Nat.{ℕ, zero, suc, ◌+◌, ◌-◌, ◌/◌, ◌≤◌, ◌<◌}
use native.Mathlib.Nat.{div-lt_iff_lt-mul}
use native.Mathlib.Decide.{ℕ_discrete}
use native.Mathlib.Omega.{arith}
use lib.ListN.{length, take}
use lib.Seq.{take_at}
use borrow.Author.Tests.{le-ltb}
use Rattle.cluster.specs.Config.{shelf}
use Rattle.cluster.specs.Ranges.{top_length}
use Rattle.cluster.specs.Refusals.{on_refusal, first_of}
use Rattle.cluster.specs.declared.Outcome.{Outcome}
use Rattle.erasure.specs.Steps.{FragmentOutcome}
use Rattle.erasure.specs.Fragments.{fragment_size_def}
use Rattle.erasure.specs.Steps.{fragment_room, fragment_refusal_def, fragment_bytes, fragment_step, restore_refusal_def, argument_checks, restore_step}
use Rattle.erasure.proofs.Laws.{fragment-length}
use Rattle.erasure.proofs.Refused.{makes, restores, first_of_first}
use Rattle.embed.specs.Coding.{export_refusal}

-- ---- a fragment

by_number : (q n : ℕ) (xs ys : List ℕ)
    → (on_refusal {A = FragmentOutcome} q (record { number = 0; count = n; bytes = xs }) (record { number = q; count = 0; bytes = ys })).number ≡ q
by_number zero n xs ys = refl
by_number (suc q) n xs ys = refl

-- what the operation made, where it equals its definition's step
module _ (t server : ℕ) (content : List ℕ) (made : FragmentOutcome) (is : made ≡ fragment_step t server content) where
  pub made-number : made.number ≡ fragment_refusal_def t server (length content)
  unfolding fragment_step
  made-number = rw is (by_number (fragment_refusal_def t server (length content)) _ _ _)

  pub made-count : made.number ≡ 0 → length (fragment_bytes t server content) ≡ made.count
  unfolding fragment_step fragment_bytes
  made-count none = rw is (rw (sym made-number ∙ none) (fragment-length (shelf t).points (shelf t).threshold content server))

  pub made_bytes : made.number ≡ 0 → take made.count made.bytes ≡ fragment_bytes t server content
  unfolding fragment_step fragment_bytes
  made_bytes none = rw is (rw (sym made-number ∙ none) (take_at _ _ _ (fragment-length (shelf t).points (shelf t).threshold content server)))

  made-size : made.number ≡ 0 → made.count ≡ fragment_size_def (shelf t).threshold (length content)
  unfolding fragment_step
  made-size none = rw is (rw (sym made-number ∙ none) refl)

  -- two plain runs or more: none is longer than half of the longest content
  pub made-room : made.number ≡ 0 → made.count ≤ 512
  unfolding fragment_size_def shelf
  made-room none =
      let n : ℕ = length content in
      let legal = makes t server n (sym made-number ∙ none) in
      let below : (n + (t + 1) - 1) / (t + 1) < 513 = (div-lt_iff_lt-mul {k = t + 1} (omega arith)).1
      (omega (arith, legal.faults.0, legal.bytes)) in
      omega (arith, below, made-size none)

  -- where the output has room, the refusal is the operation's own
  pub own-refusal : (out : List ℕ) → fragment_room ≤ length out → export_refusal t server content out ≡ made.number
  unfolding export_refusal
  own-refusal out h = rw (le-ltb _ _ h) (sym made-number)

-- ---- restoring

pub by_count : (q n most : ℕ) (x y : List ℕ) → (q ≡ 0 → n ≤ most)
    → (on_refusal {A = Outcome × List ℕ} q (record { number = 0; count = n }, x) (record { number = q; count = 0 }, y)).0.count ≤ most
by_count zero n most x y h = h refl
by_count (suc q) n most x y h = omega arith

-- the tests of the arguments stand first, and one of them is the length's
legal : (t n : ℕ) (servers : List ℕ) (given space : ℕ) → restore_refusal_def t n servers given space ≡ 0 → n ≤ top_length
unfolding restore_refusal_def
legal t n servers given space e = go (ℕ_discrete (first_of (argument_checks t n servers given space)) 0)
  where
    go : Dec (first_of (argument_checks t n servers given space) ≡ 0) → n ≤ top_length
    go (yes none) = (restores t n servers given space none).bytes
    go (no some) = absurd (some (sym (first_of_first (argument_checks t n servers given space) _ some) ∙ e))

module _ (t n : ℕ) (servers fragments out : List ℕ) where
  most : (restore_step t n servers fragments out).0.count ≤ top_length
  unfolding restore_step
  most = by_count (restore_refusal_def t n servers (length fragments) (length out)) n top_length _ _ (legal t n servers (length fragments) (length out))

  pub restored-count : (o : Outcome) (after : List ℕ) → (o, after) ≡ restore_step t n servers fragments out → o.count ≤ top_length
  restored-count o after e = subst (λ (p : Outcome × List ℕ). p.0.count ≤ top_length) (sym e) most
