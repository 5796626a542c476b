-- The arguments are tested, then the slot. Nothing is assumed.
use Rattle.std.proofs.Common.{◌≡◌, ◌∙◌, sym, refl, ltb, true, false, arith}
use borrow.Author.Tests.{lt-ltb, le-ltb, ltb-true, ltb-false}
use Rattle.cluster.specs.Config.{shelf}
use Rattle.decide.specs.Listing.{listed_in}
use Rattle.decide.proofs.Arguments.{is-usable, unusable, one_answer}
use Rattle.decide.proofs.listed.Goals as goal
use Rattle.decide.proofs.listed.Goals.{then-is_usable, else-is_usable}

pub returns-then-i-servers : goal.returns-then-i-servers
unfolding listed_in
returns-then-i-servers c =
    let a = c.args in
    elim c.if-is_usable.branch [
      | then-is_usable w ↦
          let i : ltb a.i w.servers.result ≡ true = sym w.value-is ∙ c.if-i-servers.true in
          rw (is-usable c.is_usable.ensures w.if-is_usable.true, lt-ltb a.i (shelf a.t).servers (omega (arith, ltb-true _ _ i, w.servers.ensures.0)))
          c.entry.ensures
      | else-is_usable w ↦ one_answer c.if-i-servers.true (w.value-is ∙ w.if-is_usable.false)
    ]

pub returns-else-i-servers : goal.returns-else-i-servers
unfolding listed_in
returns-else-i-servers c =
    let a = c.args in
    c.if-i-servers.false ∙ sym (elim c.if-is_usable.branch [
      | then-is_usable w ↦
          let i : ltb a.i w.servers.result ≡ false = sym w.value-is ∙ c.if-i-servers.false in
          rw (is-usable c.is_usable.ensures w.if-is_usable.true, le-ltb a.i (shelf a.t).servers (omega (arith, ltb-false _ _ i, w.servers.ensures.0)))
          refl
      | else-is_usable w ↦ rw (unusable c.is_usable.ensures w.if-is_usable.false) refl
    ])
