-- By how many characters there are, and by the first of them.
use Rattle.std.proofs.Common.{◌≡◌, ◌<◌, length, get_or, sym, ◌∙◌, arith}
use borrow.Author.Tests.{eqb-true, eqb-false, ltb-true}
use Rattle.columns.proofs.Numbers.{number-end, number-zero, number_more, number_one}
use Rattle.columns.proofs.reading.number_value.Goals as goal
use Rattle.columns.proofs.reading.number_value.Goals.{then-is_empty-via-then-is_empty, then-is_empty-via-else-is_empty+then-s-eq48, then-s-gt1, else-s-gt1}

pub returns-then-is_empty : goal.returns-then-is_empty
returns-then-is_empty c =
    let s = c.args.s.now in
    elim c.then-is_empty.branch [
      | then-is_empty-via-then-is_empty w ↦
          let e : length s ≡ 0 = eqb-true (length s) 0 (sym c.is_empty.ensures ∙ w.if-is_empty.true) in
          sym (number-end s 0 (omega arith))
      | then-is_empty-via-else-is_empty+then-s-eq48 w ↦
          elim w.if-s-gt1.branch [
            | then-s-gt1 v ↦ sym (number-zero s 0 (omega arith) (eqb-true (get_or s 0 0) 48 (sym v.value-is ∙ w.if-s-eq48.true)))
            | else-s-gt1 v ↦ let h : 1 < length s = ltb-true 1 (length s) (sym v.value-is ∙ w.if-s-eq48.true) in absurd (omega arith)
          ]
    ]

pub returns : goal.returns
returns c =
    let s = c.args.s.now in
    let h : length s ≡ 0 → ⊥ = eqb-false (length s) 0 (sym c.is_empty.ensures ∙ c.if-is_empty.false) in
    c.digits_value.ensures
    ∙ elim c.if-s-gt1.branch [
      | then-s-gt1 w ↦ sym (number_more s 0 (omega arith) (eqb-false (get_or s 0 0) 48 (sym w.value-is ∙ c.if-s-eq48.false)))
      | else-s-gt1 w ↦ sym (number_one s 0 (omega arith) (omega arith))
    ]
