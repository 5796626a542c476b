-- Refused with 1 or 15, or the listing, with the area cleared before and after. Assumes nothing.
use Rattle.std.proofs.Common.{◌≡◌, ℕ, ap, sym, ◌∙◌, length, replicate}
use Rattle.columns.specs.Lines.{lines}
use Rattle.drill.specs.Listing.{rows_for_def}
use Rattle.drill.proofs.Listed.{drill-1, drill-15, drill-0, room_short, room_fits}
use Rattle.drill.proofs.drill.Goals as goal

pub returns-then-work-ne-WORK : goal.returns-then-work-ne-WORK
returns-then-work-ne-WORK c = drill-1 c.args.sheet.now c.args.out.now c.args.work.now c.if-work-ne-WORK.true

pub returns-then-out-rows_for : goal.returns-then-out-rows_for
returns-then-out-rows_for c =
    let a = c.args in
    let m : c.rows_for.result ≡ rows_for_def (length (lines a.sheet.now)) = c.rows_for.ensures ∙ ap rows_for_def c.count_lines.ensures in
    drill-15 a.sheet.now a.out.now a.work.now c.if-work-ne-WORK.false (room_short (length a.out.now) _ (rw m at c.if-out-rows_for.true))

pub list-n-requires : goal.list-n-requires
list-n-requires c =
    let a = c.args in
    let m : c.rows_for.result ≡ rows_for_def (length (lines a.sheet.now)) = c.rows_for.ensures ∙ ap rows_for_def c.count_lines.ensures in (
      (c.clear.auto.memory ∙ c.if-work-ne-WORK.false, c.clear.ensures ∙ ap (λ (n : ℕ). replicate n 0) (sym c.clear.auto.memory)),
      room_fits (length a.out.now) _ (rw m at c.if-out-rows_for.false),
    )

pub returns : goal.returns
returns c =
    let a = c.args in
    let m : c.rows_for.result ≡ rows_for_def (length (lines a.sheet.now)) = c.rows_for.ensures ∙ ap rows_for_def c.count_lines.ensures in
    drill-0 a.sheet.now a.out.now a.work.now c.if-work-ne-WORK.false (room_fits (length a.out.now) _ (rw m at c.if-out-rows_for.false))
    c.list-n.ensures (c.clear-2.ensures ∙ ap (λ (n : ℕ). replicate n 0) (c.list-n.auto.work ∙ c.clear.auto.memory))
