-- Row 0 is its own product with 1; then one product after the other is added.
use Rattle.std.proofs.Common.{ℕ, get_or, refl, sym, ap, ◌∙◌}
use Rattle.gf256.specs.Gf.{times}
use Rattle.gf256.proofs.Linear.{one-times}
use Rattle.erasure.specs.System.{system_row, entry}
use Rattle.erasure.proofs.Entries.{entry-byte}
use Rattle.erasure.proofs.Sums.{sum_to_one, sum_to_more}
use Rattle.erasure.proofs.system.sum_rows.Goals as goal

pub loop-c-init : goal.loop-c-init
loop-c-init c j h =
    let args = c.args in
    sym (sum_to_one (λ i. times (get_or args.powers i 0) (entry args.a i j)) ∙ ap (λ (x : ℕ). times x (entry args.a 0 j)) c.requires.2
    ∙ one-times (entry args.a 0 j) (entry-byte system_row args.a c.well_formed.0.0 0 j c.well_formed.0.1.1))

pub loop-c-preserved : goal.loop-c-preserved
loop-c-preserved c j h =
    let at = c.loop-c in
    c.add_row-more.ensures j h
    ∙ sum_to_more at.c (λ i. times (get_or c.args.powers i 0) (entry c.args.a i j)) (get_or at.sum j 0) _ (at.invariant j h) refl
