-- The first 0Ah from the place on, or the end of the text.
use Rattle.std.proofs.Common.{◌≡◌, ℕ, ◌==◌, ◌+◌, ◌-◌, List, length, take, drop, rules, tests, ap, ◌∙◌, sym, arith, length-drop}
use Rattle.std.proofs.lemmas.List.{take_all, drop_min}
use Rattle.std.proofs.lemmas.Iterator.{YieldsList-from_slice}
use Rattle.std.proofs.lemmas.Iterator.Search.{position_from_yields_List}
use Rattle.std.specs.List.{position_or_len}
use Rattle.columns.specs.Lines.{newline, line_length, line_end_def}
use Rattle.columns.proofs.Places.{place_or_len, line_length_lem}
use Rattle.columns.proofs.lines.line_end.Goals as goal

pub returns : goal.returns
unfolding line_end_def
returns c =
    let text = c.args.text.now in
    let m = c.min.result in
    let s : List ℕ = take (length text - m) (drop m text) in
    let found = position_from_yields_List (λ b. b == newline) _ _ c.position.result c.position.ensures.ran (YieldsList-from_slice s (cc))
    (λ x b q k. search (rules, tests)) in
    let e : c.unwrap_or.result ≡ position_or_len (λ b. b == newline) s = place_or_len _ s _ _ found c.unwrap_or.ensures in
    let r : s ≡ drop c.args.at text =
    take_all (length text - m) (drop m text) (omega (arith, length-drop m text))
    ∙ ap (λ (i : ℕ). drop i text) c.min.ensures ∙ drop_min c.args.at text in
    ap (λ (n : ℕ). c.args.at + n) (e ∙ sym (line_length_lem s) ∙ ap line_length r)
