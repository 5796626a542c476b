use Rattle.std.proofs.Common.{◌≡◌, ◌==◌, not, rules, tests}
use Rattle.std.specs.List.{position_or_len}
use Rattle.std.proofs.lemmas.Iterator.{YieldsList-from_slice}
use Rattle.std.proofs.lemmas.Iterator.Search.{position_from_yields_List}
use Rattle.columns.proofs.Places.{place_or_len, place-fits, column-past}
use Rattle.columns.proofs.reading.spaces.Goals as goal

pub returns : goal.returns
returns c =
    let s = c.args.s.now in
    let found = position_from_yields_List (λ b. not (b == 32)) _ _ c.position.result c.position.ensures.ran (YieldsList-from_slice s (cc))
    (λ x b q k. search (rules, tests)) in
    let e : c.unwrap_or.result ≡ position_or_len (λ b. not (b == 32)) s = place_or_len _ s _ _ found c.unwrap_or.ensures in
    rw e (place-fits _ s, column-past s)
