-- A fragment for other languages goes to an output buffer, which must have room for the longest one, so that its refusal depends on its length alone;
-- then come the operation's own refusals.
use Rattle.std.specs.Prelude.{List, [], ◌∷◌, ℕ, ltb, length}
use Rattle.cluster.specs.declared.Outcome.{Outcome}
use Rattle.cluster.specs.Refusals.{wrong_size, refuse, first_of, on_refusal}
use Rattle.erasure.specs.Steps.{fragment_refusal_def, fragment_room}
use Rattle.embed.specs.Packing.{packed}

unfoldable pub export_refusal : (t server : ℕ) → List ℕ → List ℕ → ℕ
export_refusal t server content out =
    let size = first_of (refuse wrong_size (ltb (length out) fragment_room) ∷ []) in on_refusal size (fragment_refusal_def t server (length content)) size

-- an outcome in one number
abbrev pub outcome_of : Outcome → ℕ
outcome_of o = packed o.number 0 0 o.count
