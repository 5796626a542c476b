-- The numbers of kinds, rounds and codes: a number is read as what it was told of, and so no two have one number. Assumes nothing.
use mathlib.Core.Path.{◌≡◌, refl, sym, ap, ◌∙◌}
use Rattle.std.specs.Prelude.{Some}
use Rattle.std.specs.declared.option.Option.{Option}
use Rattle.protocol.specs.declared.kinds.Kind.{Kind}
use Rattle.protocol.specs.declared.kinds.Kind.TheVariants as kind
use Rattle.protocol.specs.declared.rounds.Round.{Round}
use Rattle.protocol.specs.declared.rounds.Round.TheVariants as round
use Rattle.protocol.specs.declared.codes.Code.{Code}
use Rattle.protocol.specs.declared.codes.Code.TheVariants as code
use Rattle.protocol.specs.Kinds.{kind_number, kind_told, round_number, round_told, code_number, code_told}

same_some : {A : Type 0} {x y : A} → ◌≡◌ {A = Option A} (Some x) (Some y) → x ≡ y
same_some e = cc

-- ---- kinds

pub kind-known : (k : Kind) → kind_told (kind_number k) ≡ Some k
kind-known kind.Clock = refl
kind-known kind.ClockReply = refl
kind-known kind.Store = refl
kind-known kind.StoreReply = refl
kind-known kind.Complete = refl
kind-known kind.CompleteReply = refl
kind-known kind.Collect = refl
kind-known kind.CollectReply = refl
kind-known kind.Filter = refl
kind-known kind.FilterReply = refl
kind-known kind.Repair = refl
kind-known kind.RepairReply = refl

pub kind_injective : (x y : Kind) → kind_number x ≡ kind_number y → x ≡ y
kind_injective x y e = same_some (sym (kind-known x) ∙ ap kind_told e ∙ kind-known y)

-- ---- rounds

pub round-known : (r : Round) → round_told (round_number r) ≡ Some r
round-known round.Clock = refl
round-known round.Store = refl
round-known round.Complete = refl
round-known round.Collect = refl
round-known round.Filter = refl
round-known round.Repair = refl

pub round_injective : (x y : Round) → round_number x ≡ round_number y → x ≡ y
round_injective x y e = same_some (sym (round-known x) ∙ ap round_told e ∙ round-known y)

-- ---- what a reply to store says

pub code-known : (c : Code) → code_told (code_number c) ≡ Some c
code-known code.Kept = refl
code-known code.Held = refl
code-known code.Full = refl

pub code_injective : (x y : Code) → code_number x ≡ code_number y → x ≡ y
code_injective x y e = same_some (sym (code-known x) ∙ ap code_told e ∙ code-known y)
