use Rattle.std.proofs.Common.{◌≡◌, Bool, ℕ, List, not, refl, sym, ap, ◌∙◌}
use Rattle.std.specs.List.{list_any}
use Rattle.cluster.specs.Config.{shelf}
use Rattle.cluster.specs.Ranges.{within}
use Rattle.erasure.specs.Steps.{each}
use Rattle.erasure.specs.Weights.{weights_checks}
use Rattle.erasure.proofs.Refused.{any_each}
use Rattle.erasure.proofs.refusals.weights_refusal.Goals as goal

tested : (t most : ℕ) (servers : List ℕ) (r b : Bool) → most ≡ (shelf t).servers → r ≡ list_any (λ s. not (within 1 most s)) servers → r ≡ b
    → not (each (within 1 (shelf t).servers) servers) ≡ b
tested t most servers r b m e is = ap (λ (s : ℕ). not (each (within 1 s) servers)) (sym m) ∙ sym (any_each (within 1 most) servers) ∙ sym e ∙ is

pub returns-then-server_outside : goal.returns-then-server_outside
unfolding weights_checks
returns-then-server_outside c =
    rw (← c.outside.ensures, c.if-outside.false, tested c.args.t _ c.args.servers.now _ _ c.servers_of.ensures c.server_outside.ensures c.if-server_outside.true)
    refl

pub returns : goal.returns
unfolding weights_checks
returns c =
    rw (← c.outside.ensures, c.if-outside.false, tested c.args.t _ c.args.servers.now _ _ c.servers_of.ensures c.server_outside.ensures c.if-server_outside.false)
    refl
