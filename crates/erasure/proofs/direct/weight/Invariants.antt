use Rattle.std.proofs.Common.{◌≡◌}
use Rattle.erasure.specs.System.{product_to, factor_at}
use Rattle.erasure.proofs.direct.weight.Given as goal

abbrev pub invariant-loop-m : goal.invariant-loop-m
invariant-loop-m l = record {
  above : l.top ≡ product_to l.m (factor_at l.points l.j l.z);
  under : l.own ≡ product_to l.m (factor_at l.points l.j l.x);
}
