-- Those found are the members among the slots passed, and fewer than are needed.
use Rattle.std.proofs.Common.{◌≡◌, ◌<◌, length, take}
use Rattle.decide.specs.Steps.{servers_of_def, agrees_at_def}
use Rattle.decide.proofs.leading.members_of.Given as goal

abbrev pub invariant-loop-j : goal.invariant-loop-j
invariant-loop-j l = record {
  few : l.n < l.k;
  room : length l.members ≡ 13;
  count : l.n ≡ length (servers_of_def l.j (agrees_at_def l.sought.replied.t l.sought.replied.marks l.kept l.sought.slot l.b));
  these : take l.n l.members ≡ servers_of_def l.j (agrees_at_def l.sought.replied.t l.sought.replied.marks l.kept l.sought.slot l.b);
}
