-- What is joined so far is 0 and the rests are the same exactly when the lists are.
use Rattle.std.proofs.Common.{◌≡◌, ◌&&◌, eqb, length}
use Rattle.protocol.specs.Values.{same_list}
use Rattle.wire.proofs.bytes.same_throughout.Given as goal

abbrev pub invariant-loop-x : goal.invariant-loop-x
invariant-loop-x l = record {
  same : same_list l.a l.b ≡ eqb l.all 0 && same_list l.x-iterator.a.rest.now l.x-iterator.b.rest.now;
  level : length l.x-iterator.a.rest.now ≡ length l.x-iterator.b.rest.now;
}
