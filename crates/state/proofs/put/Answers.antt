-- The numbers, then the marks; or nothing where there is no room.
use Rattle.std.proofs.Common.{◌≡◌, length, sym, arith}
use borrow.Author.Rules.{rules}
use Rattle.cluster.specs.Ranges.{most_servers}
use Rattle.state.proofs.Laws.{no-state, state_put}
use Rattle.state.proofs.put.Goals as goal

pub returns-then-bytes-lt-SIZE : goal.returns-then-bytes-lt-SIZE
returns-then-bytes-lt-SIZE c =
    let wide : length c.args.call.tally.marks ≡ most_servers = search rules in
    no-state c.args.bytes.now c.args.call wide (omega arith)

pub returns : goal.returns
returns c =
    let wide : length c.args.call.tally.marks ≡ most_servers = search rules in
    state_put c.args.bytes.now c.args.call wide (omega arith) (rw (sym c.numbers_of.ensures) c.put-n.ensures) c.put.ensures
