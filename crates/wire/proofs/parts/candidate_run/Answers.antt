use Rattle.std.proofs.Common.{◌≡◌, ℕ, ◌*◌, drop, subst, arith}
use Rattle.cluster.specs.Config.{shelf}
use Rattle.format.specs.Format.{many}
use Rattle.protocol.specs.Values.{candidate_size_def}
use Rattle.protocol.specs.Packet.{candidate_f}
use Rattle.wire.specs.Places.{candidate_list}
use Rattle.wire.specs.Reads.{Past}
use Rattle.wire.proofs.Lists.{many_broken, run_none, run_more}
use Rattle.wire.proofs.parts.candidate_run.Goals as goal

pub loop-init : goal.loop-init
loop-init c = run_none (shelf c.args.t) c.requires

pub returns-in_err-next : goal.returns-in_err-next
returns-in_err-next c =
    rw c.from_residual.ensures
    (many_broken (candidate_f (shelf c.args.t)) c.loop.counter c.args.n (omega arith) c.loop.invariant.leaves c.in_err-next.ensures)

pub loop-preserved : goal.loop-preserved
loop-preserved c = run_more (shelf c.args.t) c.loop.counter c.loop.invariant c.in_ok-next.ensures.took

pub returns : goal.returns
returns c =
    let e : c.loop.counter ≡ c.args.n = omega arith in
    subst
    (λ (k : ℕ). Past (many k (candidate_f (shelf c.args.t))) c.args.s.now c.args.c.at (candidate_list (shelf c.args.t) k (drop c.args.c.at c.args.s.now))
    c.loop.at (candidate_size_def (shelf c.args.t) * k)) e c.loop.invariant
