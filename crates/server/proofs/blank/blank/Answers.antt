-- One law for each way through the refusals. Assumes nothing.
use Rattle.std.proofs.Common.{ℕ, not, sym, ap, ◌∙◌, arith}
use Rattle.cluster.specs.Ranges.{within}
use Rattle.server.proofs.Blanking.{blank-size, blank-faults, blank-server, server-byte, blank-made}
use Rattle.server.proofs.blank.blank.Goals as goal

pub returns-then-memory-ne-MEMORY : goal.returns-then-memory-ne-MEMORY
returns-then-memory-ne-MEMORY c = blank-size _ _ _ c.if-memory-ne-MEMORY.true

pub returns-then-outside : goal.returns-then-outside
returns-then-outside c = blank-faults _ _ _ c.if-memory-ne-MEMORY.false (sym c.outside.ensures ∙ c.if-outside.true)

pub returns-then-outside-2 : goal.returns-then-outside-2
returns-then-outside-2 c =
    blank-server _ _ _ c.if-memory-ne-MEMORY.false (sym c.outside.ensures ∙ c.if-outside.false)
    (ap (λ (n : ℕ). not (within 1 n c.args.server)) (sym c.servers.ensures) ∙ sym c.outside-2.ensures ∙ c.if-outside-2.true)

pub overflow_cast-memory-2 : goal.overflow_cast-memory-2
overflow_cast-memory-2 c =
    omega (
      arith,
      server-byte c.args.t c.args.server (sym c.outside.ensures ∙ c.if-outside.false)
          (ap (λ (n : ℕ). not (within 1 n c.args.server)) (sym c.servers.ensures) ∙ sym c.outside-2.ensures ∙ c.if-outside-2.false),
    )

pub returns : goal.returns
returns c =
    blank-made _ _ _ c.if-memory-ne-MEMORY.false (sym c.outside.ensures ∙ c.if-outside.false)
    (ap (λ (n : ℕ). not (within 1 n c.args.server)) (sym c.servers.ensures) ∙ sym c.outside-2.ensures ∙ c.if-outside-2.false) c.clear.ensures
