-- Lists that differ at one place are not the same; else all bytes are compared.
use Rattle.std.proofs.Common.{sym, ◌∙◌}
use borrow.Author.Tests.{ne_eqb}
use Rattle.protocol.proofs.Equal.{byte_differs}
use Rattle.wire.proofs.bytes.same.Goals as goal

pub returns-else-byte_at : goal.returns-else-byte_at
returns-else-byte_at c =
    ne_eqb _ _ c.if-byte_at.false
    ∙ sym (byte_differs c.args.a.now c.args.b.now 3 (λ e. c.if-byte_at.false (c.byte_at.ensures ∙ e ∙ sym c.byte_at-2.ensures)))
