use Rattle.std.proofs.Common.{sym, ap, ◌∙◌, not}
use borrow.Author.Tests.{ne_eqb}
use Rattle.erasure.proofs.Refused.{not-whole}
use Rattle.erasure.proofs.refusals.miscounted.Goals as goal

pub returns-then-given-f-ne0 : goal.returns-then-given-f-ne0
returns-then-given-f-ne0 c = ap not (ne_eqb _ 0 c.if-given-f-ne0.true ∙ sym (not-whole c.args.given c.args.f c.args.count c.if-given-f-ne0.true))
