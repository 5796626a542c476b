use Rattle.std.proofs.Common.{arith, length-drop, ◌∙◌}
use Rattle.wire.proofs.Leaf.{ends, answers, byte-numbered, here}
use Rattle.wire.proofs.fields.byte_field.Goals as goal

pub returns-in_err-v : goal.returns-in_err-v
returns-in_err-v c =
    let h = c.in_err-v.ensures.lookup.3 in
    rw c.from_residual.ensures (ends (byte-numbered _ _) _ _ (simp length-drop (omega arith)))

pub returns : goal.returns
returns c =
    let (h, get) = c.in_ok-v.ensures.lookup.3 in
    answers (byte-numbered _ _) _ _ (simp length-drop (omega arith)) c.ranged.result (c.from.ensures ∙ get 0 ∙ here c.args.s.now c.args.c.at) c.ranged.ensures
