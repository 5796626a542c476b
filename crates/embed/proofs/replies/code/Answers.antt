-- The packet is read; its kind decides what is told.
use Rattle.std.proofs.Common.{sym, refl, ap, ◌∙◌, arith}
use Rattle.std.proofs.Math.Seq.{get_or-drop}
use denote.Enum.Bare.{differs_true, differs_false}
use Rattle.protocol.specs.contracts.kinds.Kind.{the_type}
use Rattle.protocol.specs.declared.kinds.Kind.TheVariants.{StoreReply}
use Rattle.protocol.specs.Kinds.{kind_number}
use Rattle.protocol.specs.Packet.{head_size}
use Rattle.protocol.proofs.Numbered.{kind_injective}
use Rattle.wire.proofs.Laws.{told_code}
use Rattle.embed.proofs.CodeTold.{code_other, code-store}
use Rattle.embed.proofs.replies.code.Goals as goal

pub returns-then-ne : goal.returns-then-ne
returns-then-ne c =
    let (read, kind) = rw c.in_ok-passed.ensures.ok_part at c.read_packet.ensures in
    let other = differs_true the_type c.in_ok-passed.passed.kind StoreReply (sym c.ne.ensures ∙ c.if-ne.true) in
    rw c.counted.ensures (sym (code_other c.args.packet.now _ read.packet (λ e. other (kind_injective c.in_ok-passed.passed.kind StoreReply (kind ∙ e)))))

-- the code is a byte of the packet
pub overflow_cast-result : goal.overflow_cast-result
overflow_cast-result c =
    let s = c.args.packet.now in
    let p = c.in_ok-passed.passed in
    let (read, kind) = rw c.in_ok-passed.ensures.ok_part at c.read_packet.ensures in
    let is = differs_false the_type tt c.in_ok-passed.passed.kind StoreReply (sym c.ne.ensures ∙ c.if-ne.false) in
    let h = c.type_inv.packet head_size in
    omega (arith, read.number, told_code p.head s (sym kind ∙ ap kind_number is), get_or-drop head_size s 0 0)

pub returns : goal.returns
returns c =
    let (read, kind) = rw c.in_ok-passed.ensures.ok_part at c.read_packet.ensures in
    let is = differs_false the_type tt c.in_ok-passed.passed.kind StoreReply (sym c.ne.ensures ∙ c.if-ne.false) in
    code-store c.args.packet.now _ read.packet (sym kind ∙ ap kind_number is) _ _ read.number refl
