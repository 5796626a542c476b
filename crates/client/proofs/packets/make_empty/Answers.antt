-- The packet without a body fits its buffer. Nothing is assumed.
use Rattle.std.proofs.Common.{◌∙◌, [], arith}
use Rattle.client.proofs.Printed.{packet-fits}
use Rattle.client.proofs.packets.make_empty.Goals as goal

pub returns : goal.returns
returns c = c.make_packet.ensures ∙ packet-fits c.args.head [] [] c.args.out.now c.requires (omega arith)
