-- The chunks are the keys.
use Rattle.std.proofs.Common.{arith}
use Rattle.std.proofs.lemmas.Grind.{common_steps}
use Rattle.embed.proofs.KeyRuns.{chunked}
use Rattle.embed.proofs.keys.keys_of.Goals as goal

pub returns : goal.returns
returns c =
    let d = c.args.flat.now in
    chunked d c.as_chunks.ensures.front c.as_chunks.ensures.front_len (grind (arith, common_steps)) c.array.ensures
