-- `client::stamps::stamp_message` meets its contract: number and writer, put over zeros. Assumes nothing.
use borrow.Author.Rules.{rules}
use mathlib.Core.Path.{◌≡◌, refl, ◌∙◌}
use mathlib.Core.List.{[], ◌∷◌}
use Prim.Native.Nat.{ℕ}
use native.Mathlib.Omega.{arith}
use lib.ListN.{replicate}
use Rattle.format.specs.Format.{print4}
use Rattle.format.specs.Reading.{put}
use Rattle.wire.proofs.Put.{placed_then}
use Rattle.protocol.specs.Primitives.{stamp_message_def}
use Rattle.client.proofs.stamps.stamp_message.Statement.{statement}
use Rattle.client.proofs.stamps.stamp_message.Tie as tie

over_zeros : (n w : ℕ) → put (replicate 5 0) 0 (stamp_message_def n w) ≡ stamp_message_def n w
unfolding put stamp_message_def
over_zeros n w = refl

returns : tie.Need-returns
unfolding stamp_message_def
returns c =
    let at-put-number4 = c.before.before.before.before in
    let a = at-put-number4.args in
    (placed_then (print4 a.number) (a.writer ∷ []) at-put-number4.put_number4-n.ensures c.put_byte.ensures (omega arith)).bytes
    ∙ over_zeros a.number a.writer

pub stamp_message_spec : {M : Type 1} → statement M
stamp_message_spec = tie.close (tie.spec (λ c. search rules) (λ c κs. search rules) (λ c. search rules) (λ c κs. search rules) returns)
