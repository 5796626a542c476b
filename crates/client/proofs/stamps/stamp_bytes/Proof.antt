-- `client::stamps::stamp_bytes` meets its contract, by those of the functions that it calls. Assumes nothing.
use borrow.Author.Rules.{rules}
use mathlib.Core.Path.{◌≡◌, refl, ap, ◌∙◌}
use Prim.Native.Nat.{ℕ, ◌+◌}
use native.Mathlib.Omega.{arith}
use lib.ListN.{length, replicate}
use mathlib.Core.List.{List, ◌++◌}
use Rattle.hmac.specs.Hmac.{tag_of, tag_size}
use Rattle.format.specs.Reading.{put}
use Rattle.protocol.specs.Primitives.{real, stamp_message_def}
use Rattle.protocol.proofs.Primitive.{real-lengths}
use Rattle.client.proofs.StampBytes.{two_puts}
use Rattle.client.proofs.stamps.stamp_bytes.Statement.{statement}
use Rattle.client.proofs.stamps.stamp_bytes.Tie as tie

returns : tie.Need-returns
unfolding stamp_message_def real
returns c =
    let at-write-at = c.before.before.before.before.before in
    let at-stamp-message = at-write-at.before.before.before.before.before.before in
    let z = c.write_at-2.ensures in
    let y = at-write-at.write_at.ensures in
    let m = at-stamp-message.stamp_message-message.ensures in
    let g = at-write-at.tag-tag.ensures in
    let lm : length at-stamp-message.stamp_message-message.result ≡ 5 = ap length m in
    let lg : length at-write-at.tag-tag.result ≡ tag_size = ap length g ∙ real-lengths.tag _ _ in
    let lz : length {A = ℕ} (replicate (5 + tag_size) 0) ≡ 5 + tag_size = refl in
    let a = at-stamp-message.args in
    let M : List ℕ = at-stamp-message.stamp_message-message.result in
    let G : List ℕ = at-write-at.tag-tag.result in
    let v : c.write_at-2.new.kept ≡ M ++ G = z ∙ (ap (λ (x : List ℕ). put x 5 G) y ∙ two_puts (replicate (5 + tag_size) 0) M G 5 lm
    (omega (arith, lm, lg, lz))) in
    let q : M ++ G ≡ stamp_message_def a.number a.writer ++ tag_of a.writers.now (stamp_message_def a.number a.writer) = rw (g, m) in
    v ∙ q

pub stamp_bytes_spec : {M : Type 1} → statement M
stamp_bytes_spec = tie.close (tie.spec (λ c κs. search rules) (λ c. search rules) (λ c κs. search rules) (λ c. search rules) (λ c. search rules)
    (λ c κs. search rules) (λ c. search rules) (λ c. search rules) (λ c κs. search rules) returns)
