-- Repair: a valid candidate is raised, any other leaves the memory as it is, and the reply has no body.
-- By the laws of the raised memory and of replies. Assumes nothing.
use mathlib.Core.Path.{◌≡◌, refl, sym, ap, ◌∙◌, subst}
use mathlib.Core.Bool.{Bool, true, false, cond}
use mathlib.Core.List.{List, []}
use mathlib.Core.Option.{some}
use Prim.Native.Nat.{ℕ}
use lib.ListN.{drop}
use Rattle.cluster.specs.Config.{shelf}
use Rattle.cluster.specs.declared.Outcome.{Outcome}
use Rattle.protocol.specs.declared.Head.{Head}
use Rattle.format.specs.Format.{Bytes}
use Rattle.protocol.specs.declared.kinds.Kind.TheVariants as kind
use Rattle.protocol.specs.Packet.{repair, head_size, decode}
use Rattle.protocol.specs.Memory.{encode_memory}
use Rattle.protocol.specs.Primitives.{real}
use Rattle.protocol.specs.Server.{memory_of, Server, raise, act}
use Rattle.protocol.specs.View.{candidate_at}
use Rattle.protocol.specs.ServerBytes.{Served, server_in, acted_on}
use Rattle.wire.specs.Places.{body_at, packet_at}
use Rattle.wire.specs.Make.{packet_step}
use Rattle.server.specs.declared.memory.Opened.{Opened}
use Rattle.server.specs.Reads.{OpenedAs}
use Rattle.server.specs.Answers.{memory_in, reply_head_def, AnswersAs, raised_bytes}
use Rattle.server.specs.Valid.{ValidAs, RaisedAs}
use Rattle.server.proofs.Raising.{raised-memory}
use Rattle.server.proofs.Replies.{body_of, to-server, replied, unchanged, sent-ok, sent-bytes}

module _ (d key : List ℕ) (told : Opened) (x : List ℕ) {r : Bool} (test : ValidAs d key told x r) where
  abbrev t : ℕ
  t = told.t

  abbrev b : ℕ
  b = told.server

  pub raised-valid : r ≡ true → {m : List ℕ} → m ≡ raised_bytes d x → RaisedAs d key told x m
  raised-valid i p o is =
      let v : Server = server_in (memory_in o) in
      let c = candidate_at (shelf t) x in
      p ∙ raised-memory o o.bytes x is.0 is.1 ∙ ap (λ (g : Bool). encode_memory (memory_of t b (cond g (raise c v) v))) (sym i ∙ test o is)

  pub left_invalid : r ≡ false → RaisedAs d key told x d
  left_invalid i o is =
      let v : Server = server_in (memory_in o) in
      let c = candidate_at (shelf t) x in
      unchanged o o.bytes ∙ ap (λ (g : Bool). encode_memory (memory_of t b (cond g (raise c v) v))) (sym i ∙ test o is)

module _ (d key packet : List ℕ) (ps : Bytes packet) (output : List ℕ) (h : Head) (told : Opened) where
  pub repair-answers : {x m out : List ℕ} {r : Outcome} → x ≡ drop head_size packet → RaisedAs d key told x m
      → record { result = r; output = out } ≡ packet_step (reply_head_def h 12) [] [] output
      → AnswersAs kind.Repair d key packet output h told (record { result = r; memory = m; output = out })
  unfolding body_at act packet_at
  repair-answers {x} {m} {out} {r} c u w o own dec k room =
      let y : List ℕ = drop head_size packet in
      let b = body_of h packet 11 k in
      let answer : Served = record { result = r; memory = m; output = out } in
      to-server h own (λ z. RaisedAs d key z y m → (o : OpenedAs d z) → answer ≡ acted_on real d key packet output (some (memory_in o)) (decode packet))
      (λ n e top u o. replied key packet output h o dec room (repair (candidate_at (shelf h.t) y)) b [] []
      (u o (sent-bytes h packet dec b ps, sent-ok h packet dec b)) refl w) (subst (λ (z : List ℕ). RaisedAs d key told z m) c u) o
