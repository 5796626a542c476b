-- What cendrulas_store_code tells, by what the packet reader found: the kind decides, and a store reply's number is its code.
-- By the places of a packet's fields. Assumes nothing.
use mathlib.Core.Path.{◌≡◌, refl, ap, ◌∙◌}
use mathlib.Core.Logic.{◌≢◌}
use mathlib.Core.Bool.{Bool, true, false, cond}
use mathlib.Core.List.{List}
use mathlib.Core.Option.{some}
use Prim.Native.Nat.{ℕ}
use lib.Dec.{eqb}
use lib.ListN.{drop}
use borrow.Author.Tests.{ne_eqb}
use Rattle.cluster.specs.Config.{Config, shelf}
use Rattle.protocol.specs.declared.Head.{Head}
use Rattle.protocol.specs.Packet.{Body, kind_of, head_size, decode}
use Rattle.wire.specs.Places.{body_at, packet_at, body_number}
use Rattle.wire.proofs.Laws.{told_code}
use Rattle.embed.specs.Packets.{packet_refusal}
use Rattle.embed.specs.Packing.{packed}
use Rattle.embed.specs.Replies.{store_reply_kind, code_of, code_told}

module _ (c : Config) (d : List ℕ) where
  abbrev Other : Body → Type 0
  Other x = eqb (kind_of x) store_reply_kind ≡ false

  either : (t : Bool) (x y : Body) → Other x → Other y → Other (cond t x y)
  either true x y e f = e
  either false x y e f = f

  other-kind : (k : ℕ) → k ≢ store_reply_kind → Other (body_at c k d)
  unfolding body_at
  other-kind k n =
      either (eqb k 1) _ _ refl
      (either (eqb k 2) _ _ refl
      (either (eqb k 3) _ _ refl
      (rw (ne_eqb k 4 n)
      (either (eqb k 5) _ _ refl
      (either (eqb k 6) _ _ refl
      (either (eqb k 7) _ _ refl
      (either (eqb k 8) _ _ refl
      (either (eqb k 9) _ _ refl (either (eqb k 10) _ _ refl (either (eqb k 11) _ _ refl refl))))))))))

module _ (b : List ℕ) (h : Head) (e : decode b ≡ some (packet_at h b)) where
  pub code_other : h.kind ≢ store_reply_kind → code_told b ≡ packed 0 0 0 0
  unfolding code_told code_of packet_refusal packet_at
  code_other n = rw e (rw (other-kind (shelf h.t) (drop head_size b) h.kind n) refl)

  -- x: the number of the body
  pub code-store : h.kind ≡ store_reply_kind → (x r : ℕ) → x ≡ body_number (packet_at h b).body → r ≡ packed 0 1 0 x → r ≡ code_told b
  unfolding code_told code_of packet_refusal packet_at body_at
  code-store k x r there gives = gives ∙ rw (e, k) (ap (packed 0 1 0) (there ∙ told_code h b k))
