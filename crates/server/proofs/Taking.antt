-- Taking a packet: one equation for each way through the refusals, and the packets that none of them applies to.
-- The refusals are an ordered list, so each test that was passed strikes its entry out. Assumes nothing.
use mathlib.Core.Path.{◌≡◌, refl, sym, ap, ◌∙◌}
use mathlib.Core.Logic.{◌⊎◌, inl, inr}
use mathlib.Core.Bool.{Bool, true, false, cond, not, ◌&&◌, ◌||◌}
use mathlib.Core.List.{List}
use mathlib.Core.Option.{none, some}
use Prim.Native.Nat.{ℕ, ◌≤◌, ◌<◌}
use native.Mathlib.Omega.{arith}
use lib.Dec.{ltb, eqb}
use lib.ListN.{length, drop}
use borrow.Author.Tests.{eq-eqb, ne_eqb, eqb-true, lt-ltb, le-ltb, ltb-false}
use Rattle.cluster.specs.Config.{shelf}
use Rattle.cluster.specs.Ranges.{top_writer, memory_size, packet_room}
use Rattle.cluster.specs.Refusals.{on_refusal}
use Rattle.cluster.specs.declared.Outcome.{Outcome}
use Rattle.cluster.proofs.Tests.{and_both, refused_is}
use Rattle.protocol.specs.declared.Head.{Head}
use Rattle.protocol.specs.declared.Label.{Label}
use Rattle.protocol.specs.declared.kinds.Kind.{Kind}
use Rattle.protocol.specs.declared.kinds.Kind.TheVariants as kind
use Rattle.protocol.specs.Kinds.{kind_number}
use Rattle.protocol.specs.Packet.{head_size, decode}
use Rattle.protocol.specs.Memory.{decode_memory}
use Rattle.protocol.specs.Primitives.{real}
use Rattle.protocol.specs.Server.{Server, memory_of, barred, server_refusal}
use Rattle.protocol.specs.ServerBytes.{Served, server_in, turned_down_def, acted_on, server_take}
use Rattle.wire.specs.Places.{body_at, packet_at, body_label}
use Rattle.server.specs.declared.memory.Opened.{Opened}
use Rattle.server.specs.Reads.{OpenedAs}
use Rattle.server.specs.Answers.{memory_in, NumberAt, ToServer, AnswersAny}
use Rattle.server.proofs.Standing.{memory-fields}

-- ---- refusal 9

-- whether a stamp of this writer is not one of the client's own
abbrev foreign : ℕ → ℕ → Bool
foreign client writer = ltb top_writer client || not (eqb writer client)

module _ (client writer : ℕ) where
  pub foreign-reader : top_writer < client → true ≡ foreign client writer
  foreign-reader h = rw (lt-ltb top_writer client h)

  pub foreign-stamp : client ≤ top_writer → not (eqb writer client) ≡ foreign client writer
  foreign-stamp h = rw (le-ltb top_writer client h)

-- of a packet whose head's kind is k
module _ (h : Head) (packet : List ℕ) {k : Kind} (its : kind_number k ≡ h.kind) where
  pub kind-is : (j : Kind) → k ≡ j → h.kind ≡ kind_number j
  kind-is j e = sym its ∙ ap kind_number e

  of-kind : (j : Kind) → k ≡ j
      → barred h.client (packet_at h packet).body ≡ barred h.client (body_at (shelf h.t) (kind_number j) (drop head_size packet))
  unfolding packet_at
  of-kind j e = ap (λ (n : ℕ). barred h.client (body_at (shelf h.t) n (drop head_size packet))) (kind-is j e)

  pub barred-reader : (k ≡ kind.Collect) ⊎ ((k ≡ kind.Filter) ⊎ (k ≡ kind.Repair)) → false ≡ barred h.client (packet_at h packet).body
  unfolding body_at barred
  barred-reader (inl e) = sym (of-kind kind.Collect e)
  barred-reader (inr (inl e)) = sym (of-kind kind.Filter e)
  barred-reader (inr (inr e)) = sym (of-kind kind.Repair e)

  pub barred-clock : k ≡ kind.Clock → ltb top_writer h.client ≡ barred h.client (packet_at h packet).body
  unfolding body_at barred
  barred-clock e = sym (of-kind kind.Clock e)

  -- the label's writer is that of the stamp that the body of kind j begins with
  writer_of : (j : Kind) → k ≡ j → {l : Label} → l ≡ body_label (packet_at h packet).body
      → l.writer ≡ (body_label (body_at (shelf h.t) (kind_number j) (drop head_size packet))).writer
  unfolding packet_at
  writer_of j e f =
      ap (λ (x : Label). x.writer) f
      ∙ ap (λ (n : ℕ). (body_label (body_at (shelf h.t) n (drop head_size packet))).writer) (kind-is j e)

  pub barred-stamp : (k ≡ kind.Store) ⊎ (k ≡ kind.Complete) → {l : Label} → l ≡ body_label (packet_at h packet).body → {r : Bool}
      → r ≡ foreign h.client l.writer → r ≡ barred h.client (packet_at h packet).body
  unfolding body_at body_label barred
  barred-stamp (inl e) f p = p ∙ ap (foreign h.client) (writer_of kind.Store e f) ∙ sym (of-kind kind.Store e)
  barred-stamp (inr e) f p = p ∙ ap (foreign h.client) (writer_of kind.Complete e f) ∙ sym (of-kind kind.Complete e)

  pub barred-reply : (k ≡ kind.ClockReply) ⊎ ((k ≡ kind.StoreReply) ⊎ ((k ≡ kind.CompleteReply) ⊎ ((k ≡ kind.CollectReply)
      ⊎ ((k ≡ kind.FilterReply) ⊎ (k ≡ kind.RepairReply))))) → true ≡ barred h.client (packet_at h packet).body
  unfolding body_at barred
  barred-reply (inl e) = sym (of-kind kind.ClockReply e)
  barred-reply (inr (inl e)) = sym (of-kind kind.StoreReply e)
  barred-reply (inr (inr (inl e))) = sym (of-kind kind.CompleteReply e)
  barred-reply (inr (inr (inr (inl e)))) = sym (of-kind kind.CollectReply e)
  barred-reply (inr (inr (inr (inr (inl e))))) = sym (of-kind kind.FilterReply e)
  barred-reply (inr (inr (inr (inr (inr e))))) = sym (of-kind kind.RepairReply e)

-- ---- refusals 8, 9 and 15

module _ (h : Head) (told : Opened) (packet : List ℕ) (room : ℕ) where
  abbrev t : ℕ
  t = told.t

  abbrev b : ℕ
  b = told.server

  pub other-t : (h.t ≡ t → ⊥) → NumberAt told (packet_at h packet) room 8
  unfolding server_refusal packet_at
  other-t e v = rw (ne_eqb h.t t e)

  module _ (p : h.t ≡ t) where
    pub other-server : (h.server ≡ b → ⊥) → NumberAt told (packet_at h packet) room 8
    unfolding server_refusal packet_at
    other-server e v = rw (eq-eqb h.t t p, ne_eqb h.server b e)

    module _ (q : h.server ≡ b) {r : Bool} (test : r ≡ barred h.client (packet_at h packet).body) where
      pub is-barred : r ≡ true → NumberAt told (packet_at h packet) room 9
      unfolding server_refusal
      is-barred e v = rw (heads, eq-eqb h.t t p, eq-eqb h.server b q, sym test ∙ e)
        where
          heads : (packet_at h packet).head ≡ h
          heads = unfold packet_at in refl

      pub short : r ≡ false → room < packet_room → NumberAt told (packet_at h packet) room 15
      unfolding server_refusal
      short e l v = rw (heads, eq-eqb h.t t p, eq-eqb h.server b q, sym test ∙ e, lt-ltb room packet_room l)
        where
          heads : (packet_at h packet).head ≡ h
          heads = unfold packet_at in refl

      pub let_in : r ≡ false → packet_room ≤ room → NumberAt told (packet_at h packet) room 0
      unfolding server_refusal
      let_in e l v = rw (heads, eq-eqb h.t t p, eq-eqb h.server b q, sym test ∙ e, le-ltb room packet_room l)
        where
          heads : (packet_at h packet).head ≡ h
          heads = unfold packet_at in refl

-- what holds of a packet that is not refused
pub record LetIn (h : Head) (told : Opened) (packet : List ℕ) (room : ℕ) : Type 0 where
  pub own : ToServer h told
  pub sent : barred h.client (packet_at h packet).body ≡ false
  pub room-there : packet_room ≤ room

pub was_let_in : (h : Head) (told : Opened) (packet : List ℕ) (room : ℕ) (v : Server)
    → server_refusal true (some (memory_of told.t told.server v)) (some (packet_at h packet)) room ≡ 0 → LetIn h told packet room
unfolding server_refusal packet_at
was_let_in h told packet room v e =
    go (eqb h.t told.t && eqb h.server told.server) refl (barred h.client (packet_at h packet).body) refl (ltb room packet_room) refl e
  where
    go : (x : Bool) → (eqb h.t told.t && eqb h.server told.server) ≡ x → (y : Bool) → barred h.client (packet_at h packet).body ≡ y →
        (z : Bool) → ltb room
        packet_room ≡ z
        → ◌≡◌ {A = ℕ} (cond (not x) 8 (cond y 9 (cond z 15 0))) 0 → LetIn h told packet room
    go true p false q false r k =
        let (i, j) = and_both (eqb h.t told.t) (eqb h.server told.server) p in
        record { own = (eqb-true h.t told.t i, eqb-true h.server told.server j); sent = q; room-there = ltb-false room packet_room r }
    go false p y q z r k = absurd (let n : ◌≡◌ {A = ℕ} 8 0 = k in omega arith)
    go true p true q z r k = absurd (let n : ◌≡◌ {A = ℕ} 9 0 = k in omega arith)
    go true p false q true r k = absurd (let n : ◌≡◌ {A = ℕ} 15 0 = k in omega arith)

-- a memory that opens is that of a server from 1 on
pub server_least : {d : List ℕ} {told : Opened} → OpenedAs d told → 1 ≤ told.server
server_least o = (memory-fields o).server_range.0

-- ---- the whole

module _ (d key packet output : List ℕ) where
  abbrev down : Outcome → Served
  down z = record { result = z; memory = d; output = output }

  abbrev number : ℕ → Outcome
  number n = record { number = n; count = 0 }

  pub take-size : (length d ≡ memory_size → ⊥) → {z : Outcome} → z ≡ number 1 → down z ≡ server_take real d key packet output
  unfolding server_take server_refusal turned_down_def
  take-size h p = rw (ne_eqb (length d) memory_size h) (ap down p)

  module _ (size : length d ≡ memory_size) where
    pub take_broken : decode_memory d ≡ none → {z : Outcome} → z ≡ number 2 → down z ≡ server_take real d key packet output
    unfolding server_take server_refusal turned_down_def
    take_broken e p = rw (eq-eqb (length d) memory_size size, e) (ap down p)

    module _ {told : Opened} (o : OpenedAs d told) where
      pub take_unread : decode packet ≡ none → {z : Outcome} → z ≡ number 7 → down z ≡ server_take real d key packet output
      unfolding server_take server_refusal turned_down_def
      take_unread r p = rw (eq-eqb (length d) memory_size size, o.decoded, r) (ap down p)

      module _ (h : Head) (dec : decode packet ≡ some (packet_at h packet)) {k : ℕ}
          (found : NumberAt told (packet_at h packet) (length output) k) where
        whole : server_take real d key packet output ≡ on_refusal k (acted_on real d key packet output (some (memory_in o)) (decode packet))
            (down (number k))
        unfolding server_take turned_down_def server_in
        whole =
            rw (eq-eqb (length d) memory_size size, o.decoded)
            (ap (λ (j : ℕ). on_refusal j (acted_on real d key packet output (some (memory_in o)) (decode packet)) (down (number j)))
            (ap (λ q. server_refusal true (some (memory_in o)) q (length output)) dec ∙ sym (found (server_in (memory_in o)))))

        pub take-refused : (k ≡ 0 → ⊥) → {z : Outcome} → z ≡ number k → down z ≡ server_take real d key packet output
        take-refused h p = ap down p ∙ sym (whole ∙ refused_is k _ _ h)

        accepted : k ≡ 0 → LetIn h told packet (length output)
        accepted z = let v : Server = server_in (memory_in o) in was_let_in h told packet (length output) v (sym (found v) ∙ z)

        pub take_sent : k ≡ 0 → barred h.client (packet_at h packet).body ≡ false
        take_sent z = (accepted z).sent

        pub take-answered : k ≡ 0 → {r : Served} → AnswersAny d key packet output h told r → r ≡ server_take real d key packet output
        take-answered z {r} a =
            let l = accepted z in
            a o l.own dec l.sent l.room-there
            ∙ sym (whole ∙ ap (λ (j : ℕ). on_refusal j (acted_on real d key packet output (some (memory_in o)) (decode packet)) (down (number j))) z)
