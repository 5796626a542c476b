-- The server's operation on bytes is its step on values: a memory that holds a server gives, at each packet, what `server_step` gives
-- for the decoded packet, and holds the server after it. Bytes and values fix each other, and refusals are one list. Nothing is assumed.
use mathlib.Core.Path.{◌≡◌, refl, sym, ap, ◌∙◌, subst}
use mathlib.Core.Bool.{Bool, true, false, cond, not, ◌&&◌}
use mathlib.Core.List.{List}
use mathlib.Core.Option.{Option, none, some, some-injective}
use Prim.Native.Nat.{ℕ, zero, suc, ◌≤◌}
use native.Mathlib.Omega.{arith}
use lib.Dec.{ltb, eqb, lit≤}
use lib.ListN.{length, take, drop}
use lib.Seq.{take_at}
use borrow.Author.Tests.{eq-eqb, eqb-true}
use Rattle.cluster.specs.Config.{Config, shelf}
use Rattle.cluster.specs.Ranges.{top_faults, memory_size, packet_room}
use Rattle.cluster.specs.Refusals.{on_refusal}
use Rattle.cluster.proofs.Tests.{and_both}
use Rattle.format.specs.Format.{via, seq, such, byte}
use Rattle.protocol.specs.Packet.{Packet, Body, BodyOk, PacketOk, packet_f, head_f, body_f, kind_of, decode, encode}
use Rattle.protocol.specs.Packet.{clock, clock_reply, store, store_reply, complete, complete_reply, collect, collect_reply, filter, filter_reply, repair, repair_reply}
use Rattle.protocol.specs.Memory.{Memory, MemoryOk, decode_memory, encode_memory, blank_memory}
use Rattle.protocol.specs.Primitives.{Primitives}
use Rattle.protocol.specs.Server.{Server, memory_of, Acted, act, barred, reply_to, server_refusal, blank_server}
use Rattle.protocol.proofs.ServerStep.{Stepped, answered, server_step}
use Rattle.protocol.specs.ServerBytes.{Served, server_in, turned_down_def, acted_on, server_take}
use Rattle.format.specs.Reading.{over}
use Rattle.format.proofs.Answers.{no_some}
use Rattle.protocol.proofs.Bodies.{decode-ok, body_ok}
use Rattle.protocol.proofs.Memories.{of_fields, memory-length, decode-encode-memory}
use Rattle.protocol.proofs.Acts.{ServerOk, Right, act-ok, blank_ok}

-- bytes at the start of the output are there
pub over-start : (x output : List ℕ) → take (length x) (over x output) ≡ x
unfolding over
over-start x output = take_at x (drop (length x) output) (length x) refl

-- ---- a memory that holds the server v of t and number b

pub record Holds (t b : ℕ) (v : Server) (memory : List ℕ) : Type 0 where
  pub t_range : (1 ≤ t) × (t ≤ top_faults)
  pub b_range : (1 ≤ b) × (b ≤ (shelf t).servers)
  pub ok : ServerOk (shelf t) v
  pub bytes : memory ≡ encode_memory (memory_of t b v)

module _ {t b : ℕ} {v : Server} {memory : List ℕ} (h : Holds t b v memory) where
  pub memory-ok : MemoryOk (memory_of t b v)
  memory-ok =
      of_fields _
      (record {
        t_range = h.t_range;
        server_range = h.b_range;
        few = h.ok.few;
        latest = h.ok.latest;
        writes = h.ok.writes;
        once = h.ok.once;
      })

  pub holds_decodes : decode_memory memory ≡ some (memory_of t b v)
  holds_decodes = ap decode_memory h.bytes ∙ decode-encode-memory (memory_of t b v) memory-ok

  pub holds-length : length memory ≡ memory_size
  holds-length = ap length h.bytes ∙ memory-length (memory_of t b v) memory-ok

pub blank-holds : (t b : ℕ) → (1 ≤ t) × (t ≤ top_faults) → (1 ≤ b) × (b ≤ (shelf t).servers) → Holds t b (blank_server (shelf t))
    (encode_memory (blank_memory t b))
blank-holds t b h k = record { t_range = h; b_range = k; ok = blank_ok (shelf t); bytes = refl }

-- ---- the reply is a packet

pub kind_range : (x : Body) → (1 ≤ kind_of x) × (kind_of x ≤ 12)
kind_range clock = (lit≤ tt, lit≤ tt)
kind_range (clock_reply x) = (lit≤ tt, lit≤ tt)
kind_range (store x) = (lit≤ tt, lit≤ tt)
kind_range (store_reply x) = (lit≤ tt, lit≤ tt)
kind_range (complete x) = (lit≤ tt, lit≤ tt)
kind_range complete_reply = (lit≤ tt, lit≤ tt)
kind_range collect = (lit≤ tt, lit≤ tt)
kind_range (collect_reply x) = (lit≤ tt, lit≤ tt)
kind_range (filter x) = (lit≤ tt, lit≤ tt)
kind_range (filter_reply x) = (lit≤ tt, lit≤ tt)
kind_range (repair x) = (lit≤ tt, lit≤ tt)
kind_range repair_reply = (lit≤ tt, lit≤ tt)

pub reply-ok : (p : Packet) (x : Body) → PacketOk p → BodyOk (shelf p.head.t) x → PacketOk (reply_to p x)
unfolding PacketOk packet_f reply_to head_f such via seq body_f byte
reply-ok p x h k = ((h.0.0, (kind_range x, h.0.1.1)), (refl, k))

-- ---- the operation

-- what the bytes after the operation are, by the step on values
pub record Lifted (t b : ℕ) (u : Stepped) (d : Served) : Type 0 where
  pub number : d.result.number ≡ u.number
  pub memory : Holds t b u.server d.memory
  pub ok : (p : Packet) → u.reply ≡ some p → PacketOk p
  pub sent : (p : Packet) → u.reply ≡ some p → take d.result.count d.output ≡ encode p
  pub silent : u.reply ≡ none → d.result.count ≡ 0

-- no refusal: there is a packet, and its t is the server's
pub accepted-t : (m : Memory) (p : Packet) (room : ℕ) → server_refusal true (some m) (some p) room ≡ 0 → p.head.t ≡ m.t
unfolding server_refusal
accepted-t m p room e = go (eqb p.head.t m.t && eqb p.head.server m.server) refl e
  where
    go : (c : Bool) → (eqb p.head.t m.t && eqb p.head.server m.server) ≡ c
        → ◌≡◌ {A = ℕ} (cond (not c) 8 (cond (barred p.head.client p.body) 9 (cond (ltb room packet_room) 15 0))) 0 → p.head.t ≡ m.t
    go true h k = eqb-true _ _ (and_both _ _ h).0
    go false h k = absurd (let z : ◌≡◌ {A = ℕ} 8 0 = k in omega arith)

module _ (P : Primitives) (t b : ℕ) (v : Server) (memory key packet output : List ℕ) (h : Holds t b v memory) where
  lift-refused : (n : ℕ) → Lifted t b (record { number = n; server = v; reply = none }) (turned_down_def P memory key packet output n)
  unfolding turned_down_def
  lift-refused n = record { number = refl; memory = h; ok = λ p e. no_some p e; sent = λ p e. no_some p e; silent = λ e. refl }

  lift_acted : (p : Packet) → PacketOk p → p.head.t ≡ t
      → Lifted t b (answered P (shelf t) key b v (length output) (some p)) (acted_on P memory key packet output (some (memory_of t b v)) (some p))
  unfolding answered acted_on server_in
  lift_acted p ok e =
      let s : Config = shelf t in
      let a : Acted = act P s key b v p.body in
      let r : Right P s key b v h.ok a = act-ok P s key b v h.ok p.body (subst (λ (z : ℕ). BodyOk (shelf z) p.body) e (body_ok p ok)) in
      let k : PacketOk (reply_to p a.reply) = reply-ok p a.reply ok (subst (λ (z : ℕ). BodyOk (shelf z) a.reply) (sym e) r.reply) in
      let bytes : List ℕ = encode (reply_to p a.reply) in
      record {
        number = refl;
        memory = record { t_range = h.t_range; b_range = h.b_range; ok = r.server; bytes = refl };
        ok = λ q f. subst PacketOk (some-injective _ q f) k;
        sent = λ q f. over-start bytes output ∙ ap encode (some-injective (reply_to p a.reply) q f);
        silent = λ f. no_some _ (sym f);
      }

  -- refused with n, or acted_on
  lift_on : (o : Option Packet) → ((p : Packet) → o ≡ some p → PacketOk p) → (n : ℕ)
      → server_refusal true (some (memory_of t b v)) o (length output) ≡ n
      → Lifted t b (on_refusal n (answered P (shelf t) key b v (length output) o) (record { number = n; server = v; reply = none }))
      (on_refusal n (acted_on P memory key packet output (some (memory_of t b v)) o) (turned_down_def P memory key packet output n))
  lift_on o f (suc n) e = lift-refused (suc n)
  lift_on none f zero e = absurd (let z : ◌≡◌ {A = ℕ} 7 0 = unfold server_refusal in e in omega arith)
  lift_on (some p) f zero e = lift_acted p (f p refl) (accepted-t (memory_of t b v) p (length output) e)

  -- the whole: bytes in, bytes out, as the values say
  pub serve_lift : Lifted t b (server_step P (shelf t) key b v (length output) (decode packet)) (server_take P memory key packet output)
  unfolding server_take server_step shelf
  serve_lift =
      rw (eq-eqb _ _ (holds-length h), holds_decodes h)
      (lift_on (decode packet) (λ p e. decode-ok packet p e) (server_refusal true (some (memory_of t b v)) (decode packet) (length output)) refl)
