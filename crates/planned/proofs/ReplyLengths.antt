-- The bytes of every reply that a server gives, by the kind of the request: for every memory, key, packet and output, if it is not refused.
-- What a server answers is within the layout, and a body's bytes are known exactly. Assumes nothing.
use mathlib.Core.Path.{◌≡◌, refl, sym, ap, ◌∙◌, subst}
use mathlib.Core.Bool.{Bool, true, false}
use mathlib.Core.List.{List}
use mathlib.Core.Option.{Option, none, some}
use Prim.Native.Nat.{ℕ, zero, suc, ◌+◌}
use native.Mathlib.Omega.{arith}
use lib.Dec.{eqb, leb}
use lib.ListN.{length, take}
use Rattle.cluster.specs.Config.{Config, shelf}
use Rattle.cluster.specs.Ranges.{memory_size, capacity}
use Rattle.cluster.specs.Refusals.{on_refusal}
use Rattle.protocol.specs.Values.{Candidate, Share, stamp_size, candidate_size_def, blank_candidate, is_some}
use Rattle.protocol.specs.Packet.{Body, BodyOk, Packet, PacketOk, head_size, decode, encode}
use Rattle.protocol.specs.Packet.{clock, clock_reply, store, store_reply, complete, complete_reply, collect, collect_reply, filter, filter_reply, repair, repair_reply}
use Rattle.protocol.specs.Memory.{Memory, lookup, decode_memory}
use Rattle.protocol.specs.Primitives.{Primitives}
use Rattle.protocol.specs.Server.{Server, Acted, best, act, on_store_def, reply_to, server_refusal}
use Rattle.protocol.specs.ServerBytes.{Served, server_in, turned_down_def, acted_on, server_take}
use Rattle.format.proofs.Answers.{at-cond}
use Rattle.protocol.proofs.Bodies.{decode-ok, body_ok}
use Rattle.protocol.proofs.Lengths.{held_share_size, body_size, packet-size}
use Rattle.protocol.proofs.Memories.{fields, decode-memory-ok}
use Rattle.protocol.proofs.Acts.{ServerOk, Right, act-ok}
use Rattle.protocol.proofs.ServerLift.{over-start, reply-ok, accepted-t}

-- the bytes of the body that answers a request; o: the share that is held for the stamp answered to filter
abbrev pub answer_size : Config → Option Share → Body → ℕ
answer_size s o clock = stamp_size
answer_size s o (store w) = 1
answer_size s o (complete c) = 0
answer_size s o collect = candidate_size_def s
answer_size s o (filter cs) = stamp_size + 1 + held_share_size s o
answer_size s o (repair c) = 0
-- a reply is no request: refused with 9
answer_size s o (clock_reply x) = 0
answer_size s o (store_reply x) = 0
answer_size s o complete_reply = 0
answer_size s o (collect_reply x) = 0
answer_size s o (filter_reply x) = 0
answer_size s o repair_reply = 0

module _ (P : Primitives) (s : Config) (key : List ℕ) (b : ℕ) (v : Server) where
  -- what the server holds for the highest valid candidate
  abbrev pub held_for : List Candidate → Option Share
  held_for cs = lookup (best P s key b v (blank_candidate s) cs).stamp v.history

  abbrev pub held_to : Body → Option Share
  held_to (filter cs) = held_for cs
  held_to clock = none
  held_to (clock_reply x) = none
  held_to (store x) = none
  held_to (store_reply x) = none
  held_to (complete x) = none
  held_to complete_reply = none
  held_to collect = none
  held_to (collect_reply x) = none
  held_to (filter_reply x) = none
  held_to (repair x) = none
  held_to repair_reply = none

  answer-size : (x : Body) → body_size s (act P s key b v x).reply ≡ answer_size s (held_to x) x
  unfolding act on_store_def
  answer-size clock = refl
  answer-size (store w) =
      at-cond (is_some (lookup w.stamp v.history)) _ _ (λ (a : Acted). body_size s a.reply ≡ 1) (λ e. refl)
      (λ e. at-cond (leb capacity (length v.history)) _ _ (λ (a : Acted). body_size s a.reply ≡ 1) (λ f. refl) (λ f. refl))
  answer-size (complete c) = refl
  answer-size collect = refl
  answer-size (filter cs) = refl
  answer-size (repair c) = refl
  answer-size (clock_reply x) = refl
  answer-size (store_reply x) = refl
  answer-size complete_reply = refl
  answer-size (collect_reply x) = refl
  answer-size (filter_reply x) = refl
  answer-size repair_reply = refl

-- ---- on bytes

reply-size : (q : Packet) (x : Body) (t : ℕ) → q.head.t ≡ t → PacketOk q → BodyOk (shelf t) x → length (encode (reply_to q x)) ≡ head_size + body_size
    (shelf t) x
unfolding reply_to
reply-size q x t e h k =
    let o : BodyOk (shelf q.head.t) x = subst (λ (z : ℕ). BodyOk (shelf z) x) (sym e) k in
    packet-size _ (unfold reply_to in reply-ok q x h o) ∙ ap (λ (z : ℕ). head_size + body_size (shelf z) x) e

module _ (P : Primitives) (memory key packet output : List ℕ) where
  -- the reply to the request q, of a server whose memory is m
  abbrev pub reply_size : Memory → Packet → ℕ
  reply_size m q = let s = shelf m.t in head_size + answer_size s (held_to P s key m.server (server_in m) q.body) q.body

  pub record Replied (d : Served) : Type 0 where
    pub holds : Memory
    pub request : Packet
    pub opened : decode_memory memory ≡ some holds
    pub read : decode packet ≡ some request
    pub reply : Packet
    pub fits : PacketOk reply
    pub faults : reply.head.t ≡ holds.t
    pub bytes : take d.result.count d.output ≡ encode reply
    pub count : d.result.count ≡ reply_size holds request
    pub sent : length (take d.result.count d.output) ≡ reply_size holds request

  acted-size : (m : Memory) (q : Packet) → decode_memory memory ≡ some m → decode packet ≡ some q → q.head.t ≡ m.t
      → Replied (acted_on P memory key packet output (some m) (some q))
  unfolding acted_on
  acted-size m q e f g =
      let s : Config = shelf m.t in
      let y = fields m (decode-memory-ok memory m e) in
      let v : Server = server_in m in
      let ok : ServerOk s v = unfold server_in in record { few = y.few; latest = y.latest; writes = y.writes; once = y.once } in
      let a : Acted = act P s key m.server v q.body in
      let h : PacketOk q = decode-ok packet q f in
      let r : Right P s key m.server v ok a =
      act-ok P s key m.server v ok q.body (subst (λ (z : ℕ). BodyOk (shelf z) q.body) g (body_ok q h)) in
      let answer_ok : PacketOk (reply_to q a.reply) = reply-ok q a.reply h (subst (λ (z : ℕ). BodyOk (shelf z) a.reply) (sym g) r.reply) in
      let l : length (encode (reply_to q a.reply)) ≡ reply_size m q =
      reply-size q a.reply m.t g h r.reply ∙ ap (λ (n : ℕ). head_size + n) (answer-size P s key m.server v q.body) in
      record {
        holds = m;
        request = q;
        opened = e;
        read = f;
        reply = reply_to q a.reply;
        fits = answer_ok;
        faults = unfold reply_to in g;
        bytes = over-start (encode (reply_to q a.reply)) output;
        count = l;
        sent = ap length (over-start (encode (reply_to q a.reply)) output) ∙ l;
      }

  -- the memory has its length where nothing is refused
  was-sized : (sized : Bool) (o : Option Memory) (p : Option Packet) → server_refusal sized o p (length output) ≡ 0
      → server_refusal true o p (length output) ≡ 0
  was-sized true o p e = e
  was-sized false o p e = absurd (let z : ◌≡◌ {A = ℕ} 1 0 = unfold server_refusal in e in omega arith)

  -- let in, or refused with a number
  replied_by : (sized : Bool) (o : Option Memory) (p : Option Packet) (n : ℕ) → decode_memory memory ≡ o → decode packet ≡ p
      → server_refusal sized o p (length output) ≡ n
      → let d = on_refusal n (acted_on P memory key packet output o p) (turned_down_def P memory key packet output n) in d.result.number ≡ 0 → Replied d
  replied_by sized o p (suc n) e f r z = absurd (let k : suc n ≡ 0 = unfold turned_down_def in z in omega arith)
  replied_by sized none p zero e f r z = absurd (let k : ◌≡◌ {A = ℕ} 2 0 = unfold server_refusal in was-sized sized none p r in omega arith)
  replied_by sized (some m) none zero e f r z =
      absurd (let k : ◌≡◌ {A = ℕ} 7 0 = unfold server_refusal in was-sized sized (some m) none r in omega arith)
  replied_by sized (some m) (some q) zero e f r z =
      acted-size m q e f (accepted-t m q (length output) (was-sized sized (some m) (some q) r))

  -- every reply has the bytes that its request fixes
  pub reply-length : (server_take P memory key packet output).result.number ≡ 0 → Replied (server_take P memory key packet output)
  unfolding server_take
  reply-length z =
      replied_by (eqb (length memory) memory_size) (decode_memory memory) (decode packet) _ refl refl refl z
