-- The answers that leave the memory as it is, and the step that every answer ends with: a packet made of a head and a body's bytes
-- is the reply of the server's step. By the laws of packets and of memories. Assumes nothing.
use mathlib.Core.Path.{◌≡◌, sym, ap, ◌∙◌, subst}
use mathlib.Core.List.{List, [], ◌++◌, append-nil}
use mathlib.Core.Option.{Option, some}
use Prim.Native.Nat.{ℕ, ◌≤◌}
use lib.ListN.{length, drop}
use Rattle.cluster.specs.Config.{shelf}
use Rattle.cluster.specs.Ranges.{packet_room}
use Rattle.cluster.specs.declared.Outcome.{Outcome}
use Rattle.protocol.specs.declared.Head.{Head}
use Rattle.format.specs.Format.{Bytes, or_blank}
use Rattle.protocol.specs.Values.{stamp_size, candidate_size_def}
use Rattle.protocol.specs.declared.kinds.Kind.TheVariants as kind
use Rattle.protocol.specs.Packet.{Body, Packet, BodyOk, PacketOk, clock, collect, kind_of, print_body, any_stamp_f, head_size, decode, encode}
use Rattle.protocol.specs.Memory.{encode_memory, latest_place}
use Rattle.protocol.specs.Primitives.{real}
use Rattle.protocol.specs.Server.{memory_of, Acted, act, reply_to}
use Rattle.protocol.specs.View.{candidate_at}
use Rattle.format.specs.Reading.{bytes_at, over}
use Rattle.protocol.specs.ClientBytes.{Filled}
use Rattle.protocol.specs.ServerBytes.{Served, server_in, acted_on}
use Rattle.protocol.proofs.Acts.{act-ok}
use Rattle.protocol.proofs.Bodies.{decode-ok, body_ok}
use Rattle.protocol.proofs.ServerLift.{reply-ok}
use Rattle.wire.specs.Places.{body_at, packet_at}
use Rattle.wire.specs.Make.{packet_step}
use Rattle.wire.proofs.Laws.{made-accepted, body_bytes}
use Rattle.std.specs.declared.option.Option as rust
use Rattle.server.specs.declared.memory.Top.{Top}
use Rattle.server.specs.declared.memory.Opened.{Opened}
use Rattle.server.specs.Reads.{OpenedAs}
use Rattle.server.specs.Answers.{memory_in, ToServer, reply_head_def, AnswersAll}
use Rattle.server.proofs.Standing.{memory-bytes, server-ok, latest-part, latest-stamp}

-- the body of a packet of kind k
pub body_of : (h : Head) (packet : List ℕ) (k : ℕ) → h.kind ≡ k → (packet_at h packet).body ≡ body_at (shelf h.t) k (drop head_size packet)
unfolding packet_at
body_of h packet k e = ap (λ (j : ℕ). body_at (shelf h.t) j (drop head_size packet)) e

-- the body of a packet that was let through has fields in their ranges, and is the bytes after the head
module _ (h : Head) (packet : List ℕ) (dec : decode packet ≡ some (packet_at h packet)) {x : Body} (body : (packet_at h packet).body ≡ x) where
  pub sent-ok : BodyOk (shelf h.t) x
  unfolding packet_at
  sent-ok = subst (BodyOk (shelf h.t)) body (body_ok (packet_at h packet) (decode-ok packet (packet_at h packet) dec))

  pub sent-bytes : Bytes packet → drop head_size packet ≡ print_body (shelf h.t) x
  unfolding packet_at
  sent-bytes ps = body_bytes packet (packet_at h packet) dec ps ∙ ap (print_body (shelf h.t)) body

-- what is told of the server that the head h names
abbrev pub told_to : Head → ℕ → ℕ → rust.Option Top → Opened
told_to h n e top = record { t = h.t; server = h.server; count = n; end = e; top = top }

-- what holds of it holds of what was told, where the packet is to this server
pub to-server : (h : Head) {told : Opened} → ToServer h told → (P : Opened → Type 0) → ((n e : ℕ) (top : rust.Option Top) → P (told_to h n e top)) → P told
to-server h {told} own P f =
    let q : ◌≡◌ {A = Opened} (told_to h told.count told.end told.top) told =
    λ i. record { t = own.0 i; server = own.1 i; count = told.count; end = told.end; top = told.top } in
    subst P q (f told.count told.end told.top)

module _ {d : List ℕ} (key packet output : List ℕ) (h : Head) {n e : ℕ} {top : rust.Option Top} (o : OpenedAs d (told_to h n e top)) where
  -- the server's step
  abbrev pub step_of : Body → Acted
  step_of x = act real (shelf h.t) key h.server (server_in (memory_in o)) x

  served : Packet → Body → Served
  served p x =
      let bytes = encode (reply_to p (step_of x).reply) in
      record {
        result = record { number = 0; count = length bytes };
        memory = encode_memory (memory_of h.t h.server (step_of x).server);
        output = over bytes output;
      }

  module _ (dec : decode packet ≡ some (packet_at h packet)) (room : packet_room ≤ length output) (x : Body) (body : (packet_at h packet).body ≡ x) where
    reply-packet-ok : PacketOk (reply_to (packet_at h packet) (step_of x).reply)
    unfolding packet_at
    reply-packet-ok =
        let p : Packet = packet_at h packet in
        reply-ok p (step_of x).reply (decode-ok packet p dec) (act-ok real (shelf h.t) key h.server (server_in (memory_in o)) (server-ok o) x
        (sent-ok h packet dec body)).reply

    made : (first second : List ℕ) → print_body (shelf h.t) (step_of x).reply ≡ first ++ second
        → packet_step (reply_head_def h (kind_of (step_of x).reply)) first second output
        ≡ record { result = (served (packet_at h packet) x).result; output = (served (packet_at h packet) x).output }
    unfolding packet_at reply_to served
    made first second p = made-accepted (reply_to (packet_at h packet) (step_of x).reply) first second output p reply-packet-ok room

    to-accepted : served (packet_at h packet) x ≡ acted_on real d key packet output (some (memory_in o)) (decode packet)
    unfolding acted_on served packet_at
    to-accepted = ap (served (packet_at h packet)) (sym body) ∙ ap (λ (q : Option Packet). acted_on real d key packet output (some (memory_in o)) q)
        (sym dec)

    pub replied : (first second : List ℕ) {r : Outcome} {m out : List ℕ} → m ≡ encode_memory (memory_of h.t h.server (step_of x).server)
        → print_body (shelf h.t) (step_of x).reply ≡ first ++ second
        → record { result = r; output = out } ≡ packet_step (reply_head_def h (kind_of (step_of x).reply)) first second output
        → record { result = r; memory = m; output = out } ≡ acted_on real d key packet output (some (memory_in o)) (decode packet)
    unfolding served
    replied first second {r} {m} {out} e p w =
        let q : ◌≡◌ {A = Filled} (record { result = r; output = out }) (record {
          result = (served (packet_at h packet) x).result;
          output = (served
              (packet_at h packet) x).output;
        }) =
        w ∙ made first second p in
        (λ i. record { result = (q i).result; memory = e i; output = (q i).output }) ∙ to-accepted

    -- the same where the step is known
    pub replied_as : (a : Acted) → step_of x ≡ a → (first second : List ℕ) {r : Outcome} {m out : List ℕ} → m ≡ encode_memory
        (memory_of h.t h.server a.server)
        → print_body (shelf h.t) a.reply ≡ first ++ second
        → record { result = r; output = out } ≡ packet_step (reply_head_def h (kind_of a.reply)) first second output
        → record { result = r; memory = m; output = out } ≡ acted_on real d key packet output (some (memory_in o)) (decode packet)
    replied_as a q first second e p w =
        replied first second (e ∙ ap (λ (y : Acted). encode_memory (memory_of h.t h.server y.server)) (sym q))
        (ap (λ (y : Acted). print_body (shelf h.t) y.reply) q ∙ p)
        (w ∙ ap (λ (y : Acted). packet_step (reply_head_def h (kind_of y.reply)) first second output) (sym q))

-- the memory as it is
pub unchanged : {d : List ℕ} {told : Opened} (o : OpenedAs d told) → Bytes d → d ≡ encode_memory
    (memory_of told.t told.server (server_in (memory_in o)))
unfolding server_in
unchanged o bs = sym (memory-bytes o bs)

-- a run with nothing after it
pub alone : (first : List ℕ) → first ≡ first ++ []
alone first = sym (append-nil first)

-- the head made is the reply's
pub headed : (h : Head) (k : ℕ) (output first second : List ℕ) {g : Head} {w : Filled} → g ≡ reply_head_def h k → w ≡ packet_step g first second output
    → w ≡ packet_step (reply_head_def h k) first second output
headed h k output first second q w = w ∙ ap (λ (y : Head). packet_step y first second output) q

-- ---- clock and collect

module _ (d : List ℕ) (output : List ℕ) (h : Head) {body : List ℕ} {r : Outcome} {out : List ℕ} where
  pub clock-answers : body ≡ bytes_at d latest_place stamp_size → record { result = r; output = out } ≡ packet_step (reply_head_def h 2) body [] output
      → AnswersAll kind.Clock d output h (record { result = r; memory = d; output = out })
  unfolding body_at act server_in any_stamp_f or_blank candidate_at
  clock-answers f w packet key told o own dec k room =
      let answer : Served = record { result = r; memory = d; output = out } in
      to-server h own (λ z. (o : OpenedAs d z) → answer ≡ acted_on real d key packet output (some (memory_in o)) (decode packet))
      (λ n e top o. replied key packet output h o dec room clock (body_of h packet 1 k) body [] (unchanged o o.bytes)
      (sym (f ∙ latest-stamp o o.bytes) ∙ alone body) w) o

  pub collect-answers : {z : ℕ} → z ≡ candidate_size_def (shelf h.t) → body ≡ bytes_at d latest_place z
      → record { result = r; output = out } ≡ packet_step (reply_head_def h 8) body [] output
      → AnswersAll kind.Collect d output h (record { result = r; memory = d; output = out })
  unfolding body_at act server_in
  collect-answers z f w packet key told o own dec k room =
      let answer : Served = record { result = r; memory = d; output = out } in
      to-server h own (λ z. (o : OpenedAs d z) → answer ≡ acted_on real d key packet output (some (memory_in o)) (decode packet))
      (λ n e top o. replied key packet output h o dec room collect (body_of h packet 7 k) body [] (unchanged o o.bytes)
      (sym (f ∙ ap (bytes_at d latest_place) z ∙ latest-part o o.bytes) ∙ alone body) w) o
