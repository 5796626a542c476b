-- Lending the first bytes of a buffer in place of all of it: where as many are lent as a packet needs, or all there are, an operation answers the
-- same and leaves the same bytes, and its count is at most what was lent. The bytes past them are never written. Assumes nothing.
use mathlib.Core.Path.{◌≡◌, refl, sym, ap, ◌∙◌}
use mathlib.Core.Bool.{Bool, true, false, cond, not, ◌&&◌}
use mir.Val.{bool_byte}
use mathlib.Core.List.{List, ◌++◌, append_assoc}
use mathlib.Core.Option.{Option, none, some}
use Prim.Native.Nat.{ℕ, zero, suc, ◌≤◌}
use native.Mathlib.Omega.{arith}
use mathlib.Core.Logic.{◌≢◌}
use borrow.Author.Tests.{eq-eqb}
use Rattle.std.proofs.Common.{min}
use Rattle.std.proofs.lemmas.Bool.Decides.{nat_tests}
use Rattle.protocol.proofs.Equal.{same_refl}
use lib.Dec.{ltb, eqb}
use lib.ListN.{length, take, drop, get_or, length-append, length-drop, take-append-drop}
use lib.Seq.{length-take-le, drop-append-le}
use Rattle.cluster.specs.Config.{shelf}
use Rattle.cluster.specs.Ranges.{packet_room, memory_size, key_size}
use Rattle.cluster.specs.Refusals.{on_refusal}
use Rattle.cluster.specs.declared.Outcome.{Outcome}
use Rattle.protocol.specs.declared.Call.{Call}
use Rattle.format.specs.Format.{Bytes}
use Rattle.protocol.specs.Values.{rank}
use Rattle.protocol.specs.Packet.{Packet, decode, encode}
use Rattle.protocol.specs.Memory.{Memory, decode_memory, latest_place}
use Rattle.protocol.specs.Primitives.{Primitives, real}
use Rattle.protocol.specs.Server.{act, reply_to, server_refusal}
use Rattle.protocol.specs.ServerBytes.{Served, server_in, turned_down_def, acted_on, server_take}
use Rattle.format.specs.Reading.{over}
use Rattle.protocol.specs.Client.{made, make_refusal_def}
use Rattle.protocol.specs.ClientBytes.{Filled, awaited, client_make}
use Rattle.client.specs.Rounds.{make_by_rounds}
use Rattle.client.proofs.StepsSame.{same_make}
use Rattle.protocol.specs.View.{stamp_at_def, view}
use Rattle.server.specs.Answers.{count_place}
use Rattle.embed.specs.Packing.{packed}
use Rattle.embed.specs.Clients.{made_out}
use Rattle.embed.specs.Servers.{Exchange, changed, served_out, key_sized, take_by}
use Rattle.embed.proofs.Altered.{changed-told}

module _ (out : List ℕ) (n : ℕ) (in-out : n ≤ length out) where
  -- bytes over the part, which keeps its length, and the rest after them
  over-part : (b : List ℕ) → length (over b (take n out)) ≡ n → (over b (take n out) ++ drop n out ≡ over b out) × (length b ≤ n)
  unfolding over
  over-part b e =
      let l : length (take n out) ≡ n = length-take-le n out in-out in
      let k : length b ≤ n = omega (arith, e, l, length-append b (drop (length b) (take n out)), length-drop (length b) (take n out)) in (
        append_assoc b (drop (length b) (take n out)) (drop n out)
            ∙ ap (λ (z : List ℕ). b ++ z) (sym (drop-append-le (length b) (take n out) (drop n out) (omega (arith, k, l))) ∙ ap (drop (length b))
            (take-append-drop n out)),
        k,
      )

  whole : take n out ++ drop n out ≡ out
  whole = take-append-drop n out

  module _ (same : ltb (length out) packet_room ≡ ltb (length (take n out)) packet_room) where
    -- ---- a server takes a packet

    pub record Serves (part all : Served) : Type 0 where
      pub result : all.result ≡ part.result
      pub memory : all.memory ≡ part.memory
      pub output : all.output ≡ part.output ++ drop n out
      pub count : part.result.count ≤ n

    module _ (P : Primitives) (memory key packet : List ℕ) where
      down : (k : ℕ) → Serves (turned_down_def P memory key packet (take n out) k) (turned_down_def P memory key packet out k)
      unfolding turned_down_def
      down k = record { result = refl; memory = refl; output = sym whole; count = omega arith }

      done : (m : Option Memory) (o : Option Packet) → length (acted_on P memory key packet (take n out) m o).output ≡ n
          → Serves (acted_on P memory key packet (take n out) m o) (acted_on P memory key packet out m o)
      unfolding acted_on
      done none o e = down 0
      done (some m) none e = down 0
      done (some m) (some p) e =
          let x = over-part (encode (reply_to p (act P (shelf m.t) key m.server (server_in m) p.body).reply)) e in
          record { result = refl; memory = refl; output = sym x.0; count = x.1 }

      refusal-same : (sized : Bool) (m : Option Memory) (o : Option Packet)
          → server_refusal sized m o (length out) ≡ server_refusal sized m o (length (take n out))
      unfolding server_refusal
      refusal-same sized m o = rw same refl

      pub serves : length (server_take P memory key packet (take n out)).output ≡ n → Serves (server_take P memory key packet (take n out))
          (server_take P memory key packet out)
      unfolding server_take
      serves e =
          let m : Option Memory = decode_memory memory in
          let sized : Bool = eqb (length memory) memory_size in
          rw (refusal-same sized m (decode packet)) (go (server_refusal sized m (decode packet) (length (take n out))) e)
        where
          go : (k : ℕ) → length (on_refusal k (acted_on P memory key packet (take n out) (decode_memory memory) (decode packet))
              (turned_down_def P memory key packet (take n out) k)).output ≡ n
              → Serves (on_refusal k (acted_on P memory key packet (take n out) (decode_memory memory) (decode packet))
              (turned_down_def P memory key packet (take n out) k))
              (on_refusal k (acted_on P memory key packet out (decode_memory memory) (decode packet)) (turned_down_def P memory key packet out k))
          go zero f = done (decode_memory memory) (decode packet) f
          go (suc k) f = down (suc k)

-- ---- what the exports make of it, where what was lent is at most a packet's room

-- the shorter of the two
pub lent-same : (room n : ℕ) → n ≡ min room packet_room → ltb room packet_room ≡ ltb n packet_room
lent-same room n e = grind (arith, nat_tests, e)

-- the two parts that tell a change, as the code read them before and after
abbrev by_parts_def : List ℕ → ℕ → ℕ → ℕ
by_parts_def m count latest = cond (eqb (get_or m count_place 0) count && eqb (rank (stamp_at_def (drop latest_place m))) latest) 0 1

from_bool : (b : Bool) {f : ℕ} → f ≡ bool_byte (not b) → f ≡ cond b 0 1
from_bool true e = e
from_bool false e = e

pub told_by : (memory m : List ℕ) {count latest f : ℕ} {b : Bool} → count ≡ get_or memory count_place 0
    → latest ≡ rank (stamp_at_def (drop latest_place memory))
    → b ≡ not (eqb (get_or m count_place 0) count && eqb (rank (stamp_at_def (drop latest_place m))) latest) → f ≡ bool_byte b
    → f ≡ by_parts_def m (get_or memory count_place 0) (rank (stamp_at_def (drop latest_place memory)))
told_by memory m {count} {latest} p q e g = from_bool _ (g ∙ ap bool_byte e) ∙ (λ i. by_parts_def m (p i) (q i))

module _ (memory key packet out : List ℕ) (n : ℕ) (in-out : n ≤ length out) (small : n ≤ packet_room)
    (same : ltb (length out) packet_room ≡ ltb n packet_room)
    (o : Outcome) (m x : List ℕ) (e : record { result = o; memory = m; output = x } ≡ server_take real memory key packet (take n out))
    (keeps : length x ≡ length (take n out)) where
  through : Serves out n in-out (same ∙ ap (λ (k : ℕ). ltb k packet_room) (sym (length-take-le n out in-out)))
      (record { result = o; memory = m; output = x }) (server_take real memory key packet out)
  through = rw e (serves out n in-out (same ∙ ap (λ (k : ℕ). ltb k packet_room) (sym (length-take-le n out in-out))) real memory key packet
      (sym (ap (λ (s : Served). length s.output) e) ∙ keeps ∙ length-take-le n out in-out))

  pub served-count : o.count ≤ packet_room
  served-count = omega (arith, through.count, small)

  -- f: whether the memory was changed
  pub served-out : Bytes memory → (f r : ℕ)
      → f ≡ by_parts_def m (get_or memory count_place 0) (rank (stamp_at_def (drop latest_place memory)))
      → r ≡ packed o.number f 0 o.count
      → record { answer = r; memory = m; output = x ++ drop n out } ≡ served_out memory (server_take real memory key packet out)
  served-out bs f r q p =
      let told : f ≡ changed memory m = q ∙ changed-told real memory key packet (take n out) m bs (ap (λ (s : Served). s.memory) e) in
      rw (p, told, through.result, through.memory, through.output) refl

  -- a refused packet changes nothing
  same-memory : (k : ℕ) (q : Option Memory) (p : Option Packet)
      → ((on_refusal k (acted_on real memory key packet (take n out) q p) (turned_down_def real memory key packet (take n out) k)).result.number ≢ 0)
      → (on_refusal k (acted_on real memory key packet (take n out) q p) (turned_down_def real memory key packet (take n out) k)).memory ≡ memory
  unfolding acted_on turned_down_def
  same-memory zero none p h = refl
  same-memory zero (some q) none h = refl
  same-memory zero (some q) (some p) h = absurd (h refl)
  same-memory (suc k) q p h = refl

  kept : o.number ≢ 0 → m ≡ memory
  unfolding server_take
  kept h = ap (λ (s : Served). s.memory) e ∙ same-memory _ _ _ (λ z. h (ap (λ (s : Served). s.result.number) e ∙ z))

  pub served-refused : o.number ≢ 0 → o.count ≡ 0
      → record { answer = packed o.number 0 0 0; memory = m; output = x ++ drop n out } ≡ served_out memory (server_take real memory key packet out)
  unfolding changed
  served-refused h z =
      let same : changed memory m ≡ 0 = rw (kept h, same_refl memory) refl in
      rw (through.result, through.memory, through.output, z, same) refl

pub take-sized : (memory key packet out array : List ℕ) (x : Exchange) → length key ≡ key_size → array ≡ key → x ≡ served_out memory
    (server_take real memory array packet out) → x ≡ take_by memory key packet out
unfolding take_by key_sized
take-sized memory key packet out array x h same e = rw (eq-eqb (length key) key_size h)
    (e ∙ ap (λ (k : List ℕ). served_out memory (server_take real memory k packet out)) same)

-- ---- a client makes a packet

module _ (out : List ℕ) (n : ℕ) (in-out : n ≤ length out) (small : n ≤ packet_room) (same : ltb (length out) packet_room ≡ ltb n packet_room)
    (t client b : ℕ) (c : Call) (kept : List ℕ) (o : Outcome) (x : List ℕ)
    (e : record { result = o; output = x } ≡ client_make t client b c kept (take n out)) (keeps : length x ≡ length (take n out)) where
  pub record Makes (part all : Filled) : Type 0 where
    pub result : all.result ≡ part.result
    pub output : all.output ≡ part.output ++ drop n out
    pub count : part.result.count ≤ n

  abbrev bytes : List ℕ
  bytes = encode (made t client (view (shelf t) c kept) b)

  by-refusal : (k : ℕ)
      → length (on_refusal {A = Filled} k (record { result = record { number = k; count = length bytes }; output = over bytes (take n out) })
      (record { result = record { number = k; count = 0 }; output = take n out })).output ≡ n
      → Makes (on_refusal k (record { result = record { number = k; count = length bytes }; output = over bytes (take n out) })
      (record { result = record { number = k; count = 0 }; output = take n out }))
      (on_refusal k (record { result = record { number = k; count = length bytes }; output = over bytes out })
      (record { result = record { number = k; count = 0 }; output = out }))
  by-refusal zero f = let z = over-part out n in-out bytes f in record { result = refl; output = sym z.0; count = z.1 }
  by-refusal (suc k) f = record { result = refl; output = sym (take-append-drop n out); count = omega arith }

  refusal_is : make_refusal_def (shelf t) client b (awaited c) (length out) ≡ make_refusal_def (shelf t) client b (awaited c) (length (take n out))
  unfolding make_refusal_def
  refusal_is = rw (same, length-take-le n out in-out) refl

  made-part : Makes (record { result = o; output = x }) (client_make t client b c kept out)
  unfolding make_by_rounds
  made-part = rw (e ∙ same_make t client c b kept (take n out), same_make t client c b kept out, refusal_is)
      (by-refusal (make_refusal_def (shelf t) client b (awaited c) (length (take n out)))
      (sym (ap (λ (w : Filled). length w.output) (e ∙ same_make t client c b kept (take n out))) ∙ keeps ∙ length-take-le n out in-out))

  pub made-count : o.count ≤ packet_room
  made-count = omega (arith, made-part.count, small)

  pub made-out : (r : ℕ) → r ≡ packed o.number 0 0 o.count → record { answer = r; output = x ++ drop n out } ≡ made_out
      (client_make t client b c kept out)
  made-out r p = rw (p, made-part.result, made-part.output) refl
