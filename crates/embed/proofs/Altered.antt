-- Whether a packet changed a server's memory is told by two of its parts: the count of stored writes and the latest candidate's rank.
-- By the cases of `act`: a write that is kept adds one to the count, a candidate that is raised has a higher rank, and nothing else changes.
-- A memory's bytes are those of the record that it is, so that the same server has the same bytes. Assumes nothing.
use mathlib.Core.Path.{◌≡◌, refl, sym, ap, ◌∙◌}
use mathlib.Core.Bool.{true, false, cond, ◌&&◌, and-false}
use mathlib.Core.List.{List, [], ◌∷◌}
use mathlib.Core.Logic.{◌⊎◌, inl, inr, ◌≢◌}
use mathlib.Core.Option.{Option, none, some}
use Prim.Native.Nat.{ℕ, zero, suc, ◌+◌, ◌*◌, ◌<◌}
use native.Mathlib.Omega.{arith}
use lib.Dec.{eqb, leb, lit<}
use lib.ListN.{length, drop, get_or, length-append}
use borrow.Author.Tests.{eq-eqb, ne_eqb, ltb-true}
use Rattle.cluster.specs.Config.{Config, shelf}
use Rattle.cluster.specs.Ranges.{memory_size, capacity}
use Rattle.cluster.specs.Refusals.{on_refusal}
use Rattle.cluster.proofs.Tests.{untrue}
use Rattle.format.specs.Format.{Bytes, such, via, seq, byte, number4, or_blank}
use Rattle.protocol.specs.Values.{Candidate, Write, rank, below, is_some, same_list}
use Rattle.protocol.specs.Packet.{Packet, Body, stamp_f, candidate_f, any_candidate_f, decode}
use Rattle.protocol.specs.Packet.{clock, clock_reply, store, store_reply, complete, complete_reply}
use Rattle.protocol.specs.Packet.{collect, collect_reply, filter, filter_reply, repair, repair_reply}
use Rattle.protocol.specs.Memory.{Memory, memory_f, decode_memory, encode_memory, lookup, latest_place}
use Rattle.protocol.specs.Primitives.{Primitives}
use Rattle.protocol.specs.Server.{Server, Acted, memory_of, raise, on_store_def, valid, act, server_refusal}
use Rattle.protocol.proofs.ServerStep.{Stepped, answered, server_step}
use Rattle.protocol.specs.ServerBytes.{server_in, turned_down_def, acted_on, server_take}
use Rattle.protocol.specs.View.{stamp_at_def}
use Rattle.format.proofs.Answers.{at-cond, no_some}
use Rattle.protocol.proofs.Acts.{ServerOk}
use Rattle.protocol.proofs.Equal.{same_refl, same_true}
use Rattle.format.proofs.Formats.{value4-print}
use Rattle.protocol.proofs.Memories.{fields, decode-memory-ok, encode-decode-memory}
use Rattle.protocol.proofs.Ranks.{below-rank}
use Rattle.protocol.proofs.ServerLift.{Holds, serve_lift}
use Rattle.server.specs.Answers.{count_place}
use Rattle.embed.specs.Servers.{changed}

-- ---- on values

-- the server v becomes w
pub record Grown (v w : Server) : Type 0 where
  pub latest : w.latest ≡ v.latest
  pub history : length v.history < length w.history

abbrev Moves : Server → Server → Type 0
Moves v w = (w ≡ v) ⊎ (Grown v w ⊎ (below v.latest.stamp w.latest.stamp ≡ true))

raise_moves : (c : Candidate) (v : Server) → Moves v (raise c v)
unfolding raise
raise_moves c v = at-cond (below v.latest.stamp c.stamp) _ _ (Moves v) (λ e. inr (inr e)) (λ e. inl refl)

keep_moves : (v : Server) (w : Write) → Moves v (on_store_def v w).server
unfolding on_store_def
keep_moves v w =
    at-cond (is_some (lookup w.stamp v.history)) _ _ (λ (a : Acted). Moves v a.server) (λ e. inl refl)
    (λ e. at-cond (leb capacity (length v.history)) _ _ (λ (a : Acted). Moves v a.server) (λ e. inl refl)
    (λ e. inr (inl (record { latest = refl; history = omega (arith, length-append v.history (w ∷ [])) }))))

module _ (P : Primitives) (s : Config) (key : List ℕ) (b : ℕ) (v : Server) where
  act_moves : (x : Body) → Moves v (act P s key b v x).server
  unfolding act
  act_moves clock = inl refl
  act_moves (store w) = keep_moves v w
  act_moves (complete c) = raise_moves c v
  act_moves collect = inl refl
  act_moves (filter cs) = raise_moves _ v
  act_moves (repair c) = at-cond (valid P s key b v c) _ _ (Moves v) (λ e. raise_moves c v) (λ e. inl refl)
  act_moves (clock_reply x) = inl refl
  act_moves (store_reply x) = inl refl
  act_moves complete_reply = inl refl
  act_moves (collect_reply x) = inl refl
  act_moves (filter_reply x) = inl refl
  act_moves repair_reply = inl refl

  answer_moves : (room : ℕ) (o : Option Packet) → Moves v (answered P s key b v room o).server
  unfolding answered
  answer_moves room none = inl refl
  answer_moves room (some p) = act_moves p.body

  step_moves : (room : ℕ) (o : Option Packet) → Moves v (server_step P s key b v room o).server
  unfolding server_step
  step_moves room o = go (server_refusal true (some (memory_of s.t b v)) o room)
    where
      go : (n : ℕ) → Moves v (on_refusal n (answered P s key b v room o) (record { number = n; server = v; reply = none })).server
      go zero = answer_moves room o
      go (suc n) = inl refl

-- ---- the two parts of a memory

abbrev count_in : List ℕ → ℕ
count_in d = get_or d count_place 0

abbrev rank_in : List ℕ → ℕ
rank_in d = rank (stamp_at_def (drop latest_place d))

module _ (t b : ℕ) (v : Server) where
  count-there : count_in (encode_memory (memory_of t b v)) ≡ length v.history
  unfolding encode_memory memory_f such via seq byte
  count-there = refl

  rank-there : rank_in (encode_memory (memory_of t b v)) ≡ rank v.latest.stamp
  unfolding encode_memory memory_f such via seq byte any_candidate_f or_blank candidate_f stamp_f number4 stamp_at_def
  rank-there = ap (λ (n : ℕ). 256 * n + v.latest.stamp.writer) (value4-print v.latest.stamp.number)

writer-small : (s : Config) (c : Candidate) → (any_candidate_f s).Ok c → c.stamp.writer < 256
unfolding any_candidate_f or_blank candidate_f stamp_f via seq byte
writer-small s c (inl e) = omega (arith, ap (λ (x : Candidate). x.stamp.writer) e)
writer-small s c (inr h) = omega (arith, h.0.1.0.1)

-- ---- on bytes

-- the memory is the same, or one of the two parts is another
abbrev Told : List ℕ → List ℕ → Type 0
Told d e = (e ≡ d) ⊎ ((count_in e ≢ count_in d) ⊎ (rank_in e ≢ rank_in d))

told_moves : (t b : ℕ) (v w : Server) → ServerOk (shelf t) v → ServerOk (shelf t) w → Moves v w
    → Told (encode_memory (memory_of t b v)) (encode_memory (memory_of t b w))
told_moves t b v w hv hw (inl e) = inl (ap (λ (x : Server). encode_memory (memory_of t b x)) e)
told_moves t b v w hv hw (inr (inl g)) = inr (inl (λ e. omega (arith, g.history, count-there t b v, count-there t b w, e)))
told_moves t b v w hv hw (inr (inr h)) =
    let a = v.latest.stamp in
    let c = w.latest.stamp in
    let up : rank a < rank c = ltb-true (rank a) (rank c)
    (sym (below-rank a c (writer-small (shelf t) v.latest hv.latest) (writer-small (shelf t) w.latest hw.latest)) ∙ h) in
    inr (inr (λ e. omega (arith, up, sym (rank-there t b w) ∙ e ∙ rank-there t b v)))

module _ (P : Primitives) (memory key packet output : List ℕ) (bs : Bytes memory) where
  abbrev after : List ℕ
  after = (server_take P memory key packet output).memory

  -- bytes that are no memory are left as they are
  no-memory : decode_memory memory ≡ none → after ≡ memory
  unfolding server_take acted_on turned_down_def
  no-memory e = go (server_refusal (eqb (length memory) memory_size) (decode_memory memory) (decode packet) (length output)) (decode_memory memory) e
    where
      go : (n : ℕ) (q : Option Memory) → q ≡ none
          → (on_refusal n (acted_on P memory key packet output q (decode packet)) (turned_down_def P memory key packet output n)).memory ≡ memory
      go zero none e = refl
      go zero (some m) e = no_some m (sym e)
      go (suc n) q e = refl

  module _ (m : Memory) (e : decode_memory memory ≡ some m) where
    holds : Holds m.t m.server (server_in m) memory
    unfolding server_in
    holds =
        let f = fields m (decode-memory-ok memory m e) in
        record {
          t_range = f.t_range;
          b_range = f.server_range;
          ok = record { few = f.few; latest = f.latest; writes = f.writes; once = f.once };
          bytes = sym (encode-decode-memory memory m bs e);
        }

    told-memory : Told memory after
    told-memory =
        let lift = serve_lift P m.t m.server (server_in m) memory key packet output holds in
        let u : Stepped = server_step P (shelf m.t) key m.server (server_in m) (length output) (decode packet) in
        rw (lift.memory.bytes, holds.bytes)
        (told_moves m.t m.server (server_in m) u.server holds.ok lift.memory.ok
        (step_moves P (shelf m.t) key m.server (server_in m) (length output) (decode packet)))

  told : Told memory after
  told = go (decode_memory memory) refl
    where
      go : (o : Option Memory) → decode_memory memory ≡ o → Told memory after
      go none e = inl (no-memory e)
      go (some m) e = told-memory m e

-- ---- the result

differ : (d e : List ℕ) → d ≢ e → same_list d e ≡ false
differ d e n = untrue (same_list d e) (λ h. n (same_true d e h))

by_parts : (d e : List ℕ) → Told d e → cond (eqb (count_in e) (count_in d) && eqb (rank_in e) (rank_in d)) 0 1 ≡ changed d e
unfolding changed
by_parts d e (inl p) = rw (p, eq-eqb (count_in d) (count_in d) refl, eq-eqb (rank_in d) (rank_in d) refl, same_refl d) refl
by_parts d e (inr (inl n)) = rw (ne_eqb (count_in e) (count_in d) n, differ d e (λ p. n (ap count_in (sym p)))) refl
by_parts d e (inr (inr n)) =
    rw (ne_eqb (rank_in e) (rank_in d) n, differ d e (λ p. n (ap rank_in (sym p))), and-false (eqb (count_in e) (count_in d))) refl

pub changed-told : (P : Primitives) (memory key packet output m : List ℕ) → Bytes memory → m ≡ (server_take P memory key packet output).memory
    → cond (eqb (count_in m) (count_in memory) && eqb (rank_in m) (rank_in memory)) 0 1 ≡ changed memory m
changed-told P memory key packet output m bs e = rw e (by_parts memory _ (told P memory key packet output bs))

pub changed-small : (d e : List ℕ) → changed d e < 256
unfolding changed
changed-small d e = at-cond (same_list d e) 0 1 (λ (n : ℕ). n < 256) (λ h. lit< tt) (λ h. lit< tt)
