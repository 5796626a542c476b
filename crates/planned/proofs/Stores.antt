-- What stands in a server's memory after any packets that a blank one took, on bytes: just the stores that were answered with 0, in their order.
-- An act adds its write to the history then, and in no other case; so the bytes that the fields take are known. Assumes nothing.
use mathlib.Core.Path.{◌≡◌, refl, sym, ap, ◌∙◌, subst}
use mathlib.Core.Bool.{true, cond}
use mathlib.Core.List.{List, [], ◌∷◌, ◌++◌, append-nil}
use mathlib.Core.Option.{Option, none, some}
use Prim.Native.Nat.{ℕ, zero, suc, ◌+◌, ◌-◌, ◌*◌, ◌≤◌}
use native.Mathlib.Omega.{arith}
use lib.Dec.{leb}
use lib.ListN.{length, take, replicate, length-append}
use Rattle.cluster.specs.Config.{Config, shelf}
use Rattle.cluster.specs.Ranges.{top_faults, memory_size, capacity}
use Rattle.cluster.specs.Refusals.{on_refusal}
use Rattle.format.specs.Format.{All}
use Rattle.protocol.specs.Values.{Candidate, Write, stamp_size, blank_candidate, below, is_some}
use Rattle.protocol.specs.Packet.{Body, Packet, share_size_def, decode}
use Rattle.protocol.specs.Packet.{clock, clock_reply, store, store_reply, complete, complete_reply, collect, collect_reply, filter, filter_reply, repair, repair_reply}
use Rattle.protocol.specs.Memory.{Memory, memory_f, lookup, encode_memory, writes_place_def}
use Rattle.protocol.specs.Primitives.{Primitives}
use Rattle.protocol.specs.Server.{Server, blank_server, Acted, memory_of, on_store_def, raise, valid, best, act, reply_to, server_refusal}
use Rattle.protocol.proofs.ServerStep.{Stepped, answered, server_step}
use Rattle.protocol.specs.ServerBytes.{Served, server_take}
use Rattle.format.proofs.Answers.{at-cond}
use Rattle.protocol.proofs.Bodies.{decode-encode, decode-nothing}
use Rattle.protocol.proofs.ServerLift.{Holds, Lifted, memory-ok, holds_decodes, blank-holds, serve_lift}
use Rattle.protocol.proofs.Memories.{writes_size, fields_size, fields-length, same_size}
use Rattle.format.proofs.Walks.{all_snoc}
use Rattle.planner.specs.Plan.{PlanOutcome}
use Rattle.planner.proofs.Entries.{plan-made, plan-number}
use Rattle.planned.specs.Stored.{added_by, reply_of, kept_by, Given, FilledTo, memory_after_def, served, stored_after, StoreKept, AllKept, MemoryPlanned}

-- ---- what one act adds

module _ (P : Primitives) (s : Config) (key : List ℕ) (b : ℕ) (v : Server) where
  same : v.history ≡ v.history ++ []
  same = sym (append-nil v.history)

  raised : (c : Candidate) → (raise c v).history ≡ v.history ++ []
  unfolding raise
  raised c = at-cond (below v.latest.stamp c.stamp) _ v (λ (y : Server). y.history ≡ v.history ++ []) (λ e. same) (λ e. same)

  abbrev Adds : Body → Acted → Type 0
  Adds x a = a.server.history ≡ v.history ++ added_by x a.reply

  act-history : (x : Body) → Adds x (act P s key b v x)
  unfolding act on_store_def
  act-history clock = same
  act-history (store w) =
      let kept : Acted = record { server = record { latest = v.latest; history = v.history ++ (w ∷ []) }; reply = store_reply 0 } in
      let full : Acted = record { server = v; reply = store_reply 11 } in
      let held : Acted = record { server = v; reply = store_reply 10 } in
      at-cond (is_some (lookup w.stamp v.history)) held (cond (leb capacity (length v.history)) full kept) (Adds (store w)) (λ e. same)
      (λ e. at-cond (leb capacity (length v.history)) full kept (Adds (store w)) (λ f. same) (λ f. refl))
  act-history (complete c) = raised c
  act-history collect = same
  act-history (filter cs) = raised (best P s key b v (blank_candidate s) cs)
  act-history (repair c) = at-cond (valid P s key b v c) (raise c v) v (λ (y : Server). y.history ≡ v.history ++ []) (λ e. raised c) (λ e. same)
  act-history (clock_reply x) = same
  act-history (store_reply x) = same
  act-history complete_reply = same
  act-history (collect_reply x) = same
  act-history (filter_reply x) = same
  act-history repair_reply = same

-- ---- what one packet adds, on bytes

none_kept : (o : Option Packet) → kept_by o none ≡ []
none_kept none = refl
none_kept (some q) = refl

module _ (P : Primitives) (t b : ℕ) (v : Server) (memory key packet output : List ℕ) (h : Holds t b v memory) where
  abbrev d : Served
  d = server_take P memory key packet output

  -- no reply: nothing was added
  silent-history : (u : Stepped) → u.server ≡ v → Lifted t b u d → u.reply ≡ none
      → u.server.history ≡ v.history ++ kept_by (decode packet) (decode (reply_of d))
  silent-history u e l z =
      let r : decode (reply_of d) ≡ none = ap (λ (n : ℕ). decode (take n d.output)) (l.silent z) ∙ decode-nothing in
      ap (λ (y : Server). y.history) e ∙ sym (append-nil v.history)
      ∙ ap (λ (y : List Write). v.history ++ y) (sym (ap (kept_by (decode packet)) r ∙ none_kept (decode packet)))

  stepped-history : (o : Option Packet) (n : ℕ) → decode packet ≡ o
      → let u = on_refusal n (answered P (shelf t) key b v (length output) o) (record { number = n; server = v; reply = none }) in Lifted t b u d
      → u.server.history ≡ v.history ++ kept_by (decode packet) (decode (reply_of d))
  unfolding answered reply_to
  stepped-history o (suc n) e l = silent-history _ refl l refl
  stepped-history none zero e l = silent-history _ refl l refl
  stepped-history (some p) zero e l =
      let a : Acted = act P (shelf t) key b v p.body in
      let r : decode (reply_of d) ≡ some (reply_to p a.reply) = ap decode (l.sent _ refl) ∙ decode-encode _ (l.ok _ refl) in
      act-history P (shelf t) key b v p.body ∙ ap (λ (y : List Write). v.history ++ y) (sym (λ i. kept_by (e i) (r i)))

  taken-history : (server_step P (shelf t) key b v (length output) (decode packet)).server.history ≡ v.history ++ kept_by (decode packet)
      (decode (reply_of d))
  unfolding server_step
  taken-history =
      stepped-history (decode packet) (server_refusal true (some (memory_of (shelf t).t b v)) (decode packet) (length output)) refl
      (unfold server_step in serve_lift P t b v memory key packet output h)

-- ---- any packets

module _ (P : Primitives) (t b : ℕ) where
  -- the memory holds just these
  pub record HoldsJust (xs : List Given) : Type 0 where
    pub server : Server
    pub holds : Holds t b server (memory_after_def P t b xs)
    pub history : server.history ≡ stored_after P t b xs

  module _ (tr : (1 ≤ t) × (t ≤ top_faults)) (br : (1 ≤ b) × (b ≤ (shelf t).servers)) where
    stands : (xs : List Given) → HoldsJust xs
    unfolding memory_after_def stored_after
    stands [] = record { server = blank_server (shelf t); holds = blank-holds t b tr br; history = refl }
    stands (x ∷ xs) =
        let w : HoldsJust xs = unfold memory_after_def stored_after in stands xs in
        let v : Server = w.server in
        let h : Holds t b v (memory_after_def P t b xs) = w.holds in
        record {
          server = (server_step P (shelf t) x.key b v (length x.output) (decode x.packet)).server;
          holds = (serve_lift P t b v (memory_after_def P t b xs) x.key x.packet x.output h).memory;
          history =
              taken-history P t b v (memory_after_def P t b xs) x.key x.packet x.output h
              ∙ ap (λ (y : List Write). y ++ kept_by (decode x.packet) (decode (reply_of (served P t b x xs)))) w.history;
        }

    pub memory-filled : (xs : List Given) → FilledTo (memory_after_def P t b xs) (stored_after P t b xs) (fields_size (shelf t) (stored_after P t b xs))
    unfolding encode_memory
    memory-filled xs =
        let w : HoldsJust xs = stands xs in
        let m : Memory = memory_of t b w.server in
        let l : length (memory_f.print m) ≡ fields_size (shelf t) (stored_after P t b xs) =
        fields-length m (memory-ok w.holds) ∙ ap (fields_size (shelf t)) w.history in
        record {
          fields = m;
          opened = holds_decodes w.holds;
          writes = w.history;
          few = subst (λ (y : List Write). length y ≤ capacity) w.history w.holds.ok.few;
          size = l;
          bytes = w.holds.bytes ∙ ap (λ (n : ℕ). memory_f.print m ++ replicate (memory_size - n) 0) l;
        }

  -- ---- stores of one length

  kept_one : (n : ℕ) (packet : List ℕ) (d : Served) (k : StoreKept n packet d) → kept_by (decode packet) (decode (reply_of d)) ≡ k.write ∷ []
  kept_one n packet d k = rw (k.read, k.replied, k.asks, k.says)

  pub kept_all : (n : ℕ) (xs : List Given) → AllKept P t b n xs → (length (stored_after P t b xs) ≡ length xs) × All (λ w. w.share.size ≡ n) (stored_after P t b xs)
  unfolding stored_after AllKept
  kept_all n [] h = (refl, tt)
  kept_all n (x ∷ xs) h =
      let (l, a) = kept_all n xs h.1 in
      rw (kept_one n x.packet (served P t b x xs) h.0)
      (omega (arith, length-append (stored_after P t b xs) (h.0.write ∷ [])), all_snoc _ (stored_after P t b xs) h.0.write a h.0.size)

  module _ (tr : (1 ≤ t) × (t ≤ top_faults)) (br : (1 ≤ b) × (b ≤ (shelf t).servers)) where
    -- after m of them m writes of this length stand in the memory, and its fields take so many bytes
    pub stores-filled : (n : ℕ) (xs : List Given) → AllKept P t b n xs
        → FilledTo (memory_after_def P t b xs) (stored_after P t b xs) (writes_place_def (shelf t) + length xs * (stamp_size + share_size_def (shelf t) n))
    stores-filled n xs h =
        let s : Config = shelf t in
        let (l, a) = kept_all n xs h in
        let e : writes_size s (stored_after P t b xs) ≡ length xs * (stamp_size + share_size_def s n) =
        same_size s n (stored_after P t b xs) a ∙ ap (λ (k : ℕ). k * (stamp_size + share_size_def s n)) l in
        subst (λ (k : ℕ). FilledTo (memory_after_def P t b xs) (stored_after P t b xs) (writes_place_def s + k)) e (memory-filled tr br xs)

-- ---- the plan's

pub memory-planned : MemoryPlanned
unfolding MemoryPlanned
memory-planned P t b lo hi l h n xs k readers e =
    subst (FilledTo (memory_after_def P t b xs) (stored_after P t b xs))
    (sym (ap (λ (p : PlanOutcome). p.memory) (plan-made t n readers (length xs) (sym (plan-number t n readers (length xs)) ∙ e))))
    (stores-filled P t b (lo, hi) (l, h) n xs k)
