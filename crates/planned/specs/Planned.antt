-- "Each must equal that of the packets and memory really made" (document 02, W-201): the packets. Stored has the memory, Counted the numbers.
-- A plan is what the contract of `planner::plan` cites; a refused one says nothing, so that the claims are of those that are made.
use Rattle.std.specs.Prelude.{◌≡◌, true, cond, List, [], ◌∷◌, ℕ, length, get_or}
use Rattle.std.proofs.Math.Option.{Option, none, some}
use Rattle.format.specs.Format.{Bytes}
use Rattle.protocol.specs.Values.{Share, Held, is_some}
use Rattle.protocol.specs.Packet.{Body, Packet, kind_of, decode}
use Rattle.protocol.specs.Packet.{clock, clock_reply, store, store_reply, complete, complete_reply, collect, collect_reply, filter, filter_reply, repair, repair_reply}
use Rattle.protocol.specs.Memory.{Memory, decode_memory}
use Rattle.protocol.specs.Primitives.{Primitives}
use Rattle.protocol.specs.Client.{accepted, more}
use Rattle.protocol.specs.ServerBytes.{server_take}
use Rattle.runs.specs.Runs.{Account, length_after}
use Rattle.atomicity.specs.Steps.{System, StepIn, makes}
use Rattle.planner.specs.Plan.{PlanOutcome}
use Rattle.planner.specs.Plan.{plan_step}
use Rattle.planned.specs.Stored.{reply_of}

-- ---- a packet's length, as a plan has it

-- the byte of a reply to filter
abbrev pub form_of : Held → ℕ
form_of x = cond (is_some x.share) 1 0

abbrev pub at_kind : PlanOutcome → Body → ℕ
at_kind p x = get_or p.kinds (kind_of x) 0

abbrev pub length_in : PlanOutcome → Body → ℕ
length_in p (filter cs) = get_or p.filters (length cs) 0
length_in p (filter_reply x) = get_or p.held (form_of x) 0
length_in p clock = at_kind p clock
length_in p (clock_reply x) = at_kind p (clock_reply x)
length_in p (store x) = at_kind p (store x)
length_in p (store_reply x) = at_kind p (store_reply x)
length_in p (complete x) = at_kind p (complete x)
length_in p complete_reply = at_kind p complete_reply
length_in p collect = at_kind p collect
length_in p (collect_reply x) = at_kind p (collect_reply x)
length_in p (repair x) = at_kind p (repair x)
length_in p repair_reply = at_kind p repair_reply

-- the bytes have the length that a plan for this t, and for contents of n bytes, has for this body
abbrev pub AsPlanned : (t n : ℕ) → Body → List ℕ → Type 0
AsPlanned t n x bytes =
    (readers stores : ℕ) → (plan_step t n readers stores).number ≡ 0 → length bytes ≡ length_in (plan_step t n readers stores) x

-- ---- every packet

-- a share that a body carries is of a content of n bytes
abbrev pub SharedOf : ℕ → Option Share → Type 0
SharedOf n none = Unit {0}
SharedOf n (some h) = h.size ≡ n

abbrev pub share_in_def : Body → Option Share
share_in_def (store w) = some w.share
share_in_def (filter_reply x) = x.share
share_in_def clock = none
share_in_def (clock_reply x) = none
share_in_def (store_reply x) = none
share_in_def (complete x) = none
share_in_def complete_reply = none
share_in_def collect = none
share_in_def (collect_reply x) = none
share_in_def (filter x) = none
share_in_def (repair x) = none
share_in_def repair_reply = none

-- whoever made it
unfoldable pub PacketsPlanned : Type 0
PacketsPlanned =
    (bytes : List ℕ) (p : Packet) → Bytes bytes → decode bytes ≡ some p → (n : ℕ) → SharedOf n (share_in_def p.body) → AsPlanned p.head.t n p.body bytes

-- ---- what clients make, at every moment of every run

module _ (s : System) (A : Account (StepIn s)) where
  -- the length of the content that client c last began to write
  unfoldable pub content_length_def : ℕ → List (StepIn s) → ℕ
  content_length_def c [] = 0
  content_length_def c (x ∷ xs) = length_after c x.step (accepted (A.result x xs)) (content_length_def c xs)

  -- a packet that client c made: n is the length of the content that it writes, where the packet is a store, and free where it is not
  pub record PlannedRequest (c : ℕ) (x : StepIn s) (xs : List (StepIn s)) : Type 0 where
    pub packet : Packet
    pub read : decode (A.sent x xs) ≡ some packet
    pub planned : (n : ℕ) → (kind_of packet.body ≡ 3 → n ≡ content_length_def c xs) → AsPlanned s.config.t n packet.body (A.sent x xs)

  unfoldable pub RequestsPlanned : Type 0
  RequestsPlanned = (c : ℕ) (x : StepIn s) (xs : List (StepIn s)) → makes c x.step ≡ true → A.result x xs ≡ more → PlannedRequest c x xs

-- ---- what servers reply, for every memory, key, packet and output

module _ (P : Primitives) (memory key packet output : List ℕ) where
  -- the reply, which is for the memory's own t: n is the length of the content of its share, where it has one, and free where it has none
  pub record PlannedReply : Type 0 where
    pub holds : Memory
    pub reply : Packet
    pub opened : decode_memory memory ≡ some holds
    pub read : decode (reply_of (server_take P memory key packet output)) ≡ some reply
    pub planned : (n : ℕ) → SharedOf n (share_in_def reply.body) → AsPlanned holds.t n reply.body
        (reply_of (server_take P memory key packet output))

unfoldable pub RepliesPlanned : Type 0
RepliesPlanned =
    (P : Primitives) (memory key packet output : List ℕ) → (server_take P memory key packet output).result.number ≡ 0
    → PlannedReply P memory key packet output
