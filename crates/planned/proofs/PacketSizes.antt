-- Every packet has the length that a plan has for it: any bytes that are a packet, and what servers reply. A body's bytes are known exactly, and a
-- plan's entry for it is the same sum. Assumes nothing.
use mathlib.Core.Path.{◌≡◌, refl, sym, ap, ◌∙◌, subst}
use mathlib.Core.Bool.{cond}
use mathlib.Core.List.{List}
use mathlib.Core.Option.{Option, none, some}
use Prim.Native.Nat.{ℕ, ◌+◌, ◌*◌, ◌≤◌}
use native.Mathlib.Omega.{arith}
use lib.ListN.{length, get_or}
use Rattle.cluster.specs.Config.{Config, shelf}
use Rattle.cluster.specs.Ranges.{most_servers, top_faults}
use Rattle.protocol.specs.Values.{Candidate, Share, stamp_size, candidate_size_def, is_some}
use Rattle.protocol.specs.Packet.{Body, BodyOk, Packet, PacketOk, kind_of, head_size, share_size_def, decode, encode, candidates_f}
use Rattle.protocol.specs.Packet.{clock, clock_reply, store, store_reply, complete, complete_reply, collect, collect_reply, filter, filter_reply, repair, repair_reply}
use Rattle.format.specs.Format.{via, seq, byte, many}
use Rattle.erasure.proofs.Lists.{get_or-table}
use Rattle.protocol.specs.Client.{Hand, request, idle, clocking, storing, completing, collecting, filtering, repairing}
use Rattle.protocol.proofs.Bodies.{decode-encode, encode-decode, decode-ok, body_ok}
use Rattle.protocol.proofs.Lengths.{held_share_size, body_size, packet-size}
use Rattle.runs.proofs.RequestLengths.{request_size, list_asked}
use Rattle.planner.specs.Plan.{PlanOutcome}
use Rattle.planner.specs.Plan.{filter_size, held_sizes, plan_refusal_def, plan_of}
use Rattle.planner.proofs.Bounds.{servers-most}
use Rattle.planner.proofs.Refused.{plans}
use Rattle.planner.proofs.Entries.{filter-fits, plan-made, plan-number}
use Rattle.planned.specs.Planned.{length_in, AsPlanned, SharedOf, share_in_def, PacketsPlanned, RepliesPlanned}
use Rattle.planned.proofs.ReplyLengths.{reply-length}

-- ---- a body's bytes and a plan's entry

-- a filter's list has at most S candidates
few : (s : Config) (cs : List Candidate) → (candidates_f s).Ok cs → length cs ≤ s.servers
unfolding candidates_f via seq byte many
few s cs h = h.0.1

module _ (t n readers stores : ℕ) (tr : t ≤ top_faults) where
  abbrev s : Config
  s = shelf t

  filter-entry : (count : ℕ) → count ≤ s.servers → get_or (plan_of t n readers stores).filters count 0 ≡ head_size + (1 + count * candidate_size_def s)
  filter-entry count h =
      get_or-table (most_servers + 1) (filter_size s) count 0 (omega (arith, h, servers-most t tr)) ∙ filter-fits s count h

  held-entry : (y : Option Share) → SharedOf n y → head_size + (stamp_size + 1 + held_share_size s y) ≡ get_or (held_sizes s n) (cond (is_some y) 1 0) 0
  held-entry none h = refl
  held-entry (some x) h = ap (λ (k : ℕ). head_size + (stamp_size + 1 + share_size_def s k)) h

  body_entry : (x : Body) → BodyOk s x → SharedOf n (share_in_def x) → head_size + body_size s x ≡ length_in (plan_of t n readers stores) x
  body_entry clock o h = refl
  body_entry (clock_reply x) o h = refl
  body_entry (store x) o h = ap (λ (k : ℕ). head_size + (stamp_size + share_size_def s k)) h
  body_entry (store_reply x) o h = refl
  body_entry (complete x) o h = refl
  body_entry complete_reply o h = refl
  body_entry collect o h = refl
  body_entry (collect_reply x) o h = refl
  body_entry (filter x) o h = sym (filter-entry (length x) (few s x o))
  body_entry (filter_reply x) o h = held-entry x.share h
  body_entry (repair x) o h = refl
  body_entry repair_reply o h = refl

  -- a request's, whose store is of a content of m bytes
  pub request-entry : (m : ℕ) (h : Hand) (b : ℕ) → (kind_of (request h b) ≡ 3 → n ≡ m) → length (list_asked (request h b)) ≤ s.servers
      → head_size + request_size s m (request h b) ≡ length_in (plan_of t n readers stores) (request h b)
  request-entry m idle b e l = refl
  request-entry m (clocking r a k) b e l = refl
  request-entry m (storing d g) b e l = ap (λ (k : ℕ). head_size + (stamp_size + share_size_def s k)) (sym (e refl))
  request-entry m (completing d) b e l = refl
  request-entry m (collecting g) b e l = refl
  request-entry m (filtering cs g) b e l = sym (filter-entry (length cs) l)
  request-entry m (repairing d r) b e l = refl

-- ---- packets

-- what is shown of the parts of a plan that is made holds of the plan
pub planned_by : (t n : ℕ) (x : Body) (bytes : List ℕ)
    → ((readers stores : ℕ) → t ≤ top_faults → length bytes ≡ length_in (plan_of t n readers stores) x) → AsPlanned t n x bytes
planned_by t n x bytes f readers stores e =
    let r : plan_refusal_def t n readers stores ≡ 0 = sym (plan-number t n readers stores) ∙ e in
    f readers stores (plans t n readers stores r).faults.1 ∙ ap (λ (p : PlanOutcome). length_in p x) (sym (plan-made t n readers stores r))

pub encoded : (p : Packet) → PacketOk p → (n : ℕ) → SharedOf n (share_in_def p.body) → AsPlanned p.head.t n p.body (encode p)
encoded p o n h =
    planned_by p.head.t n p.body (encode p)
    (λ readers stores tr. packet-size p o ∙ body_entry p.head.t n readers stores tr p.body (body_ok p o) h)

pub packets-planned : PacketsPlanned
unfolding PacketsPlanned
packets-planned bytes p small e n h =
    subst (AsPlanned p.head.t n p.body) (encode-decode bytes p small e) (encoded p (decode-ok bytes p e) n h)

-- ---- replies

pub replies-planned : RepliesPlanned
unfolding RepliesPlanned
replies-planned P memory key packet output e =
    let r = reply-length P memory key packet output e in
    record {
      holds = r.holds;
      reply = r.reply;
      opened = r.opened;
      read = ap decode r.bytes ∙ decode-encode r.reply r.fits;
      planned = λ n h. subst (AsPlanned r.holds.t n r.reply.body) (sym r.bytes)
          (subst (λ (t : ℕ). AsPlanned t n r.reply.body (encode r.reply)) r.faults (encoded r.reply r.fits n h));
    }
