-- A plan of a lab (document 02, W-201): what the packets and memories of a shelf take, for contents of n bytes, so many clients that read together,
-- and so many stores. All lengths are those of the layout. crate planned shows that they are the lengths and counts of what is really made.
use Rattle.std.specs.Prelude.{not, cond, List, [], ◌∷◌, ℕ, ◌+◌, ◌*◌, leb, ltb, replicate}
use Rattle.std.specs.Prelude.{Result, Ok, Err}
use Rattle.cluster.specs.Config.{Config, shelf}
use Rattle.cluster.specs.Ranges.{within, top_faults, most_servers, top_client, top_length, capacity}
use Rattle.cluster.specs.Refusals.{refuse, first_of, on_refusal, refusal_number}
use Rattle.cluster.specs.declared.Refusal.{Refusal}
use Rattle.erasure.specs.Fragments.{table}
use Rattle.protocol.specs.Values.{stamp_size, candidate_size_def}
use Rattle.protocol.specs.Packet.{head_size, share_size_def}
use Rattle.protocol.specs.Memory.{writes_place_def}
use Rattle.planner.specs.declared.LabPlan.{LabPlan}

-- a stored write of a content of n bytes
abbrev pub stored_size_def : Config → ℕ → ℕ
stored_size_def s n = stamp_size + share_size_def s n

-- ---- "each packet's length (a filter's for each count of candidates, its reply's for each form)"

-- by kind, from 0, which is none: clock, store, complete and collect, each before its reply; filter and its reply, which have no one length;
-- repair and its reply
abbrev pub kind_sizes : Config → ℕ → List ℕ
kind_sizes s n =
    0
    ∷ head_size
    ∷ (head_size + stamp_size)
    ∷ (head_size + stored_size_def s n)
    ∷ (head_size + 1)
    ∷ (head_size + candidate_size_def s)
    ∷ head_size
    ∷ head_size
    ∷ (head_size + candidate_size_def s)
    ∷ 0
    ∷ 0
    ∷ (head_size + candidate_size_def s)
    ∷ head_size
    ∷ []

-- kind 9 by its count of candidates, which S bounds
abbrev pub filter_size : Config → ℕ → ℕ
filter_size s count = cond (leb count s.servers) (head_size + (1 + count * candidate_size_def s)) 0

-- kind 10 by its byte: 0 without a share, 1 with one
abbrev pub held_sizes : Config → ℕ → List ℕ
held_sizes s n = (head_size + (stamp_size + 1)) ∷ (head_size + (stamp_size + 1 + share_size_def s n)) ∷ []

-- ---- "the requests and replies of a write and of so many reads with and without repair when each round goes to all S boxes"

-- a write has three rounds, a read two, and a repaired read three; each round has as many replies as requests
abbrev pub write_packets : Config → ℕ
write_packets s = 3 * s.servers

abbrev pub read_packets : Config → ℕ → ℕ
read_packets s readers = readers * (2 * s.servers)

abbrev pub repaired_packets : Config → ℕ → ℕ
repaired_packets s readers = readers * (3 * s.servers)

-- requests, then replies: of a write, of the reads, of the reads with repair
abbrev pub packet_counts : Config → ℕ → List ℕ
packet_counts s readers =
    write_packets s
    ∷ write_packets s
    ∷ read_packets s readers
    ∷ read_packets s readers
    ∷ repaired_packets s readers
    ∷ repaired_packets s readers
    ∷ []

-- ---- "the bytes that the fields of box memory take after m stores of that length, all kept"

abbrev pub fields_after : Config → ℕ → ℕ → ℕ
fields_after s n m = writes_place_def s + m * stored_size_def s n

-- ---- the operation

-- "1 to 16, else 5"; "Refused: 18, m above 32, after 6"
unfoldable pub plan_refusal_def : (t n readers stores : ℕ) → ℕ
plan_refusal_def t n readers stores =
    first_of
    (refuse 3 (not (within 1 top_faults t))
    ∷ refuse 5 (not (within 1 top_client readers))
    ∷ refuse 6 (ltb top_length n)
    ∷ refuse 18 (ltb capacity stores)
    ∷ [])

-- a refusal's number or 0, and what is planned, all 0 where it is refused
pub record PlanOutcome : Type 0 where
  pub number : ℕ
  pub kinds : List ℕ
  pub filters : List ℕ
  pub held : List ℕ
  pub packets : List ℕ
  pub memory : ℕ

-- what is planned
abbrev pub plan_of : (t n readers stores : ℕ) → PlanOutcome
plan_of t n readers stores =
    let s = shelf t in
    record {
      number = 0;
      kinds = kind_sizes s n;
      filters = table (most_servers + 1) (filter_size s);
      held = held_sizes s n;
      packets = packet_counts s readers;
      memory = fields_after s n stores;
    }

-- a refusal, and all else 0
abbrev pub no_plan : ℕ → PlanOutcome
no_plan number =
    record {
      number = number;
      kinds = replicate 13 0;
      filters = replicate (most_servers + 1) 0;
      held = replicate 2 0;
      packets = replicate 6 0;
      memory = 0;
    }

-- what an answer tells
abbrev pub made_plan : LabPlan → PlanOutcome
made_plan p = record { number = 0; kinds = p.kinds; filters = p.filters; held = p.held; packets = p.packets; memory = p.memory }

abbrev pub plan_told : Result LabPlan Refusal → PlanOutcome
plan_told (Ok p) = made_plan p
plan_told (Err why) = no_plan (refusal_number why)

unfoldable pub plan_step : (t n readers stores : ℕ) → PlanOutcome
plan_step t n readers stores =
    let number = plan_refusal_def t n readers stores in on_refusal number (plan_of t n readers stores) (no_plan number)
