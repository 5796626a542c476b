-- A finished call has the requests and replies of its rounds: a write of three, a read of two, a repaired read of three, each to all servers, so that
-- calls of one sort have their number times that. On bytes with the real functions. Assumes nothing.
use mathlib.Core.Path.{◌≡◌, refl, sym, ap, ◌∙◌}
use mathlib.Core.Bool.{Bool, true, false, not, cond, true≢false}
use mathlib.Core.List.{List, [], ◌∷◌}
use Prim.Native.Nat.{ℕ, ◌+◌, ◌*◌}
use native.Mathlib.Nat.{suc-mul}
use native.Mathlib.Omega.{arith}
use lib.Dec.{eqb}
use lib.ListN.{length, get_or}
use Rattle.cluster.specs.Config.{shelf}
use Rattle.protocol.specs.Client.{Result, refused, more, written, gave, gave_blank, aborted}
use Rattle.runs.specs.Runs.{Account}
use Rattle.atomicity.specs.Steps.{System, StepIn}
use Rattle.atomicity.specs.Claim.{OnBytes}
use Rattle.atomicity.proofs.Through.{read_rounds, repaired_rounds, rounds_by, finishes}
use Rattle.atomicity.proofs.Replied.{ByReplies}
use Rattle.atomicity.proofs.Requests.{ByRequests, counted-requests, counted_replies}
use Rattle.planner.specs.Plan.{PlanOutcome}
use Rattle.planner.specs.Plan.{plan_step, packet_counts}
use Rattle.planner.proofs.Entries.{plan-made, plan-number}
use Rattle.planned.specs.Counted.{ends_write, ends_read, ends_repaired, Finished, requests_of, replies_of, total, Together, CountsPlanned}

-- ---- a result tells its rounds

-- a call that ends so has this many rounds
abbrev Rounds : (Result → ℕ → Bool) → ℕ → Type 0
Rounds is rounds = (r : Result) (kind : ℕ) → is r kind ≡ true → (finishes r ≡ true) × (length (rounds_by r kind) ≡ rounds)

not_so : {A : Type 0} → false ≡ true → A
not_so e = absurd (true≢false (sym e))

write-rounds : Rounds ends_write 3
write-rounds (written k) kind e = (refl, refl)
write-rounds (gave k r) kind e = not_so e
write-rounds gave_blank kind e = not_so e
write-rounds (refused n) kind e = not_so e
write-rounds more kind e = not_so e
write-rounds (aborted b) kind e = not_so e

read-rounds : Rounds ends_read 2
read-rounds (gave k r) kind e = (refl, go (eqb kind 12) e)
  where
    go : (b : Bool) → not b ≡ true → length (cond b repaired_rounds read_rounds) ≡ 2
    go true e = not_so e
    go false e = refl
read-rounds gave_blank kind e = (refl, refl)
read-rounds (written k) kind e = not_so e
read-rounds (refused n) kind e = not_so e
read-rounds more kind e = not_so e
read-rounds (aborted b) kind e = not_so e

repaired-rounds : Rounds ends_repaired 3
repaired-rounds (gave k r) kind e = (refl, go (eqb kind 12) e)
  where
    go : (b : Bool) → b ≡ true → length (cond b repaired_rounds read_rounds) ≡ 3
    go true e = refl
    go false e = not_so e
repaired-rounds gave_blank kind e = not_so e
repaired-rounds (written k) kind e = not_so e
repaired-rounds (refused n) kind e = not_so e
repaired-rounds more kind e = not_so e
repaired-rounds (aborted b) kind e = not_so e

-- ---- calls together

module _ (s : System) (A : Account (StepIn s)) (asks : ByRequests s A) (answers : ByReplies s A) (is : Result → ℕ → Bool) (rounds : ℕ)
    (h : Rounds is rounds) where
  requests-each : (e : Finished s A is) → requests_of s A e ≡ rounds * s.config.servers
  requests-each e =
      let r = h _ _ e.ends in
      asks.finished e.client e.step e.before e.lent e.reply e.output e.takes r.0 e.asked
      ∙ ap (λ (n : ℕ). n * s.config.servers) r.1

  replies-each : (e : Finished s A is) → replies_of s A e ≡ rounds * s.config.servers
  replies-each e =
      let r = h _ _ e.ends in
      answers.finished e.client e.step e.before e.after e.lent e.reply e.output e.takes r.0 e.last e.replied
      ∙ ap (λ (n : ℕ). n * s.config.servers) r.1

  -- each has as many
  all_of : (f : Finished s A is → ℕ) (n : ℕ) → ((e : Finished s A is) → f e ≡ n) → (es : List (Finished s A is)) → total s A f es ≡ length es * n
  unfolding total
  all_of f n k [] = omega arith
  all_of f n k (e ∷ es) =
      let i : total s A f es ≡ length es * n = unfold total in all_of f n k es in
      omega (arith, k e, i, suc-mul (length es) n)

  -- and together what a plan says, if its entries are so many times the packets of one
  together : (n readers stores calls place : ℕ) → (plan_step s.config.t n readers stores).number ≡ 0
      → calls * (rounds * s.config.servers) ≡ get_or (packet_counts (shelf s.config.t) readers) place 0
      → calls * (rounds * s.config.servers) ≡ get_or (packet_counts (shelf s.config.t) readers) (place + 1) 0
      → Together s A is n readers stores calls place
  together n readers stores calls place z a b es l =
      let t = s.config.t in
      let p : PlanOutcome = plan_step t n readers stores in
      let m : (i : ℕ) → get_or (packet_counts (shelf t) readers) i 0 ≡ get_or p.packets i 0 =
      λ i. ap (λ (q : PlanOutcome). get_or q.packets i 0) (sym (plan-made t n readers stores (sym (plan-number t n readers stores) ∙ z))) in
      let q : length es * (rounds * s.config.servers) ≡ calls * (rounds * s.config.servers) =
      ap (λ (k : ℕ). k * (rounds * s.config.servers)) l in (
        all_of (requests_of s A) _ requests-each es ∙ q ∙ a ∙ m place,
        all_of (replies_of s A) _ replies-each es ∙ q ∙ b ∙ m (place + 1),
      )

pub counts-planned : OnBytes CountsPlanned
unfolding shelf
counts-planned sh lo hi first sized =
    let asks = counted-requests sh lo hi first sized in
    let answers = counted_replies sh lo hi first sized in
    record {
      write = λ n readers stores z. together _ _ asks answers ends_write 3 write-rounds n readers stores 1 0 z (omega arith) (omega arith);
      reads = λ n readers stores z. together _ _ asks answers ends_read 2 read-rounds n readers stores readers 2 z refl refl;
      repaired = λ n readers stores z. together _ _ asks answers ends_repaired 3 repaired-rounds n readers stores readers 4 z refl refl;
    }
