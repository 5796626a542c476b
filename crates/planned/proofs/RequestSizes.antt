-- What clients make has the length that a plan has for it, at every moment of every run, on bytes with the real functions: the content of a store is the
-- one that its client last began to write. Assumes nothing.
use mathlib.Core.Path.{◌≡◌, refl, sym, ap, ◌∙◌, subst}
use mathlib.Core.Bool.{true, true≢false}
use mathlib.Core.List.{List, [], ◌∷◌}
use Prim.Native.Nat.{ℕ, ◌+◌, ◌≤◌}
use lib.ListN.{length}
use borrow.Author.Tests.{eqb-true}
use Rattle.cluster.specs.Config.{shelf}
use Rattle.cluster.specs.Ranges.{top_faults}
use Rattle.protocol.specs.Packet.{Body, head_size, kind_of, decode}
use Rattle.protocol.specs.Primitives.{real}
use Rattle.protocol.specs.Client.{Hand, accepted, more}
use Rattle.protocol.specs.View.{kept_size}
use Rattle.protocol.proofs.Primitive.{real-lengths}
use Rattle.runs.specs.Runs.{Shelf, Step, write, read, make, take-reply, give-up, serve, length_after, makes, StepOn, steps, Account, by_bytes_def}
use Rattle.runs.proofs.ContentLengths.{done, length_of}
use Rattle.runs.proofs.RequestLengths.{request_size, list_asked, Requested, request-length}
use Rattle.runs.proofs.Accounts.{steps-fed}
use Rattle.atomicity.specs.Claim.{system_of_def, OnBytes}
use Rattle.planner.specs.Plan.{plan_of}
use Rattle.planned.specs.Planned.{AsPlanned, length_in, content_length_def, PlannedRequest, RequestsPlanned}
use Rattle.planned.proofs.PacketSizes.{request-entry, planned_by}

-- a request of a shelf, whose client writes a content of m bytes
module _ (t m : ℕ) (h : Hand) (b : ℕ) (sent : List ℕ) (r : Requested (shelf t) m h b sent) where
  of-request : (n : ℕ) → (kind_of r.packet.body ≡ 3 → n ≡ m) → AsPlanned t n r.packet.body sent
  of-request n e =
      planned_by t n r.packet.body sent
      (λ readers stores tr. r.size
      ∙ subst
      (λ (y : Body). (kind_of y ≡ 3 → n ≡ m) → length (list_asked y) ≤ (shelf t).servers
      → head_size + request_size (shelf t) m y ≡ length_in (plan_of t n readers stores) y)
      (sym r.asks) (request-entry t n readers stores tr m h b) e r.few)

module _ (sh : Shelf) (tr : (1 ≤ sh.t) × (sh.t ≤ top_faults)) (first : ℕ → List ℕ) (sized : (c : ℕ) → length (first c) ≡ kept_size) where
  abbrev A : Account (StepOn sh)
  A = by_bytes_def real sh first

  -- the account has the lengths of contents that the steps on bytes have
  same_length : (c : ℕ) (xs : List (StepOn sh)) → content_length_def (system_of_def sh) A c xs ≡ length_of real sh first c (steps xs)
  unfolding content_length_def length_of by_bytes_def
  same_length c [] = refl
  same_length c (x ∷ xs) =
      ap (length_after c x.step (accepted (done real sh first x.step (steps xs)).result)) (unfold content_length_def length_of by_bytes_def in same_length c xs)

  -- of a step that is this one
  made_by : (c b : ℕ) (output : List ℕ) (x : StepOn sh) (xs : List (StepOn sh)) → x.step ≡ make c b output → A.result x xs ≡ more
      → PlannedRequest (system_of_def sh) A c x xs
  unfolding by_bytes_def shelf
  made_by c b output x xs e q =
      let f = ap (λ (y : Step). done real sh first y (steps xs)) e in
      let r = request-length real real-lengths sh tr first sized c b output (steps xs) (steps-fed real real-lengths sh tr first sized xs)
      (sym (ap (λ d. d.result) f) ∙ q) in
      let same = ap (λ d. d.sent) f in
      record {
        packet = r.packet;
        read = ap decode same ∙ r.read;
        planned = λ n k. subst (AsPlanned sh.t n r.packet.body) (sym same)
            (of-request sh.t _ _ b _ r n (λ i. k i ∙ unfold by_bytes_def in same_length c xs));
      }

pub requests-planned : OnBytes RequestsPlanned
unfolding RequestsPlanned
requests-planned sh lo hi first sized c x xs m q = go x.step refl m
  where
    go : (y : Step) → x.step ≡ y → makes c y ≡ true → PlannedRequest (system_of_def sh) (by_bytes_def real sh first) c x xs
    go (write d r n) e k = absurd (true≢false (sym k))
    go (read d) e k = absurd (true≢false (sym k))
    go (make d b o) e k =
        made_by sh (lo, hi) first sized c b o x xs (e ∙ ap (λ (i : ℕ). make i b o) (sym (eqb-true c d k))) q
    go (take-reply d lent p o) e k = absurd (true≢false (sym k))
    go (give-up d) e k = absurd (true≢false (sym k))
    go (serve b p o) e k = absurd (true≢false (sym k))
