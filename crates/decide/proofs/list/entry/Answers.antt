-- A blank stamp does not enter; a twin in a slot before keeps it out; else it enters. Nothing is assumed.
use Rattle.std.proofs.Common.{◌≡◌, ◌∙◌, sym, ℕ, suc, ◌+◌, ◌*◌, ◌<◌, List, false, arith, below_more}
use Rattle.cluster.specs.Config.{shelf}
use Rattle.format.specs.Format.{Bytes}
use Rattle.protocol.specs.Values.{is_blank_def}
use Rattle.protocol.specs.View.{candidate_slot, candidates_place, candidates_in}
use Rattle.decide.specs.Steps.{rank_at, blank_rank}
use Rattle.decide.proofs.Ranks.{low-rank, high-rank, candidate-rank, candidate-writer}
use Rattle.decide.proofs.Gathered.{enters-blank, enters_twin, enters_new}
use Rattle.decide.proofs.list.entry.Goals as goal

-- the candidate's stamp, by what was read
stamp : (t : ℕ) (kept : List ℕ) (i r : ℕ) → Bytes kept → i < 13 → r ≡ rank_at kept (candidates_place + candidate_slot * i) → blank_rank < r
    → is_blank_def (candidates_in (shelf t) kept (suc i)).stamp ≡ false
stamp t kept i r b h e l =
    high-rank (candidates_in (shelf t) kept (suc i)).stamp (candidate-writer (shelf t) kept b (suc i))
    (omega (arith, candidate-rank (shelf t) kept i h))

pub returns-then-rank_at-le-BLANK_RANK : goal.returns-then-rank_at-le-BLANK_RANK
returns-then-rank_at-le-BLANK_RANK c =
    let a = c.args in
    sym (enters-blank (candidates_in (shelf a.t) a.kept.now) a.i (low-rank (candidates_in (shelf a.t) a.kept.now (suc a.i)).stamp
    (omega (arith, candidate-rank (shelf a.t) a.kept.now a.i c.requires.1, c.rank_at.ensures))))

pub returns : goal.returns
returns c =
    let a = c.args in
    sym (enters_new (candidates_in (shelf a.t) a.kept.now) a.i
    (stamp a.t a.kept.now a.i c.rank_at.result (λ k. (c.type_inv.kept k).fits) c.requires.1 c.rank_at.ensures (omega arith))
    (λ j l. c.loop-j.invariant j (omega arith)))

pub returns-then-twins : goal.returns-then-twins
returns-then-twins c =
    let a = c.args in
    sym (enters_twin (candidates_in (shelf a.t) a.kept.now) a.i c.loop-j.j
    (stamp a.t a.kept.now a.i c.rank_at.result (λ k. (c.type_inv.kept k).fits) c.requires.1 c.rank_at.ensures (omega arith))
    (omega arith) (sym c.twins.ensures ∙ c.if-twins.true))

pub loop-j-preserved : goal.loop-j-preserved
loop-j-preserved c = below_more _ _ c.loop-j.invariant (sym c.twins.ensures ∙ c.if-twins.false)
