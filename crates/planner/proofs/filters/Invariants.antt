-- Each count so far has its length, and those from there on have 0. Assumes nothing.
use Rattle.planner.proofs.Entries.{FiltersTo}
use Rattle.planner.proofs.filters.Given as goal

abbrev pub invariant-loop-count : goal.invariant-loop-count
invariant-loop-count l = FiltersTo l.candidate l.count l.out
