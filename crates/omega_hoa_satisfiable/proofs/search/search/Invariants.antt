-- In some open branch a valuation leads to the end exactly if it does from the start. Each pending branch goes on under
-- assumptions that are made now. With what is visited at most from now on, no more steps are visited than from the
-- start.
use Rattle.std.proofs.Common.{◌≡◌, ℕ, ◌+◌, ◌≤◌, Bool}
use Rattle.omega_hoa_satisfiable.specs.private.Branching.{ArePending, branches_lead}
use Rattle.omega_hoa_satisfiable.specs.private.Leading.{leads}
use Rattle.omega_hoa_satisfiable.specs.private.Visits.{pending_visits, visits}
use Rattle.omega_hoa_satisfiable.proofs.search.search.Given as goal

abbrev pub invariant-loop-visit : goal.invariant-loop-visit
invariant-loop-visit l = record {
  leading : (held : ℕ → Bool) → branches_lead held (leads held l.steps) l.branches (leads held l.steps l.place) ≡ leads held l.steps l.start;
  pending : ArePending l.branches;
  visited : l._visit + (visits l.steps l.place + pending_visits (visits l.steps) l.branches.later.items) ≤ visits l.steps l.start;
}
