-- What follows from what a solver keeps: if no place is pending, and for the numbers of takes and lifts.
use Rattle.std.proofs.Common.{ℕ, ◌^◌, ◌+◌, ◌-◌, ◌<◌, ◌≤◌, true, false, Option, Some, None, length, sym, ◌∙◌, arith}
use Rattle.std.specs.Option.{MatchOption}
use Rattle.std.proofs.lemmas.Bool.{false≢true}
use Rattle.std.proofs.lemmas.Option.{same_Some}
use Rattle.omega_lift_laws.specs.Laws.{PlacesAreLiftedBoundedly, RunsAreBounded}
use Rattle.omega_lift_schedules.specs.Schedule.{IsIdle, IsPending}
use Rattle.omega_lift_schedules.proofs.Flags.{pending_inside, waits_none}
use Rattle.omega_solve.specs.Limits.{most_lifts}
use Rattle.omega_solve.specs.Solver.{IsFinished, IsReached, SolverState, attempt_bound, lift_bound}
use Rattle.omega_solve.specs.private.solving.Progress.{IsSolving}
use Rattle.omega_solve.proofs.lifting.Attempts.{in_degrees_bounded, in_degrees_fits}

-- if no place is pending, no lift is due
pub finished_idle : (state : SolverState) → IsSolving state → IsIdle state.pending → IsFinished state
finished_idle state s idle v lt due =
    let waiting = s.due v due in
    let not_waiting = idle v (pending_inside state.pending v waiting) in
    false≢true (same_Some false true (sym not_waiting ∙ waiting))

-- what a look shows of the game
pub looked : (state : SolverState) (look : Option ℕ) → IsSolving state → MatchOption look (IsIdle state.pending) (IsPending state.pending)
    → MatchOption look (IsFinished state) (λ place. place < length state.nodes)
looked state None s idle = finished_idle state s idle
looked state (Some place) s waiting = omega (arith, pending_inside state.pending place waiting, s.entries)

-- the takes leave room for a take with each of the most lifts
pub takes_leave : (state : SolverState) → IsSolving state → state.pending.taken + most_lifts ≤ 2 ^ 64 - 1
takes_leave state s =
    let short : length s.places ≤ most_lifts = omega (arith, s.counted, s.few) in
    omega (arith, s.most, s.limits.few_nodes, in_degrees_fits state.nodes s.places s.limits.few_edges short)

-- the takes fit their type
pub takes_fit : (state : SolverState) → IsSolving state → state.pending.taken < 2 ^ 64 - 1
takes_fit state s =
    let short : length s.places ≤ most_lifts = omega (arith, s.counted, s.few) in
    omega (arith, s.most, s.limits.few_nodes, in_degrees_fits state.nodes s.places s.limits.few_edges short)

-- and are bounded
pub takes_bounded : (state : SolverState) → PlacesAreLiftedBoundedly → IsSolving state → state.pending.taken ≤ attempt_bound state
takes_bounded state bounded s =
    omega (arith, s.most, in_degrees_bounded state.nodes state.player s.places state.table.measures s.game bounded s.lifted)

-- each place was taken if none is pending
pub takes_each : (state : SolverState) → IsSolving state → IsIdle state.pending → length state.nodes ≤ state.pending.taken
takes_each state s idle = omega (arith, s.least, waits_none state.pending idle)

-- the table of a solver is reached
pub solving_reached : (state : SolverState) → IsSolving state → IsReached state
solving_reached state s = record { places = s.places; lifted = s.lifted; counted = s.counted }

-- by at most as many lifts as the bound
pub reached_bounded : (state : SolverState) → RunsAreBounded → IsReached state → state.lifts ≤ lift_bound state
reached_bounded state bounded reached =
    omega (arith, bounded state.nodes state.player reached.places state.table.measures reached.lifted, reached.counted)
