-- `first_fault_behind`: the first fault is in a line that is left or behind the lines.
use Rattle.std.proofs.Common.{◌≡◌, ◌++◌, drop, length, map}
use Rattle.omega_pg_diagnostics.specs.SolutionCauses.{first_of, line_faults, missing_nodes}
use Rattle.omega_pg_diagnostics.specs.private.WrittenSolution.{as_written}
use Rattle.omega_pg_diagnostics.proofs.solution_causes.first_fault_behind.Given as goal

abbrev pub invariant-loop-place : goal.invariant-loop-place
invariant-loop-place l =
    first_of (line_faults l.game l.place (drop l.place (map as_written l.lines)) ++ missing_nodes l.game (length l.lines))
    ≡ first_of (line_faults l.game 0 (map as_written l.lines) ++ missing_nodes l.game (length l.lines))
