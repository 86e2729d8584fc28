-- `write_solution`: the header and the lines of the places before this one are written.
use Rattle.std.proofs.Common.{◌≡◌, ◌++◌, map}
use Rattle.std.specs.List.{flat_map, range_with_len}
use Rattle.omega_pg.specs.solution.Text.{line_at}
use Rattle.omega_pg.specs.solution.Canonical.{solution_line}
use Rattle.omega_pg.proofs.solutions.Choices.{solution_front}
use Rattle.omega_pg.proofs.solution.writing.write_solution.Given as goal

abbrev pub invariant-loop-place : goal.invariant-loop-place
invariant-loop-place l =
    l.out.items ≡ solution_front l.game ++ flat_map solution_line (map (line_at l.game l.solution) (range_with_len 0 l.place))
