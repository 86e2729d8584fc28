-- What was written so far, and what is bare from here on, are the bare text.
use Rattle.std.proofs.Common.{length, ◌-◌, ◌≡◌, ◌++◌, drop}
use Rattle.omega_pg_lenient.specs.SolutionLines.{bare_from, place_in_line}
use Rattle.omega_pg_lenient.specs.declared.line_place.LineContext.TheVariants.{Between}
use Rattle.omega_pg_lenient.proofs.solution.bare_of.Given as goal

abbrev pub invariant-loop-at : goal.invariant-loop-at
invariant-loop-at l = l.text.items ++ bare_from l.place (drop l.at l.plain) ≡ bare_from (place_in_line Between 0) l.plain

abbrev pub decreases-loop-at : goal.decreases-loop-at
decreases-loop-at l = length l.plain - l.at
