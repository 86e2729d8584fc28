use Rattle.std.proofs.Common.{◌≡◌}
use Rattle.omega_ltl_determinization.specs.Deterministic.{IsWellFormed}
use Rattle.omega_ltl_determinization.proofs.tidying.smaller_automaton.Given as goal

-- the automaton so far is well-formed, over the same names
abbrev pub invariant-loop : goal.invariant-loop
invariant-loop l = IsWellFormed l.current × (l.current.names ≡ l.fn.automaton.names)
