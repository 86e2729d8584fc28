use Rattle.std.proofs.Common.{◌<◌, AllPairs}
use Rattle.omega_ltl_terms.proofs.ClosingLemmas.{AreStayedBelow}
use Rattle.omega_ltl_terms.proofs.closing.stayed.Given as goal

-- those so far that are marked and stay
abbrev pub invariant-loop-d : goal.invariant-loop-d
invariant-loop-d l = record {
  stayed : AreStayedBelow l.shapes l.marked l.d l.items;
  ascending : AllPairs (λ one other. one < other) l.items;
}
