-- the header and the states
use Rattle.std.proofs.Common.{length, sym, subst, ◌∙◌}
use Rattle.omega_ltl_translation.specs.private.Written.{AreWrittenStates}
use Rattle.omega_ltl_translation.proofs.forming.written_graph.Goals as goal

pub returns-clause-written : goal.returns-clause-written
returns-clause-written c = record {
  items = c.from_vec.ensures ∙ c.in_ok-items.ensures.items;
  states = subst (AreWrittenStates c.args.sets c.args.edges.now (length c.args.edges.now)) (sym c.from_vec-2.ensures) c.in_ok-states.ensures.states;
}
