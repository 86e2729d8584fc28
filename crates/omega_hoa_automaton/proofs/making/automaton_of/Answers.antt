-- `automaton_of`: what is meant is an automaton.
use Rattle.omega_hoa_automaton.proofs.validity.Automata.{means_is_automaton}
use Rattle.omega_hoa_automaton.proofs.making.automaton_of.Goals as goal

pub of_parts-requires-clause-automaton : goal.of_parts-requires-clause-automaton
of_parts-requires-clause-automaton c = means_is_automaton c.args.raw _ c.in_ok-body.ensures.ok
