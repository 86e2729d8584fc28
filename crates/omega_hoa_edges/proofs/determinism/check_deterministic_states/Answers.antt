-- memory is refused for the places
use Rattle.omega_hoa_edges.specs.Refusing.{IsStatesFault}
use Rattle.omega_hoa_edges.proofs.Refusals.{memory_task}
use Rattle.omega_hoa_edges.proofs.determinism.check_deterministic_states.Goals as goal

pub returns-in-Err-clause-refused : goal.returns-in-Err-clause-refused
returns-in-Err-clause-refused c = memory_task (IsStatesFault c.args.automaton.now) _ c.in-Err.ensures.memory
