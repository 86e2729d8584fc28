-- memory is refused for the places
use Rattle.omega_lang_complement.specs.Refusing.{IsFirstFault}
use Rattle.omega_hoa_edges.proofs.Refusals.{memory_task}
use Rattle.omega_lang_complement.proofs.states.turned_states.Goals as goal

pub returns-in-Err-clause-err : goal.returns-in-Err-clause-err
returns-in-Err-clause-err c = memory_task (IsFirstFault c.args.automaton.now) _ c.in-Err.ensures.memory
