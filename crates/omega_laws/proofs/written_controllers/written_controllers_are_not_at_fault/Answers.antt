use Rattle.omega_laws.proofs.Refused.{not_at_fault}
use Rattle.omega_laws.proofs.written_controllers.written_controllers_are_not_at_fault.Goals as goal

pub returns : goal.returns
returns c =
    not_at_fault c.controllers_are_read_back.ensures c.automata_are_one.ensures c.automata_are_unrefused.ensures c.meanings_are_automata.ensures
