use Rattle.omega_laws.proofs.Judged.{judged_right}
use Rattle.omega_laws.proofs.written_controllers.written_controllers_are_judged_right.Goals as goal

pub returns : goal.returns
returns c =
    judged_right c.controllers_are_read_back.ensures c.automata_are_one.ensures c.meanings_are_automata.ensures c.written_controllers_are_parts.ensures
    c.kept_parts_are_judged_right.ensures
