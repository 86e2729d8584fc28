-- `tell_ending`: the parts of the line, written one after another, are the line.
use Rattle.omega_run.proofs.ProgressLines.{on_and_on}
use Rattle.omega_run.proofs.searching.tell_ending.Goals as goal

pub returns : goal.returns
returns g c =
    let name = on_and_on _ _ _ _ _ _ _ _ _ c.tell_on.ensures c.tell_on-2.ensures in
    let ending = on_and_on _ _ _ _ _ _ _ _ _ name c.tell_on-3.ensures in
    let edges = on_and_on _ _ _ _ _ _ _ _ _ ending c.tell_number.ensures in
    on_and_on _ _ _ _ _ _ _ _ _ edges c.tell_on-4.ensures
