-- `tell_name`: the parts of the line, written one after another, are the line.
use Rattle.omega_run.proofs.ProgressLines.{on_and_on}
use Rattle.omega_run.proofs.formulas.tell_name.Goals as goal

pub returns : goal.returns
returns g c =
    let name = on_and_on _ _ _ _ _ _ _ _ _ c.tell_on.ensures (rw c.as_slice.ensures at c.tell_on-2.ensures) in
    on_and_on _ _ _ _ _ _ _ _ _ name c.tell_on-3.ensures
