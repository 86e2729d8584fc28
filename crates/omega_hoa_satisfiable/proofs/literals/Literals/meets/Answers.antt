-- Whether those of both can hold.
use Rattle.omega_hoa_label.specs.Label.{conjunction}
use Rattle.omega_hoa_satisfiable.proofs.literals.Literals.meets.Goals as goal

pub returns : goal.returns
returns c = λ one another are others. c.can_hold.ensures (conjunction one another) (c.with.ensures one another are others)
