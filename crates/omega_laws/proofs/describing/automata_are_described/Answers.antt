use Rattle.omega_laws.proofs.saying.Described.{described}
use Rattle.omega_laws.proofs.describing.automata_are_described.Goals as goal

pub returns : goal.returns
returns c = described
