use Rattle.omega_laws.proofs.saying.Described.{described_alike}
use Rattle.omega_laws.proofs.describing.described_automata_are_alike.Goals as goal

pub returns : goal.returns
returns c = described_alike c.cuts_are_one.ensures c.raws_are_one.ensures
