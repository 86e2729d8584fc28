-- A text is that of at most one automaton.
use Rattle.omega_hoa.proofs.OneText.{automata_one}
use Rattle.omega_hoa.proofs.Readings.{readings_of}
use Rattle.omega_hoa.proofs.laws.automata_are_one.Goals as goal

pub returns : goal.returns
returns c = λ source. automata_one (readings_of c.raws_are_one.ensures c.meanings_are_one.ensures) c.cuts_are_one.ensures source
