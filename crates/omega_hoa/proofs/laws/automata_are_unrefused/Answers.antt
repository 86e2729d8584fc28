-- The text of an automaton has no refusal.
use Rattle.omega_hoa.proofs.OneText.{automata_unrefused}
use Rattle.omega_hoa.proofs.Readings.{readings_of}
use Rattle.omega_hoa.proofs.laws.automata_are_unrefused.Goals as goal

pub returns : goal.returns
returns c = λ source. automata_unrefused (readings_of c.raws_are_one.ensures c.meanings_are_one.ensures) c.cuts_are_one.ensures source c.cuts_have_no_fault.ensures
