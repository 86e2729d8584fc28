-- An automaton that the tokens of a text begin with fills a whole segment.
use Rattle.omega_hoa.proofs.Filling.{segment_filled}
use Rattle.omega_hoa.proofs.laws.automata_fill_segments.Goals as goal

pub returns : goal.returns
returns c = segment_filled
