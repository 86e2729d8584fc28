-- what is known of both
use Rattle.omega_circuit_automaton.proofs.LaneBits.{and_allows}
use Rattle.omega_circuit_automaton.proofs.known.Known.and.Goals as goal

pub returns : goal.returns
returns c = λ one two bit left right. and_allows c.args.self c.args.other bit one two left right
