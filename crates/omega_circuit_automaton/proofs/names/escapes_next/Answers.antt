use Rattle.omega_circuit_automaton.proofs.Quotable.{after_byte}
use Rattle.omega_circuit_automaton.proofs.names.escapes_next.Goals as goal

pub returns-clause-some : goal.returns-clause-some
returns-clause-some c = after_byte c.args.is_escaped c.args.byte c.if-is_escaped.false c.if-byte-eq34.false
