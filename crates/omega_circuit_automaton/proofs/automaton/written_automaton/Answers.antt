-- as many names as inputs and outputs
use Rattle.std.proofs.Common.{length, ap, ◌∙◌, arith}
use Rattle.omega_circuit_automaton.proofs.Words.{names_count}
use Rattle.omega_circuit_automaton.proofs.automaton.written_automaton.Goals as goal

pub header-requires-clause-names : goal.header-requires-clause-names
header-requires-clause-names c =
    let many = ap length c.requires.names ∙ names_count c.args.circuit.now in
    let few = c.requires.few in
    omega (arith, many, few)
