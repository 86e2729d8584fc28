-- `is_power`: an exponent of 64 or more is over the machine's numbers.
use Rattle.std.proofs.Common.{arith}
use Rattle.std.proofs.lemmas.Bool.Decides.{nat_tests}
use Rattle.omega_hoa_automaton.proofs.Powers.{no_power}
use Rattle.omega_hoa_automaton.proofs.judging.implicit.is_power.Goals as goal

pub returns-else-propositions-lt64 : goal.returns-else-propositions-lt64
returns-else-propositions-lt64 c =
    let over = no_power c.args.edges c.args.propositions (omega arith) (omega arith) in
    grind (arith, nat_tests, over)
