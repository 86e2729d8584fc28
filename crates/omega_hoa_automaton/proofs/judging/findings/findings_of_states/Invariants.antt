-- What holds in the loop of `findings_of_states`: it is found of the states so far.
use Rattle.std.proofs.Common.{sum_by, take}
use Rattle.omega_hoa_automaton.specs.Faults.{label_total}
use Rattle.omega_hoa_automaton.specs.private.layout.Findings.{AreFound, labels_pass}
use Rattle.omega_hoa_automaton.proofs.judging.findings.findings_of_states.Given as goal

abbrev pub invariant-loop-state : goal.invariant-loop-state
invariant-loop-state l =
    AreFound (λ test. labels_pass test l.aliases (take l.state-index l.states)) (sum_by (label_total l.aliases) (take l.state-index l.states)) l.found
