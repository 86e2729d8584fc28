-- `findings_of_states`: one more state.
use Rattle.omega_hoa_label_text.specs.Expanding.{expansion}
use Rattle.omega_hoa_automaton.specs.Faults.{is_labelled, label_total}
use Rattle.omega_hoa_automaton.proofs.FindingLemmas.{found-step}
use Rattle.omega_hoa_automaton.proofs.judging.findings.findings_of_states.Goals as goal

pub loop-state-preserved : goal.loop-state-preserved
loop-state-preserved c =
    found-step (λ test. is_labelled (λ label. test (expansion c.args.aliases.now label))) (label_total c.args.aliases.now) c.args.states.now c.loop-state.state-index c.state-item.result
    c.loop-state.found c.in_ok-more.more c.with-found.result
    c.loop-state-test.true c.state-item.is c.loop-state.invariant c.in_ok-more.ensures.ok c.with-found.ensures
