-- no way out, or a letter that none answers
use Rattle.std.proofs.Common.{false, arith}
use Rattle.omega_synth_check.proofs.WaysOut.{spared}
use Rattle.omega_synth_check.proofs.without_letter.blocking_edge.Goals as goal
use Rattle.omega_synth_check.proofs.without_letter.blocking_edge.Goals.{in-Some, in-None}

pub returns-in_default-clause-spared : goal.returns-in_default-clause-spared
returns-in_default-clause-spared c = (λ p. false, λ number has answers. omega (arith, has.1, c.in_default.len_below))

pub returns-clause-spared : goal.returns-clause-spared
returns-clause-spared c = elim c.match-branch-2.branch [
  | in-Some w ↦
      rw w.result-is
      (spared c.args.automaton.now c.args.controlled.now c.args.out.now c.in_ok-unanswered_letter.field-0 _ w.in-Some.is c.in_ok-unanswered_letter.ensures.unanswered)
  | in-None w ↦ rw w.result-is tt
]
