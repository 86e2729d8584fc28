use Rattle.omega_synth_rounds.proofs.Found.{AreChosenBelow}
use Rattle.omega_synth_rounds.proofs.extracting.chosen_answers.Given as goal

abbrev pub invariant-loop-question : goal.invariant-loop-question
invariant-loop-question l = AreChosenBelow l.rounds l.choices l.kept.items l.question
