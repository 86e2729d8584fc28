use Rattle.omega_synth_rounds.proofs.Found.{AreAskedBelow}
use Rattle.omega_synth_rounds.proofs.extracting.asked_questions.Given as goal

abbrev pub invariant-loop-state : goal.invariant-loop-state
invariant-loop-state l = AreAskedBelow l.rounds l.choices l.kept.items l.asked.items l.state
