use Rattle.std.proofs.Common.{◌≡◌, ◌++◌, [], ◌∷◌, map, take}
use Rattle.omega_game_values.specs.Building.{unnamed_spec}
use Rattle.omega_game_values.specs.declared.player.Player.TheVariants.{Zero}
use Rattle.omega_synth_rounds.specs.Rounds.{answers_of}
use Rattle.omega_synth_rounds.specs.RoundsGame.{edge_place, question_place}
use Rattle.omega_synth_rounds.proofs.nodes.add_question.Given as goal

abbrev pub invariant-loop-at : goal.invariant-loop-at
invariant-loop-at l =
    l.builder ≡ l.fn.builder
    ++ unnamed_spec (question_place l.rounds l.question) 0 Zero (map (edge_place l.rounds) (take l.at (answers_of l.rounds l.question))) ∷ []
