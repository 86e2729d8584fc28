use Rattle.std.proofs.Common.{◌≡◌, ◌-◌, ◌++◌, [], ◌∷◌, map}
use Rattle.std.specs.List.{range_with_len}
use Rattle.omega_game_values.specs.Building.{unnamed_spec}
use Rattle.omega_game_values.specs.declared.player.Player.TheVariants.{One}
use Rattle.omega_synth_rounds.specs.Rounds.{range_at}
use Rattle.omega_synth_rounds.specs.RoundsGame.{question_place}
use Rattle.omega_synth_rounds.proofs.nodes.add_state.Given as goal

abbrev pub invariant-loop-question : goal.invariant-loop-question
invariant-loop-question l =
    l.builder ≡ l.fn.builder
    ++ unnamed_spec l.state 0 One
    (map (question_place l.rounds) (range_with_len (range_at l.rounds l.state).first (l.question - (range_at l.rounds l.state).first))) ∷ []
