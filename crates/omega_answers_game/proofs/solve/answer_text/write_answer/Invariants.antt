-- `write_answer`: the lines of the places before this one are written.
use Rattle.std.proofs.Common.{◌≡◌, ◌++◌, drop}
use Rattle.std.specs.List.{flat_map}
use Rattle.omega_answers_game.specs.solve.AnswerText.{answer_text, won_line}
use Rattle.omega_answers_game.specs.private.steps.Places.{places_from}
use Rattle.omega_answers_game.proofs.solve.answer_text.write_answer.Given as goal

abbrev pub invariant-loop-place : goal.invariant-loop-place
invariant-loop-place l =
    l.out.items ++ flat_map (won_line l.game l.choices) (places_from l.place (drop l.place l.won))
    ≡ answer_text l.fn.player l.fn.lifts l.game (places_from 0 l.won) l.choices
