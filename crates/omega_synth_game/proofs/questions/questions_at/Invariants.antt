-- the questions of the first places so far
use Rattle.std.proofs.Common.{◌≡◌, map, take}
use Rattle.omega_synth_game.specs.private.Firsts.{list_at}
use Rattle.omega_synth_game.specs.Letters.{letter_numbered}
use Rattle.omega_synth_game.proofs.questions.questions_at.Given as goal

abbrev pub invariant-loop-first : goal.invariant-loop-first
invariant-loop-first l =
    (l.questions.letters.items ≡ map (letter_numbered l.inputs) (take l.first-index l.firsts))
    × (l.questions.answers.items ≡ map (list_at l.answers) (take l.first-index l.firsts))
