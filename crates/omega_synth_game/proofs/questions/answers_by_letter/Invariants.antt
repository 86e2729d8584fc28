-- the letters so far, and the words of the block of the next letter unless that is a new one
use Rattle.std.proofs.Common.{◌<◌, ◌/◌, ◌%◌, length}
use Rattle.omega_synth_game.specs.private.EdgeWords.{AreEdgeWords}
use Rattle.omega_synth_game.specs.private.Making.{AreAnswersByLetter}
use Rattle.omega_synth_game.proofs.questions.answers_by_letter.Given as goal

abbrev pub invariant-loop-letter : goal.invariant-loop-letter
invariant-loop-letter l =
    AreAnswersByLetter l.automaton l.controlled l.numbers l.inputs l.letter l.answers.items
    × (0 < l.letter % 64 → AreEdgeWords l.automaton l.controlled l.inputs (l.letter / 64) l.numbers (length l.numbers) l.words.items)
