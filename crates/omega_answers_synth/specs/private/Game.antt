-- The game in which it is decided whether the automaton of a text is realizable.
use Rattle.std.specs.Prelude.{List, ℕ}
use Rattle.omega_game_values.specs.Game.{Node}
use Rattle.omega_answers.specs.OneAutomaton.{OfAutomaton}
use Rattle.omega_answers_synth.specs.Game.{IsStatedGame}

-- the game of the automaton of the text
abbrev pub IsGameOfText : (text : List ℕ) → List Node → Type 0
IsGameOfText text nodes = OfAutomaton (λ a. IsStatedGame a nodes) text
