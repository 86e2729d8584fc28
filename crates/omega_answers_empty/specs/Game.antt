-- The answer of `game` for the text of one automaton: its emptiness game, or a refusal.
use Rattle.std.specs.Prelude.{◌≡◌, List, ℕ}
use Rattle.omega_text.specs.declared.refusal.Refusal.{Refusal}
use Rattle.omega_hoa_automaton.specs.Automaton.{Description}
use Rattle.omega_empty.specs.EmptinessGame.{IsEmptinessGame}
use Rattle.omega_empty.specs.Refusing.{IsGameRefusal, IsGiven}
use Rattle.omega_game_values.specs.Game.{Node}
use Rattle.omega_pg.specs.game.Canonical.{canonical_game}
use Rattle.omega_answers.specs.OneAutomaton.{IsRefusalOfText, OfAutomaton}

-- the canonical text of the emptiness game of an automaton that has one
pub record IsEmptinessGameText (automaton : Description) (output : List ℕ) : Type 0 where
  pub given : IsGiven automaton
  pub game : List Node
  pub game_is : IsEmptinessGame automaton game
  pub written : output ≡ canonical_game game

-- the answer of `game`: the text is that of an automaton, and the canonical text of its game is written
abbrev pub IsEmptinessGameAnswer : (text output : List ℕ) → Type 0
IsEmptinessGameAnswer text output =
    OfAutomaton (λ automaton. IsEmptinessGameText automaton output) text

-- the refusal of `game`: that of the text, or else that of the emptiness game of its automaton
abbrev pub IsEmptinessGameRefusal : List ℕ → Refusal → Type 0
IsEmptinessGameRefusal = IsRefusalOfText IsGameRefusal
