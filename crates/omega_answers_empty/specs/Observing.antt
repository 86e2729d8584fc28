-- The game in which `empty` lifts.
use Rattle.std.specs.Prelude.{ℕ, List, Option}
use Rattle.omega_text.specs.declared.refusal.Refusal.{Refusal}
use Rattle.omega_hoa_automaton.specs.Automaton.{Description}
use Rattle.omega_empty.specs.Observing.{LiftsAutomaton}
use Rattle.omega_game_values.specs.declared.player.Player.{Player}
use Rattle.omega_game_values.specs.Game.{Node}
use Rattle.omega_hoa.specs.Alone.{IsAutomatonText}

-- `empty` lifts an emptiness game of the automaton of the text
pub record LiftsAutomatonText (text : List ℕ) (refusal : Option Refusal) (nodes : List Node)
    (players : List Player) : Type 0 where
  pub automaton : Description
  pub read : IsAutomatonText text automaton
  pub lifts : LiftsAutomaton automaton refusal nodes players
