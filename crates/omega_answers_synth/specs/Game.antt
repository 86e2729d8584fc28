-- The answer of `realize --game` for the text of one automaton: the game in which it is decided whether the automaton
-- is realizable, or a refusal.
use Rattle.std.specs.Prelude.{◌≡◌, ◌⊎◌, List, ℕ}
use Rattle.omega_text.specs.declared.refusal.Refusal.{Refusal}
use Rattle.omega_hoa_automaton.specs.Automaton.{Description}
use Rattle.omega_synth_controllers.specs.Controllable.{HasStated, IsMisstated, IsStated}
use Rattle.omega_game_values.specs.Game.{Node}
use Rattle.omega_pg.specs.game.Canonical.{canonical_game}
use Rattle.omega_answers.specs.OneAutomaton.{IsRefusalOfText, OfAutomaton}
use Rattle.omega_synth_realize.specs.Gaming.{IsRealizabilityGame, IsRealizabilityGameRefusal}
use Rattle.omega_synth_realize.specs.Refusing.{HasNoLargeGame}

-- the game of an automaton, which is not too large, where the system controls the propositions that its item
-- `controllable-AP:` lists
pub record IsStatedGame (a : Description) (nodes : List Node) : Type 0 where
  pub controlled : List ℕ
  pub stated : IsStated a controlled
  pub small : HasNoLargeGame a controlled
  pub game : IsRealizabilityGame a controlled nodes

-- the canonical text of that game
pub record IsGameText (a : Description) (output : List ℕ) : Type 0 where
  pub nodes : List Node
  pub game : IsStatedGame a nodes
  pub written : output ≡ canonical_game nodes

-- the answer of `realize --game`: the canonical text of the game of the automaton of the text
abbrev pub IsGameAnswer : (text output : List ℕ) → Type 0
IsGameAnswer text output = OfAutomaton (λ a. IsGameText a output) text

-- the item lists propositions, and the game is refused
pub record RefusesGame (a : Description) (refusal : Refusal) : Type 0 where
  pub controlled : List ℕ
  pub stated : IsStated a controlled
  pub refused : IsRealizabilityGameRefusal a controlled refusal

-- the refusal of an automaton: that of its item, or else that of the game
abbrev pub IsUngamedAutomaton : Description → Refusal → Type 0
IsUngamedAutomaton a refusal = IsMisstated (HasStated a) refusal ⊎ RefusesGame a refusal

-- the refusal of `realize --game`: that of the text, or else that of its automaton
abbrev pub IsGameRefusal : List ℕ → Refusal → Type 0
IsGameRefusal = IsRefusalOfText IsUngamedAutomaton
