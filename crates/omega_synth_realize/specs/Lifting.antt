-- The games in which deciding by lifting makes its runs, and that the runs end where there is an answer.
use Rattle.std.specs.Prelude.{◌≡◌, ◌⊎◌, ℕ, List, [], Option}
use Rattle.omega_text.specs.declared.refusal.Refusal.{Refusal}
use Rattle.omega_hoa_automaton.specs.Automaton.{Description}
use Rattle.omega_game_values.specs.Game.{Node}
use Rattle.omega_game_values.specs.declared.player.Player.{Player}
use Rattle.omega_synth_realize.specs.Realizing.{winner_in}
use Rattle.omega_synth_realize.specs.Solving.{IsLiftedInRounds, LiftsRounds}
use Rattle.omega_synth_realize.specs.Refusing.{OfRounds}
use Rattle.omega_synth_realize.specs.declared.realizability.Realizability.{Realizability}

-- the runs are made in the game of rounds of the automaton
abbrev pub LiftsParted : Description → List ℕ → Option Refusal → List Node → List Player → Type 0
LiftsParted a controlled refusal nodes players =
    OfRounds a controlled (λ rounds. LiftsRounds rounds refusal nodes players)

-- so they are, or there is no start, and none is made
abbrev pub LiftsAutomaton : Description → List ℕ → Option Refusal → List Node → List Player → Type 0
LiftsAutomaton a controlled refusal nodes players =
    ((a.starts ≡ []) × (players ≡ [])) ⊎ LiftsParted a controlled refusal nodes players

-- lifting found this winner of the rounds of the automaton within the budget, or there is no start
abbrev pub LiftingFinds : Description → List ℕ → ℕ → Player → Type 0
LiftingFinds a controlled budget winner =
    (a.starts ≡ []) ⊎ OfRounds a controlled (λ rounds. IsLiftedInRounds rounds budget winner)

-- so it found the winner of an answer
abbrev pub IsAnswerLifted : Description → List ℕ → ℕ → Realizability → Type 0
IsAnswerLifted a controlled budget found = LiftingFinds a controlled budget (winner_in found)
