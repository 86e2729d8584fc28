-- Whether an automaton is realizable, with a controller or a counter-strategy.
use Rattle.std.specs.Prelude.{◌≡◌, List, ℕ, length}
use Rattle.std.specs.List.Sorted.{IsStrictlyIncreasing}
use Rattle.omega_hoa_automaton.specs.Automaton.{Description}
use Rattle.omega_synth_controllers.specs.Controllers.{AreEdgesMet, IsController, IsCounterStrategy}
use Rattle.omega_synth_game.specs.RoundsOf.{AreLeastLetters, letters_by_state}
use Rattle.omega_game_values.specs.declared.player.Player.{Player}
use Rattle.omega_game_values.specs.declared.player.Player.TheVariants.{One, Zero}
use Rattle.omega_synth_realize.specs.declared.realizability.Realizability.{Realizability}
use Rattle.omega_synth_realize.specs.declared.realizability.Realizability.TheVariants.{Realizable}
use Rattle.omega_synth_realize.specs.declared.realizability.Realizability.TheVariants.{Unrealizable}

-- the answer is right: its edges are a controller, or with its letters, one for each state, a counter-strategy, each
-- letter the first of those that the same edges answer. The edges are listed in rising order, each once, and leave
-- states that are met
abbrev pub IsRealizability : Description → List ℕ → Realizability → Type 0
IsRealizability a controlled (Realizable kept) =
    IsController a controlled kept × IsStrictlyIncreasing kept × AreEdgesMet a kept
IsRealizability a controlled (Unrealizable kept letters) =
    IsCounterStrategy a controlled kept (letters_by_state letters) × IsStrictlyIncreasing kept
    × AreLeastLetters a controlled kept letters × (length letters ≡ a.states) × AreEdgesMet a kept

-- the winner of an answer: player 0 is the system, and player 1 the environment
abbrev pub winner_in : Realizability → Player
winner_in (Realizable kept) = Zero
winner_in (Unrealizable kept letters) = One
