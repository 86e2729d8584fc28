-- The game in which it is decided whether an automaton is realizable, and the refusal of it.
use Rattle.std.specs.Prelude.{◌≡◌, ◌⊎◌, ℕ, List, []}
use Rattle.omega_text.specs.Cases.{never, or_game, or_memory, or_task}
use Rattle.omega_text.specs.declared.refusal.Refusal.{Refusal}
use Rattle.omega_hoa_automaton.specs.Automaton.{Description}
use Rattle.omega_game_values.specs.Game.{Node}
use Rattle.omega_game_reaching.specs.Part.{IsPart}
use Rattle.omega_synth_rounds.specs.Naming.{IsNamedGame}
use Rattle.omega_synth_rounds.specs.Rounds.{IsRounds}
use Rattle.omega_synth_rounds.specs.declared.rounds.Rounds.{Rounds}
use Rattle.omega_synth_game.specs.Laws.{IsParted}
use Rattle.omega_synth_realize.specs.Refusing.{IsLargeFault, IsPartingFault}

-- rounds without states
abbrev pub no_rounds : Rounds
no_rounds = record { states = []; edges = []; questions = [] }

-- the game is that of rounds of the automaton, with names, as far as it is reached from the node of the start
pub record IsPartedGame (a : Description) (controlled : List ℕ) (game : List Node) : Type 0 where
  pub rounds : Rounds
  pub letters : List (List ℕ)
  pub start : ℕ
  pub parted : IsParted a controlled rounds letters start
  pub rounds_kept : IsRounds rounds
  pub whole : List Node
  pub named : IsNamedGame rounds whole
  pub part : IsPart whole start game

-- so it is, or there is no start, and the game has the sink alone
abbrev pub IsRealizabilityGame : Description → List ℕ → List Node → Type 0
IsRealizabilityGame a controlled game =
    ((a.starts ≡ []) × IsNamedGame no_rounds game) ⊎ IsPartedGame a controlled game

-- the refusal of the game: it is too large, there are no rounds, or want of memory
abbrev pub IsRealizabilityGameRefusal : Description → List ℕ → Refusal → Type 0
IsRealizabilityGameRefusal a controlled = or_game (IsLargeFault a controlled)
    (or_task (IsPartingFault a controlled) (or_memory never))
