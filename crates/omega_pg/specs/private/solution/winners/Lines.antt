-- How the lines of a solution text are kept by their winners.
use Rattle.std.specs.Prelude.{◌≡◌, ℕ, ◌<◌, Bool, true, false, List, ◌++◌, length}
use Rattle.omega_game_values.specs.Game.{Node, identifier_at, identifiers}
use Rattle.omega_game_values.specs.declared.player.Player.{Player}
use Rattle.omega_pg.specs.solution.Grammar.{SolutionLine}
use Rattle.omega_pg.specs.solution.Winners.{identifiers_of, winners_of}
use Rattle.omega_pg.specs.declared.solution.winner_lines.WinnerLines.{WinnerLines}

-- there is a node at the place, and it has the identifier
abbrev pub IsNext : List Node → ℕ → ℕ → Type 0
IsNext nodes place id = (place < length nodes) × (identifier_at nodes place ≡ id)

-- the lines name the first nodes of the game in rising order
abbrev pub NameFirst : List Node → List SolutionLine → Type 0
NameFirst nodes lines = (rest : List ℕ) × (identifiers_of lines ++ rest ≡ identifiers nodes)

-- the winners of the lines are kept, as long as these name the first nodes of the game
abbrev pub AreKept : List Node → List SolutionLine → Bool → List Player → Type 0
AreKept nodes lines true winners = (winners ≡ winners_of lines) × NameFirst nodes lines
AreKept nodes lines false winners = NameFirst nodes lines → ⊥

-- the lines so far are kept by their winners
abbrev pub KeepsWinners : List Node → List SolutionLine → WinnerLines → Type 0
KeepsWinners nodes lines kept = AreKept nodes lines kept.good kept.winners.items
