-- Laws of the winners that solution texts give, whatever reads them.
use Rattle.std.specs.Prelude.{◌≡◌, ◌⊎◌, ℕ, List}
use Rattle.omega_text.specs.declared.refusal.Refusal.{Refusal}
use Rattle.omega_game_values.specs.Game.{Node}
use Rattle.omega_game_values.specs.declared.player.Player.{Player}
use Rattle.omega_game_values.specs.declared.solution.Solution.{Solution}
use Rattle.omega_pg.specs.solution.Text.{IsSolutionText}
use Rattle.omega_pg.specs.solution.Winners.{IsWinnersRefusal, IsWinnersText}

-- a text gives the nodes of a game at most one list of winners
abbrev pub WinnersOfTextsAreOne : Type 0
WinnersOfTextsAreOne =
    (nodes : List Node) (source : List ℕ) (one other : List Player)
    → IsWinnersText nodes source one → IsWinnersText nodes source other → one ≡ other

-- a text has at most one refusal as a text of the winners of a game
abbrev pub WinnerRefusalsAreOne : Type 0
WinnerRefusalsAreOne =
    (nodes : List Node) (source : List ℕ) (one other : Refusal)
    → IsWinnersRefusal nodes source one → IsWinnersRefusal nodes source other → one ≡ other

-- a text that gives winners has no refusal
abbrev pub WinnersAreNotRefused : Type 0
WinnersAreNotRefused =
    (nodes : List Node) (source : List ℕ) (winners : List Player) (refusal : Refusal)
    → IsWinnersText nodes source winners → IsWinnersRefusal nodes source refusal → ⊥

-- a text gives winners or has a refusal
abbrev pub WinnerTextsAreReadOrRefused : Type 0
WinnerTextsAreReadOrRefused =
    (nodes : List Node) (source : List ℕ)
    → ((winners : List Player) × IsWinnersText nodes source winners)
    ⊎ ((refusal : Refusal) × IsWinnersRefusal nodes source refusal)

-- a text that describes a solution gives the winners of that solution
abbrev pub SolutionsGiveTheirWinners : Type 0
SolutionsGiveTheirWinners =
    (nodes : List Node) (source : List ℕ) (solution : Solution)
    → IsSolutionText nodes source solution → IsWinnersText nodes source solution.winners
