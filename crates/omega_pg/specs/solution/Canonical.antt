-- The written form of a solution: the header, and a line for each node in rising order.
use Rattle.std.specs.Prelude.{ℕ, Option, Some, None, List, [], ◌++◌, codes, decimal}
use Rattle.std.specs.List.{flat_map}
use Rattle.omega_game_values.specs.Game.{Node}
use Rattle.omega_game_values.specs.Player.{player_number}
use Rattle.omega_pg.specs.solution.Grammar.{SolutionLine, RawSolution}
use Rattle.omega_pg.specs.solution.Text.{raw_solution}
use Rattle.omega_game_values.specs.declared.solution.Solution.{Solution}

-- a space and the identifier, if there is one
abbrev pub choice_part : Option ℕ → List ℕ
choice_part None = []
choice_part (Some id) = codes " " ++ decimal id

-- identifier and winner, and a successor if there is one, with single spaces between them, then `;` and a line feed
abbrev pub solution_line : SolutionLine → List ℕ
solution_line line = decimal line.identifier ++ (codes " "
    ++ (decimal (player_number line.winner) ++ (choice_part line.successor ++ codes ";\n")))

-- the written form of what is written: `paritysol`, a space, the number and `;`, then the lines
abbrev pub written_solution : RawSolution → List ℕ
written_solution raw =
    codes "paritysol " ++ (decimal raw.greatest ++ (codes ";\n" ++ flat_map solution_line raw.lines))

-- the text of a solution of a game
abbrev pub solution_text : List Node → Solution → List ℕ
solution_text nodes solution = written_solution (raw_solution nodes solution)
