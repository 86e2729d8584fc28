-- The drawing of a game or a part of it, alone or with a solution, with a lasso or with both.
use Rattle.std.specs.Prelude.{◌≡◌, ℕ, Bool, false, true, if◌then◌else◌}
use Rattle.std.specs.Prelude.{Option, Some, None, List, [], ◌++◌, codes}
use Rattle.omega_game_values.specs.Game.{Node, owner_at}
use Rattle.omega_game_values.specs.Winning.{choice_at}
use Rattle.omega_game_values.specs.declared.solution.Solution.{Solution}
use Rattle.omega_game_values.specs.Solution.{choices_of, winner_at}
use Rattle.omega_game_dot.specs.Extent.{AreDrawn}
use Rattle.omega_game_dot.specs.Legend.{legend_text}
use Rattle.omega_game_dot.specs.Nodes.{Look, node_text_if_drawn}
use Rattle.omega_game_dot.specs.Roles.{edge_role, node_role}
use Rattle.omega_game_dot.specs.declared.extent.Extent.{Extent}
use Rattle.omega_text.specs.Numbered.{numbered}

-- the legend, if there is one: of a drawing with a solution, and of one with a lasso
abbrev pub legend_part : (legend solved walked : Bool) → List ℕ
legend_part legend solved walked = if legend then legend_text solved walked else []

-- the drawing of the flagged nodes of a game, by the look of the node at each place, with this text at the end
abbrev pub game_drawing : List Node → List Bool → (ℕ → Look) → List ℕ → List ℕ
game_drawing nodes drawn look legend = codes "digraph game {\n"
    ++ (numbered (λ place node. node_text_if_drawn nodes drawn (look place) place node) 0 nodes
    ++ (legend ++ codes "}\n"))

-- the look of the node at a place with a lasso of a stem and a cycle, both of no places if there is none
abbrev pub walked_look : (stem cycle : List ℕ) → ℕ → Look
walked_look stem cycle place = record {
  winner = None;
  choice = None;
  role = node_role stem cycle place;
  edges = edge_role stem cycle place;
}

-- the choice of a node's owner at its place
abbrev pub choice_in : List Node → Solution → ℕ → Option ℕ
choice_in nodes solution place = choice_at (choices_of solution (owner_at nodes place)) place

-- and with a solution
abbrev pub solved_look : List Node → Solution → (stem cycle : List ℕ) → ℕ → Look
solved_look nodes solution stem cycle place = record (walked_look stem cycle place) {
  winner = Some (winner_at solution place);
  choice = choice_in nodes solution place;
}

-- the text is the drawing of the extent of a game, by the look of the node at each place, with this text at the end
pub record IsDrawing (nodes : List Node) (extent : Extent) (look : ℕ → Look)
    (legend text : List ℕ) : Type 0 where
  pub drawn : List Bool
  pub are_drawn : AreDrawn nodes extent drawn
  pub written : text ≡ game_drawing nodes drawn look legend

-- the text is the drawing of a game or a part of it
abbrev pub IsGameDrawing : List Node → Extent → List ℕ → Type 0
IsGameDrawing nodes extent text = IsDrawing nodes extent (walked_look [] []) [] text

-- the text is the drawing of a game or a part of it, with a solution
abbrev pub IsSolutionDrawing : List Node → Extent → Solution → Bool → List ℕ → Type 0
IsSolutionDrawing nodes extent solution legend text =
    IsDrawing nodes extent (solved_look nodes solution [] []) (legend_part legend true false) text

-- the text is the drawing of a game or a part of it, with a lasso
abbrev pub IsWalkDrawing : List Node → Extent → (stem cycle : List ℕ) → Bool → List ℕ → Type 0
IsWalkDrawing nodes extent stem cycle legend text =
    IsDrawing nodes extent (walked_look stem cycle) (legend_part legend false true) text

-- the text is the drawing of a game or a part of it, with a solution and a lasso
abbrev pub IsSolutionWalkDrawing : List Node → Extent → Solution → (stem cycle : List ℕ)
    → Bool → List ℕ → Type 0
IsSolutionWalkDrawing nodes extent solution stem cycle legend text =
    IsDrawing nodes extent (solved_look nodes solution stem cycle) (legend_part legend true true) text
