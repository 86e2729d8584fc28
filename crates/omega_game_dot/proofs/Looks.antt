-- The look of nodes by the marks of a lasso, and the drawing by them.
use Rattle.std.proofs.Common.{◌≡◌, ℕ, Bool, None, Some, List, ◌++◌, codes, ap, ◌∙◌, append_assoc}
use Rattle.omega_text.specs.Numbered.{numbered}
use Rattle.omega_game_values.specs.Game.{Node}
use Rattle.omega_game_values.specs.declared.solution.Solution.{Solution}
use Rattle.omega_game_values.specs.Solution.{winner_at}
use Rattle.omega_game_dot.specs.GameDrawing.{choice_in, game_drawing, solved_look, walked_look}
use Rattle.omega_game_dot.specs.Nodes.{Look, node_text_if_drawn}
use Rattle.omega_game_dot.specs.declared.marks.LassoMarks.{LassoMarks}
use Rattle.omega_game_dot.specs.private.Looks.{look_in, unsolved_look}
use Rattle.omega_game_dot.specs.private.Marking.{AreMarksOf}

-- the look of each node without a solution is that of the lasso
pub unsolved_looks : (stem cycle : List ℕ) (marks : LassoMarks) → AreMarksOf stem cycle marks → unsolved_look marks ≡ walked_look stem cycle
unsolved_looks stem cycle marks are = λ i place. record {
  winner = None;
  choice = None;
  role = are.node place i;
  edges = λ w. are.edge place w i;
}

-- and with a solution
pub solved_looks : (nodes : List Node) (solution : Solution) (stem cycle : List ℕ) (marks : LassoMarks) → AreMarksOf stem cycle marks
    → look_in nodes solution marks ≡ solved_look nodes solution stem cycle
solved_looks nodes solution stem cycle marks are = λ i place. record {
  winner = Some (winner_at solution place);
  choice = choice_in nodes solution place;
  role = are.node place i;
  edges = λ w. are.edge place w i;
}

-- the parts of a drawing, one after the other
pub drawn_text : (nodes : List Node) (drawn : List Bool) (look : ℕ → Look) (legend begun listed ended text : List ℕ)
    → begun ≡ codes "digraph game {\n"
    → listed ≡ begun ++ numbered (λ place node. node_text_if_drawn nodes drawn (look place) place node) 0 nodes
    → ended ≡ listed ++ legend → text ≡ ended ++ codes "}\n" → text ≡ game_drawing nodes drawn look legend
drawn_text nodes drawn look legend begun listed ended text begins lists ends is =
    let rows = numbered (λ place node. node_text_if_drawn nodes drawn (look place) place node) 0 nodes in
    is ∙ ap (λ (list : List ℕ). list ++ codes "}\n") (ends ∙ ap (λ (list : List ℕ). list ++ legend) (lists ∙ ap (λ (list : List ℕ). list ++ rows) begins))
    ∙ append_assoc (codes "digraph game {\n" ++ rows) legend (codes "}\n")
    ∙ append_assoc (codes "digraph game {\n") rows (legend ++ codes "}\n")

-- the same drawing, by other flags and looks that are the same
pub same_drawing : (nodes : List Node) (one other : List Bool) (look same : ℕ → Look) (legend text : List ℕ) → one ≡ other → look ≡ same
    → text ≡ game_drawing nodes one look legend → text ≡ game_drawing nodes other same legend
same_drawing nodes one other look same legend text flags looks is =
    is ∙ ap (λ (drawn : List Bool). game_drawing nodes drawn look legend) flags ∙ ap (λ (of : ℕ → Look). game_drawing nodes other of legend) looks
