-- Choices and lines of solutions.
use Rattle.std.proofs.Common.{◌≡◌, ℕ, zero, suc, ◌+◌, ◌<◌, Option, Some, None, IfSome, List, [], ◌∷◌, ◌++◌, length, map, refl, ap, sym, ◌∙◌, arith}
use Rattle.std.specs.Prelude.{codes, decimal}
use Rattle.omega_game_values.specs.Game.{greatest_identifier, IsGame, Node}
use Rattle.std.specs.List.{flat_map, range_with_len}
use Rattle.std.proofs.lemmas.List.{append_assoc, flat_map_more}
use Rattle.std.proofs.lemmas.List.FromFn.{map-range_with_len_more}
use Rattle.omega_game_values.specs.Winning.{Chooses, IsStrategy, choice_at}
use Rattle.omega_game_values.specs.declared.player.Player.{Player}
use Rattle.omega_pg.specs.solution.Grammar.{SolutionLine}
use Rattle.omega_pg.specs.solution.Canonical.{solution_line, solution_text}
use Rattle.omega_pg.specs.solution.Text.{line_at}
use Rattle.omega_game_values.specs.declared.solution.Solution.{Solution}

-- a choice that is at a place is chosen there
pub Chooses-from_choice : (choices : List (Option ℕ)) (v w : ℕ) → choice_at choices v ≡ Some w → Chooses choices v w
Chooses-from_choice [] v w e = absurd (let clash : ◌≡◌ {A = Option ℕ} None (Some w) = e in cc)
Chooses-from_choice (c ∷ choices) zero w e = ap (λ o. Some o) e
Chooses-from_choice (c ∷ choices) (suc v) w e = Chooses-from_choice choices v w e

-- a chosen place is a place
pub chosen_inside : (nodes : List Node) (player : Player) (choices : List (Option ℕ)) (v : ℕ) → IsGame nodes → IsStrategy nodes player choices
    → IfSome (choice_at choices v) (λ w. w < length nodes)
chosen_inside nodes player choices v game strategy =
    elim (choice_at choices v) as (λ o. choice_at choices v ≡ o → IfSome o (λ w. w < length nodes))
    [ None ↦ λ e. tt | Some w ↦ λ e. game.closed v w (strategy.listed v w (Chooses-from_choice choices v w e)) ]
    refl

-- one line more is written after the others
pub lines_more : (f : ℕ → SolutionLine) (k : ℕ) (front before after : List ℕ)
    → before ≡ front ++ flat_map solution_line (map f (range_with_len 0 k)) → after ≡ before ++ solution_line (f k)
    → after ≡ front ++ flat_map solution_line (map f (range_with_len 0 (k + 1)))
lines_more f k front before after e h =
    h ∙ ap (λ list. list ++ solution_line (f k)) e
    ∙ flat_map_more solution_line front (map f (range_with_len 0 k)) (f k)
    ∙ ap (λ list. front ++ flat_map solution_line list) (sym (map-range_with_len_more f 0 k k (omega arith)))

-- what is written before the lines
abbrev pub solution_front : List Node → List ℕ
solution_front nodes = codes "paritysol " ++ (decimal (greatest_identifier nodes) ++ codes ";\n")

-- after it the lines of all places are the text
pub text_written : (nodes : List Node) (solution : Solution) (k : ℕ) (out : List ℕ) → k ≡ length nodes
    → out ≡ solution_front nodes ++ flat_map solution_line (map (line_at nodes solution) (range_with_len 0 k))
    → out ≡ solution_text nodes solution
text_written nodes solution k out all written =
    let lines : List ℕ = flat_map solution_line (map (line_at nodes solution) (range_with_len 0 (length nodes))) in
    written
    ∙ ap (λ n. solution_front nodes ++ flat_map solution_line (map (line_at nodes solution) (range_with_len 0 n))) all
    ∙ ap (λ list. codes "paritysol " ++ list) (append_assoc (decimal (greatest_identifier nodes)) (codes ";\n") lines)
