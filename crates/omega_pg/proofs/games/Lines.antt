-- The lines of a game's nodes, written one after the other.
use Rattle.std.proofs.Common.{◌≡◌, ℕ, ◌+◌, ◌<◌, ◌≤◌, List, [], ◌∷◌, ◌++◌, length, map, take, sym, ap, ◌∙◌}
use Rattle.std.specs.List.{flat_map}
use Rattle.std.proofs.lemmas.List.{flat_map_more, map-append, take_all, take_more}
use Rattle.omega_game_values.specs.Building.{specified}
use Rattle.omega_game_values.specs.Game.{Node, greatest_identifier, no_node, node_at}
use Rattle.omega_pg.specs.game.Canonical.{canonical_game, header_line, node_line}

-- one line more is written after the others
pub lines_more : (nodes : List Node) (k : ℕ) (front before after : List ℕ) → k < length nodes
    → before ≡ front ++ flat_map node_line (map (specified nodes) (take k nodes)) → after ≡ before ++ node_line (specified nodes (node_at nodes k))
    → after ≡ front ++ flat_map node_line (map (specified nodes) (take (k + 1) nodes))
lines_more nodes k front before after within e h =
    h ∙ ap (λ list. list ++ node_line (specified nodes (node_at nodes k))) e
    ∙ flat_map_more node_line front (map (specified nodes) (take k nodes)) (specified nodes (node_at nodes k))
    ∙ ap (λ list. front ++ flat_map node_line list) (sym (map-append (specified nodes) (take k nodes) (node_at nodes k ∷ [])))
    ∙ ap (λ list. front ++ flat_map node_line (map (specified nodes) list)) (sym (take_more nodes k no_node within))

-- after the header the lines of all nodes are the text
pub all_lines : (nodes : List Node) (k : ℕ) (out : List ℕ) → length nodes ≤ k
    → out ≡ header_line (greatest_identifier nodes) ++ flat_map node_line (map (specified nodes) (take k nodes)) → out ≡ canonical_game nodes
all_lines nodes k out all written =
    written ∙ ap (λ list. header_line (greatest_identifier nodes) ++ flat_map node_line (map (specified nodes) list)) (take_all k nodes all)
