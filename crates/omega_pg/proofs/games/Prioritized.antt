-- The written lines of a game with other priorities.
use Rattle.std.proofs.Common.{◌≡◌, ℕ, ◌+◌, ◌<◌, List, [], ◌∷◌, ◌++◌, Option, length, map, inl, inr, refl, ap, sym, ◌∙◌, arith}
use Rattle.std.specs.Prelude.{slice_index, ◌-◌}
use Rattle.std.specs.List.{flat_map, range_with_len}
use Rattle.std.proofs.lemmas.Bool.{cases_lt}
use Rattle.std.proofs.lemmas.List.{flat_map_more, get_or_past, get_or-map, length-map}
use Rattle.std.proofs.lemmas.List.FromFn.{fill_by_all, get_or-map-range_with_len, length-map-range_with_len, map-range_with_len_more}
use Rattle.omega_game_values.specs.Building.{specified}
use Rattle.omega_game_values.specs.Game.{Node, greatest_identifier, identifier_at, no_node, node_at}
use Rattle.omega_game_values.specs.declared.node_spec.NodeSpec.{NodeSpec}
use Rattle.omega_game_values.specs.declared.player.Player.{Player}
use Rattle.omega_pg.specs.game.Canonical.{canonical_game, header_line, node_line}
use Rattle.omega_pg.specs.game.Priorities.{with_priorities, with_priority}

-- a function that gives the same everywhere maps to the same
map_alike : (f g : ℕ → ℕ) → ((n : ℕ) → f n ≡ g n) → (ns : List ℕ) → map f ns ≡ map g ns
map_alike f g same [] = refl
map_alike f g same (n ∷ ns) = ap (λ m. m ∷ map f ns) (same n) ∙ ap (λ ms. g n ∷ ms) (map_alike f g same ns)

-- a specification with the parts of another is that specification
spec_alike : (id priority : ℕ) (owner : Player) (successors others : List ℕ) (name : Option (List ℕ)) → successors ≡ others
    → ◌≡◌ {A = NodeSpec} (record { id = id; priority = priority; owner = owner; successors = successors; name = name })
    (record { id = id; priority = priority; owner = owner; successors = others; name = name })
spec_alike id priority owner successors others name e = cc

-- one line more is written after the others
pub nodes_more : (f : ℕ → NodeSpec) (k : ℕ) (front before after : List ℕ)
    → before ≡ front ++ flat_map node_line (map f (range_with_len 0 k)) → after ≡ before ++ node_line (f k)
    → after ≡ front ++ flat_map node_line (map f (range_with_len 0 (k + 1)))
nodes_more f k front before after e h =
    h ∙ ap (λ list. list ++ node_line (f k)) e
    ∙ flat_map_more node_line front (map f (range_with_len 0 k)) (f k)
    ∙ ap (λ list. front ++ flat_map node_line list) (sym (map-range_with_len_more f 0 k k (omega arith)))

-- the specification of the node at a place, with its new priority
abbrev pub prioritized : List Node → List ℕ → ℕ → NodeSpec
prioritized nodes priorities v = with_priority (slice_index priorities v) (specified nodes (node_at nodes v))

module _ (nodes : List Node) (priorities : List ℕ) where
  -- the node at a place with its new priority
  abbrev renewed : ℕ → Node
  renewed v = record (node_at nodes v) { priority = slice_index priorities v }

  node-renewed : (v : ℕ) → v < length nodes → node_at (with_priorities nodes priorities) v ≡ renewed v
  node-renewed v h = get_or-map-range_with_len renewed 0 (length nodes) v v no_node h (omega arith)

  count-renewed : length (with_priorities nodes priorities) ≡ length nodes
  count-renewed = length-map-range_with_len renewed 0 (length nodes)

  -- the identifiers are as they were
  identifier-kept : (v : ℕ) → identifier_at (with_priorities nodes priorities) v ≡ identifier_at nodes v
  identifier-kept v =
      elim (cases_lt v (length nodes)) as (λ _. identifier_at (with_priorities nodes priorities) v ≡ identifier_at nodes v) [
        | inl inside ↦ ap (λ (node : Node). node.identifier) (node-renewed v inside)
        | inr past ↦ ap (λ (node : Node). node.identifier)
            (get_or_past (with_priorities nodes priorities) v no_node (omega (arith, count-renewed, past)) ∙ sym (get_or_past nodes v no_node past))
      ]

  -- and so are the specifications, but for the priorities
  spec-renewed : (v : ℕ) → specified (with_priorities nodes priorities) (renewed v) ≡ prioritized nodes priorities v
  spec-renewed v =
      spec_alike (node_at nodes v).identifier (slice_index priorities v) (node_at nodes v).owner
      (map (identifier_at (with_priorities nodes priorities)) (node_at nodes v).successors)
      (map (identifier_at nodes) (node_at nodes v).successors) (node_at nodes v).name
      (map_alike (identifier_at (with_priorities nodes priorities)) (identifier_at nodes) identifier-kept (node_at nodes v).successors)

  specs-renewed : map (specified (with_priorities nodes priorities)) (with_priorities nodes priorities)
      ≡ map (prioritized nodes priorities) (range_with_len 0 (length nodes))
  specs-renewed =
      fill_by_all (prioritized nodes priorities) (map (specified (with_priorities nodes priorities)) (with_priorities nodes priorities)) (length nodes)
      (specified nodes no_node)
      (length-map (with_priorities nodes priorities) (specified (with_priorities nodes priorities)) ∙ count-renewed)
      (λ v h. get_or-map (specified (with_priorities nodes priorities)) (with_priorities nodes priorities) v no_node (specified nodes no_node)
      (omega (arith, h, count-renewed))
      ∙ ap (specified (with_priorities nodes priorities)) (node-renewed v h) ∙ spec-renewed v)

  greatest-kept : greatest_identifier (with_priorities nodes priorities) ≡ greatest_identifier nodes
  greatest-kept = ap (λ n. identifier_at (with_priorities nodes priorities) (n - 1)) count-renewed ∙ identifier-kept (length nodes - 1)

  -- after the header the lines of all places are the text
  pub all_written : (k : ℕ) (out : List ℕ) → k ≡ length nodes
      → out ≡ header_line (greatest_identifier nodes) ++ flat_map node_line (map (prioritized nodes priorities) (range_with_len 0 k))
      → out ≡ canonical_game (with_priorities nodes priorities)
  all_written k out all written =
      written
      ∙ ap (λ n. header_line (greatest_identifier nodes) ++ flat_map node_line (map (prioritized nodes priorities) (range_with_len 0 n))) all
      ∙ ap (λ list. header_line (greatest_identifier nodes) ++ flat_map node_line list) (sym specs-renewed)
      ∙ ap (λ n. header_line n ++ flat_map node_line (map (specified (with_priorities nodes priorities)) (with_priorities nodes priorities))) (sym greatest-kept)
