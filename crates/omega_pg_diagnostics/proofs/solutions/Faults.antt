-- The first fault of lines, and of the nodes behind them.
use Rattle.std.proofs.Common.{◌≡◌, ℕ, ◌+◌, ◌<◌, ◌≤◌, Option, Some, None, List, [], ◌∷◌, ◌++◌, length, map, drop, get_or, ap, sym, subst, ◌∙◌, arith, if◌then◌else◌}
use Rattle.std.proofs.lemmas.Bool.{le-ltb}
use Rattle.std.proofs.lemmas.List.{drop_all, drop_more, get_or-map, length-map}
use Rattle.std.proofs.lemmas.List.Quantifiers.{position-Some}
use Rattle.std.specs.List.{cons_option}
use Rattle.std.specs.Prelude.{◌==◌, position}
use Rattle.omega_pg_diagnostics.specs.GameCauses.{twice_line}
use Rattle.omega_pg_diagnostics.specs.SolutionCauses.{first_of, identifier_fault, line_fault, line_faults, missing_line, missing_nodes}
use Rattle.omega_pg_diagnostics.specs.private.WrittenSolution.{as_written}
use Rattle.omega_pg_diagnostics.specs.declared.written_solution.WrittenLine.{WrittenLine}
use Rattle.omega_game_values.specs.Game.{Node, identifier_at, identifiers, no_node}

-- the faults from a place on are that of its line and those behind it
split_at : (nodes : List Node) (lines : List WrittenLine) (place : ℕ) (d : WrittenLine) (rest : List (List ℕ)) (fault : Option (List ℕ)) → place < length lines
    → fault ≡ line_fault nodes place (as_written (get_or lines place d))
    → first_of (line_faults nodes place (drop place (map as_written lines)) ++ rest)
    ≡ first_of (cons_option fault (line_faults nodes (place + 1) (drop (place + 1) (map as_written lines))) ++ rest)
split_at nodes lines place d rest fault below judged =
    let inside : place < length (map as_written lines) = subst (λ n. place < n) (sym (length-map lines as_written)) below in
    ap (λ list. first_of (line_faults nodes place list ++ rest))
    (drop_more (map as_written lines) place (as_written d) inside
    ∙ ap (λ line. line ∷ drop (place + 1) (map as_written lines)) (get_or-map as_written lines place d (as_written d) below))
    ∙ ap (λ option. first_of (cons_option option (line_faults nodes (place + 1) (drop (place + 1) (map as_written lines))) ++ rest)) (sym judged)

-- a line with a fault is the first
pub fault_there : (nodes : List Node) (lines : List WrittenLine) (place : ℕ) (d : WrittenLine) (rest : List (List ℕ)) (fault whole : List ℕ) → place < length lines
    → Some fault ≡ line_fault nodes place (as_written (get_or lines place d))
    → first_of (line_faults nodes place (drop place (map as_written lines)) ++ rest) ≡ whole → fault ≡ whole
fault_there nodes lines place d rest fault whole below judged so_far =
    sym (split_at nodes lines place d rest (Some fault) below judged) ∙ so_far

-- a line without one is passed
pub absent : (nodes : List Node) (lines : List WrittenLine) (place : ℕ) (d : WrittenLine) (rest : List (List ℕ)) (whole : List ℕ) → place < length lines
    → None ≡ line_fault nodes place (as_written (get_or lines place d))
    → first_of (line_faults nodes place (drop place (map as_written lines)) ++ rest) ≡ whole
    → first_of (line_faults nodes (place + 1) (drop (place + 1) (map as_written lines)) ++ rest) ≡ whole
absent nodes lines place d rest whole below judged so_far =
    sym (split_at nodes lines place d rest None below judged) ∙ so_far

-- behind the last line the missing nodes are left
pub none_left : (nodes : List Node) (lines : List WrittenLine) (place : ℕ) (rest : List (List ℕ)) (whole : List ℕ) → length lines ≤ place
    → first_of (line_faults nodes place (drop place (map as_written lines)) ++ rest) ≡ whole → first_of rest ≡ whole
none_left nodes lines place rest whole past so_far =
    let beyond : length (map as_written lines) ≤ place = subst (λ n. n ≤ place) (sym (length-map lines as_written)) past in
    sym (ap (λ list. first_of (line_faults nodes place list ++ rest)) (drop_all place (map as_written lines) beyond)) ∙ so_far

-- the node at a place is the first missing one from there on
pub missing : (nodes : List Node) (place : ℕ) → place < length nodes
    → missing_line (identifier_at nodes place) ≡ first_of (missing_nodes nodes place)
missing nodes place below =
    let inside : place < length (identifiers nodes) = subst (λ n. place < n) (sym (length-map nodes (λ (node : Node). node.identifier))) below in
    sym (ap (λ list. first_of (map missing_line list))
    (drop_more (identifiers nodes) place 0 inside
    ∙ ap (λ id. id ∷ drop (place + 1) (identifiers nodes)) (get_or-map (λ (node : Node). node.identifier) nodes place no_node 0 below)))

-- behind the last node none is missing
pub all_there : (nodes : List Node) (place : ℕ) → length nodes ≤ place → [] ≡ first_of (missing_nodes nodes place)
all_there nodes place past =
    let beyond : length (identifiers nodes) ≤ place = subst (λ n. n ≤ place) (sym (length-map nodes (λ (node : Node). node.identifier))) past in
    sym (ap (λ list. first_of (map missing_line list)) (drop_all place (identifiers nodes) beyond))

-- the place of an identifier is that of a node
pub place_is_inside : (nodes : List Node) (id place : ℕ) → position (λ other. other == id) (identifiers nodes) ≡ Some place → place < length nodes
place_is_inside nodes id place found =
    subst (λ n. place < n) (length-map nodes (λ (node : Node). node.identifier)) (position-Some (λ other. other == id) (identifiers nodes) place 0 found).0

-- the node at a place is missing if the line there is that of a later node, or of this one
pub missing_is_fault : (nodes : List Node) (place id other : ℕ) → place ≤ other → position (λ node. node == id) (identifiers nodes) ≡ Some other
    → first_of (missing_nodes nodes place) ≡ identifier_fault nodes place id (position (λ node. node == id) (identifiers nodes))
missing_is_fault nodes place id other behind found =
    let inside : place < length nodes = omega (arith, place_is_inside nodes id other found) in
    sym (missing nodes place inside)
    ∙ sym (ap (identifier_fault nodes place id) found
    ∙ ap (λ before. if before then twice_line id else missing_line (identifier_at nodes place)) (le-ltb other place behind))
