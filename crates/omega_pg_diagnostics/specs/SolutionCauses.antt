-- The line that says why a solution text is none of a game: what is at fault first in the order of the text.
use Rattle.std.specs.Prelude.{ℕ, ◌==◌, ◌&&◌, nat_lt, Bool, true, false, ◌≡◌, ◌≤◌, Option, Some, None, List}
use Rattle.std.specs.Prelude.{[], ◌∷◌, ◌++◌, length, map, drop, position, codes, decimal, if◌then◌else◌}
use Rattle.std.specs.List.{enumerate_from, filter_map, list_any}
use Rattle.omega_pg_diagnostics.specs.GameCauses.{twice_line}
use Rattle.omega_game_values.specs.Game.{Node, greatest_identifier, identifier_at}
use Rattle.omega_game_values.specs.Game.{identifiers, owner_at, successors_at}
use Rattle.omega_game_values.specs.Player.{player_number}
use Rattle.omega_game_values.specs.declared.player.Player.{Player}
use Rattle.omega_pg.specs.solution.Grammar.{RawSolution, SolutionLine, solution_syntax}
use Rattle.omega_text.specs.Limits.{most_text}
use Rattle.omega_text.specs.Syntax.{IsTextOf}

-- the line about a header's number that is not the game's greatest identifier
abbrev pub greatest_line : ℕ → ℕ → List ℕ
greatest_line number greatest = codes "omega: the header has " ++ (decimal number
    ++ (codes ", and the greatest identifier is " ++ (decimal greatest ++ codes "\n")))

-- a line about a node, which ends so
abbrev pub node_line : ℕ → List ℕ → List ℕ
node_line id fault = codes "omega: node " ++ (decimal id ++ fault)

-- a node of the game whose line is missing
abbrev pub missing_line : ℕ → List ℕ
missing_line id = node_line id (codes " is missing\n")

-- a line for no node of the game
abbrev pub unknown_line : ℕ → List ℕ
unknown_line id = node_line id (codes " is not in the game\n")

-- a node whose owner wins it and has no choice
abbrev pub no_choice_line : ℕ → List ℕ
no_choice_line id = node_line id (codes ": no choice, and its owner wins\n")

-- a node with a choice whose owner does not win it
abbrev pub needless_line : ℕ → List ℕ
needless_line id = node_line id (codes ": a choice, and its owner does not win\n")

-- a node whose choice is none of its successors
abbrev pub wrong_choice_line : ℕ → ℕ → List ℕ
wrong_choice_line id choice = codes "omega: node "
    ++ (decimal id ++ (codes ": choice " ++ (decimal choice ++ codes " is no successor\n")))

-- what is at fault in the identifier of a line that is not that of the node at the line's place v. Either the game has
-- no such node, or its place is before v, so it comes twice, or it is after v, and the node at v is missing.
abbrev pub identifier_fault : List Node → ℕ → ℕ → Option ℕ → List ℕ
identifier_fault nodes v id None = unknown_line id
identifier_fault nodes v id (Some w) =
    if nat_lt w v then twice_line id else missing_line (identifier_at nodes v)

-- some successor of the node at a place has this identifier
abbrev pub may_choose : List Node → ℕ → ℕ → Bool
may_choose nodes v choice = list_any (λ w. identifier_at nodes w == choice) (successors_at nodes v)

-- what is at fault in the choice of the node at a place, if its owner wins it or not
abbrev pub choice_fault : List Node → ℕ → Bool → Option ℕ → Option (List ℕ)
choice_fault nodes v true None = Some (no_choice_line (identifier_at nodes v))
choice_fault nodes v true (Some choice) = if may_choose nodes v choice then None
    else Some (wrong_choice_line (identifier_at nodes v) choice)
choice_fault nodes v false None = None
choice_fault nodes v false (Some choice) = Some (needless_line (identifier_at nodes v))

-- whether the owner of the node at a place is the winner
abbrev pub owner_wins : List Node → ℕ → Player → Bool
owner_wins nodes v winner = player_number (owner_at nodes v) == player_number winner

-- a node is at this place, and this is its identifier
abbrev pub is_of : List Node → ℕ → ℕ → Bool
is_of nodes v id = nat_lt v (length nodes) && (identifier_at nodes v == id)

-- what is at fault in the line at a place: its identifier, or else its choice
abbrev pub line_fault : List Node → ℕ → SolutionLine → Option (List ℕ)
line_fault nodes v line = if is_of nodes v line.identifier then choice_fault nodes v
    (owner_wins nodes v line.winner) line.successor
    else Some (identifier_fault nodes v line.identifier
    (position (λ id. id == line.identifier) (identifiers nodes)))

-- what is at fault in the header
abbrev pub header_faults : List Node → ℕ → List (List ℕ)
header_faults nodes number = if number == greatest_identifier nodes then []
    else greatest_line number (greatest_identifier nodes) ∷ []

-- what is at fault in lines, of which the first is at this place
abbrev pub line_faults : List Node → ℕ → List SolutionLine → List (List ℕ)
line_faults nodes place lines =
    filter_map (λ entry. line_fault nodes entry.0 entry.1) (enumerate_from place lines)

-- the nodes behind the last of so many lines, which are missing
abbrev pub missing_nodes : List Node → ℕ → List (List ℕ)
missing_nodes nodes count = map missing_line (drop count (identifiers nodes))

-- all that is at fault in what is written, in the order of the text
abbrev pub faults_in : List Node → RawSolution → List (List ℕ)
faults_in nodes raw = header_faults nodes raw.greatest
    ++ (line_faults nodes 0 raw.lines ++ missing_nodes nodes (length raw.lines))

-- the first of these lines, or no line
abbrev pub first_of : List (List ℕ) → List ℕ
first_of [] = []
first_of (line ∷ lines) = line

-- the bytes are a text of the grammar, within the limit
pub record WritesSolution (text : List ℕ) : Type 0 where
  pub short : length text ≤ most_text
  pub raw : RawSolution
  pub writes : IsTextOf solution_syntax text raw

-- the line for a text: what is at fault first in what is written, or no line if the bytes are no text of the grammar
pub record IsSolutionCause (nodes : List Node) (text line : List ℕ) : Type 0 where
  pub written : (raw : RawSolution) → length text ≤ most_text → IsTextOf solution_syntax text raw
      → line ≡ first_of (faults_in nodes raw)
  pub unwritten : (WritesSolution text → ⊥) → line ≡ []
