-- The line that says why a game text makes no game: the node or the successor at fault that is first in the text.
use Rattle.std.specs.Prelude.{◌≡◌, ℕ, ◌≤◌, Bool, true, not, nat_eq, nat_lt, ◌⊎◌, Option, Some}
use Rattle.std.specs.Prelude.{None, List, [], ◌∷◌, ◌++◌, length, map, option_map, codes, decimal}
use Rattle.std.specs.List.{IsDistinct, find, flat_map, list_any}
use Rattle.omega_game_values.specs.declared.node_spec.NodeSpec.{NodeSpec}
use Rattle.omega_pg.specs.game.Grammar.{RawGame, game_syntax}
use Rattle.omega_text.specs.Limits.{most_text}
use Rattle.omega_text.specs.Syntax.{IsTextOf}

-- the line about a node that comes twice
abbrev pub twice_line : ℕ → List ℕ
twice_line id = codes "omega: node " ++ (decimal id ++ codes " comes twice\n")

-- the line about a successor of a node that is no node
abbrev pub undefined_line : ℕ → ℕ → List ℕ
undefined_line id successor = codes "omega: node "
    ++ (decimal id ++ (codes ": successor " ++ (decimal successor ++ codes " is no node\n")))

-- the line about a header's number and a node above it
abbrev pub above_line : ℕ → ℕ → List ℕ
above_line number id = codes "omega: the header has "
    ++ (decimal number ++ (codes ", and there is a node " ++ (decimal id ++ codes "\n")))

-- the identifiers of specifications, in the order of the text
abbrev pub specified_ids : List NodeSpec → List ℕ
specified_ids specs = map (λ spec. spec.id) specs

-- each successor after the identifier of the node that lists it, in the order of the text
abbrev pub listed_pairs : List NodeSpec → List (ℕ × ℕ)
listed_pairs specs = flat_map (λ spec. map (λ successor. (spec.id, successor)) spec.successors) specs

-- a number is one of these
abbrev pub is_among : ℕ → List ℕ → Bool
is_among number numbers = list_any (nat_eq number) numbers

-- a number is the first in a list that came before: those before it differ from one another, and it is one of them
pub record IsFirstRepeat (numbers : List ℕ) (number : ℕ) : Type 0 where
  pub front : List ℕ
  pub rest : List ℕ
  pub split : numbers ≡ front ++ number ∷ rest
  pub different : IsDistinct nat_eq front
  pub again : is_among number front ≡ true

-- the first pair whose successor is none of these nodes
abbrev pub first_missing : List ℕ → List (ℕ × ℕ) → Option (ℕ × ℕ)
first_missing nodes pairs = find (λ pair. not (is_among pair.1 nodes)) pairs

-- the first listed successor that is no node, after the identifier of the node that lists it
abbrev pub first_undefined : List NodeSpec → Option (ℕ × ℕ)
first_undefined specs = first_missing (specified_ids specs) (listed_pairs specs)

-- a header's number, and the first identifier above it
abbrev pub first_above : Option ℕ → List ℕ → Option (ℕ × ℕ)
first_above None ids = None
first_above (Some number) ids = option_map (λ id. (number, id)) (find (nat_lt number) ids)

-- the line is about the first node that comes twice
pub record NamesRepeat (specs : List NodeSpec) (line : List ℕ) : Type 0 where
  pub id : ℕ
  pub first : IsFirstRepeat (specified_ids specs) id
  pub said : line ≡ twice_line id

-- the line is about the first successor that is no node
pub record NamesUndefined (specs : List NodeSpec) (line : List ℕ) : Type 0 where
  pub id : ℕ
  pub successor : ℕ
  pub first : first_undefined specs ≡ Some (id, successor)
  pub said : line ≡ undefined_line id successor

-- the line is about the first node above the header's number
pub record NamesAbove (header : Option ℕ) (specs : List NodeSpec) (line : List ℕ) : Type 0 where
  pub number : ℕ
  pub id : ℕ
  pub first : first_above header (specified_ids specs) ≡ Some (number, id)
  pub said : line ≡ above_line number id

-- there is no line, since no node is above the header's number
pub record NamesNothing (header : Option ℕ) (specs : List NodeSpec) (line : List ℕ) : Type 0 where
  pub none : first_above header (specified_ids specs) ≡ None
  pub said : line ≡ []

-- the line that says why what is written makes no game: that of a node that comes twice. If each comes once, it is that
-- of a successor that is no node. If each is a node, it is that of a node above the header's number. If there is none,
-- there is no line.
abbrev pub IsCauseOf : RawGame → List ℕ → Type 0
IsCauseOf raw line =
    NamesRepeat raw.specs line
    ⊎ (IsDistinct nat_eq (specified_ids raw.specs) × (NamesUndefined raw.specs line
    ⊎ ((first_undefined raw.specs ≡ None)
    × (NamesAbove raw.header raw.specs line ⊎ NamesNothing raw.header raw.specs line))))

-- the bytes are a text of the grammar, within the limit
pub record WritesGame (text : List ℕ) : Type 0 where
  pub short : length text ≤ most_text
  pub raw : RawGame
  pub writes : IsTextOf game_syntax text raw

-- the line for a text: that of what is written, or no line if the bytes are no text of the grammar
pub record IsGameCause (text line : List ℕ) : Type 0 where
  pub written : (raw : RawGame) → length text ≤ most_text
      → IsTextOf game_syntax text raw → IsCauseOf raw line
  pub unwritten : (WritesGame text → ⊥) → line ≡ []
