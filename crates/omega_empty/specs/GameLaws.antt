-- What the emptiness game says of accepting lassos, from the game to the automaton: what player 0 wins accepts, start
-- by start.
use Rattle.std.specs.Prelude.{◌≡◌, ◌↔◌, ℕ, ◌-◌, ◌%◌, ◌<◌, if◌then◌else◌}
use Rattle.std.specs.Prelude.{nat_lt, List, [], ◌∷◌, length, Option}
use Rattle.std.specs.List.{flat_map}
use Rattle.omega_hoa_automaton.specs.Automaton.{Description, IsAutomaton}
use Rattle.omega_game_values.specs.declared.player.Player.TheVariants.{Zero}
use Rattle.omega_game_values.specs.Game.{Node, identifier_at}
use Rattle.omega_game_values.specs.Winning.{InRegion, IsClosedWalk, IsWalk, end_of, greatest_on}
use Rattle.omega_empty.specs.EmptinessGame.{IsEmptinessGame, span}
use Rattle.omega_lang_runs.specs.Lasso.{AcceptsFrom, IsAcceptingLasso, IsStart}

-- the identifier of the node at a place within its counter: a state, or an edge's number after all states
abbrev pub within_counter : Description → List Node → ℕ → ℕ
within_counter a game v = identifier_at game v % span a

-- the number of the edge whose node is at a place, alone; nothing if no edge's node is there
abbrev pub number_at : Description → List Node → ℕ → List ℕ
number_at a game v = if nat_lt (within_counter a game v) a.states then []
    else (within_counter a game v - a.states) ∷ []

-- the numbers of the edges whose nodes are at the places, in order
abbrev pub numbers_on : Description → List Node → List ℕ → List ℕ
numbers_on a game places = flat_map (number_at a game) places

-- a walk from a start's node, at the first counter, to a node that is no edge's, and a closed walk from there whose
-- greatest priority is even, pass the edges of an accepting lasso that begins at this start
abbrev pub WonWalksAccept : Type 0
WonWalksAccept = (a : Description) (game : List Node)
    (choices : List (Option ℕ)) (start v : ℕ) (there around : List ℕ)
    → IsAutomaton a → IsEmptinessGame a game → IsStart a start → v < length game
    → identifier_at game v ≡ start
    → IsWalk game Zero choices v there → within_counter a game (end_of v there) < a.states
    → IsClosedWalk game Zero choices (end_of v there) around
    → greatest_on game (end_of v there) around % 2 ≡ 0
    → AcceptsFrom a start (numbers_on a game there) (numbers_on a game around)

-- player 0 wins the node of a start, at the first counter, exactly if an accepting lasso begins at this start
abbrev pub WonStartsAccept : Type 0
WonStartsAccept =
    (a : Description) (game : List Node) (start v : ℕ) → IsAutomaton a → IsEmptinessGame a game
    → IsStart a start → v < length game → identifier_at game v ≡ start
    → InRegion game Zero v ↔ ((stem : List ℕ) × ((cycle : List ℕ) × AcceptsFrom a start stem cycle))

-- player 0 wins no start's node, at the first counter, exactly if the automaton has no accepting lasso
abbrev pub UnwonIsEmpty : Type 0
UnwonIsEmpty =
    (a : Description) (game : List Node) → IsAutomaton a → IsEmptinessGame a game → ((start v : ℕ)
    → IsStart a start → v < length game → identifier_at game v ≡ start → ¬ InRegion game Zero v)
    ↔ ((stem cycle : List ℕ) → ¬ IsAcceptingLasso a stem cycle)
