-- Pairs of states, and the reachable ones, which are the states of a product, in the order of a breadth-first search.
use Rattle.std.specs.Prelude.{◌≡◌, ℕ, ◌<◌, Bool, ◌&&◌, ◌==◌, if◌then◌else◌, List, [], ◌∷◌, ◌++◌, Option, None}
use Rattle.std.specs.Prelude.{Some, length, map, take, filter, slice_index_or, codes, decimal}
use Rattle.std.specs.List.{flat_map, position_or_len}
use Rattle.indexmap.specs.IndexSet.{insert_all}
use Rattle.omega_hoa_label.specs.Label.{conjunction}
use Rattle.omega_hoa_automaton.specs.Automaton.{Description}
use Rattle.omega_hoa_automaton.specs.declared.state.State.{State}
use Rattle.omega_lang_product.specs.Joining.{joined_names, places_among}
use Rattle.omega_lang_product.specs.PlainEdges.{View, can_hold, plain_edges_at}
use Rattle.omega_lang_product.specs.declared.plain_edge.PlainEdge.{PlainEdge}

-- a state of the first automaton and one of the second
abbrev pub Pair : Type 0
Pair = ℕ × ℕ

-- whether two pairs are the same
abbrev pub same_pair : Pair → Pair → Bool
same_pair a b = (a.0 == b.0) && (a.1 == b.1)

-- how the product sees the first automaton
abbrev pub first_view : Description → Description → View
first_view one other = record {
  count = length one.propositions;
  places = places_among (joined_names one.propositions other.propositions) one.propositions;
  before = 0;
}

-- how the product sees the second automaton: its sets are numbered after those of the first
abbrev pub second_view : Description → Description → View
second_view one other = record {
  count = length other.propositions;
  places = places_among (joined_names one.propositions other.propositions) other.propositions;
  before = one.sets;
}

-- whether an edge of the first and one of the second can be taken together: some values make both labels true
abbrev pub can_meet : PlainEdge → PlainEdge → Bool
can_meet plain_edge other = can_hold (conjunction plain_edge.label other.label)

-- the edges of the second that can be taken together with an edge of the first
abbrev pub partners : PlainEdge → List PlainEdge → List PlainEdge
partners plain_edge others = filter (can_meet plain_edge) others

-- the pairs that an edge of the first leads to with an edge of a list
abbrev pub targets_with : PlainEdge → List PlainEdge → List Pair
targets_with plain_edge others =
    map (λ other. (plain_edge.target, other.target)) (partners plain_edge others)

-- the pairs that two edges lead to, one of each list
abbrev pub targets_between : List PlainEdge → List PlainEdge → List Pair
targets_between plain_edges others =
    flat_map (λ plain_edge. targets_with plain_edge others) plain_edges

-- the edges of the first that leave the first state of a pair
abbrev pub first_leaving : Description → Description → Pair → List PlainEdge
first_leaving one other pair = plain_edges_at (first_view one other) one.defined pair.0

-- the edges of the second that leave the second state of a pair
abbrev pub second_leaving : Description → Description → Pair → List PlainEdge
second_leaving one other pair = plain_edges_at (second_view one other) other.defined pair.1

-- the pairs that a pair leads to in one step
abbrev pub targets_of : Description → Description → Pair → List Pair
targets_of one other pair =
    targets_between (first_leaving one other pair) (second_leaving one other pair)

-- the state that a start lists first
abbrev pub start_state : List ℕ → ℕ
start_state start = slice_index_or start 0 0

-- the pairs of a state and a start of a list
abbrev pub starts_with : ℕ → List (List ℕ) → List Pair
starts_with first others = map (λ start. (first, start_state start)) others

-- the pairs of two starts, one of each list
abbrev pub starts_between : List (List ℕ) → List (List ℕ) → List Pair
starts_between starts others = flat_map (λ start. starts_with (start_state start) others) starts

-- the pairs of starts, in the order of those of the first, and for each in the order of those of the second
abbrev pub start_pairs : Description → Description → List Pair
start_pairs one other = starts_between one.starts other.starts

-- the pairs `found`, and after them those others that are not among them, each once
abbrev pub with_pairs : List Pair → List Pair → List Pair
with_pairs found others = insert_all same_pair found others

-- the pairs found after the pairs `done` were expanded: the starts and the targets of `done`, each once
abbrev pub found_after : Description → Description → List Pair → List Pair
found_after one other done =
    with_pairs [] (start_pairs one other ++ flat_map (targets_of one other) done)

-- the reachable pairs, as the least fixed point of expanding, in the order of the queue: each is found by expanding
-- those before it, and expanding all finds no other
pub record AreReached (one other : Description) (pairs : List Pair) : Type 0 where
  pub found : (k : ℕ) → k < length pairs → k < length (found_after one other (take k pairs))
  pub all : pairs ≡ found_after one other pairs

-- the number of a pair among the pairs
abbrev pub pair_number : List Pair → Pair → ℕ
pair_number pairs pair = position_or_len (same_pair pair) pairs

-- the name of the first state with a number, if there is such a state and it has a name
abbrev pub name_at : List State → ℕ → Option (List ℕ)
name_at [] number = None
name_at (state ∷ states) number =
    if state.number == number then state.name else name_at states number

-- two texts with a comma between them
abbrev pub with_comma : List ℕ → List ℕ → List ℕ
with_comma text other = text ++ (codes "," ++ other)

-- the name of a pair by the names of both states: both with a comma between them if both have one, and otherwise the
-- numbers of both states
abbrev pub name_of_both : Option (List ℕ) → Option (List ℕ) → Pair → List ℕ
name_of_both None other pair = with_comma (decimal pair.0) (decimal pair.1)
name_of_both (Some name) None pair = with_comma (decimal pair.0) (decimal pair.1)
name_of_both (Some name) (Some other) pair = with_comma name other

-- the name of a pair
abbrev pub pair_name : Description → Description → Pair → List ℕ
pair_name one other pair =
    name_of_both (name_at one.defined pair.0) (name_at other.defined pair.1) pair
