-- Places of edges, state by state.
use Rattle.std.proofs.Common.{◌≡◌, ℕ, ◌+◌, ◌-◌, ◌<◌, ◌≤◌, ⊎_elim, List, [], ◌∷◌, ◌++◌, length, drop, get_or, Some, refl, sym, ap, ◌∙◌, subst, arith, length-append}
use Rattle.std.specs.Prelude.{slice_get}
use Rattle.std.specs.List.{flat_map}
use Rattle.std.proofs.lemmas.Bool.{cases_lt}
use Rattle.std.proofs.lemmas.List.FromFn.{get_or-map-range_with_len, length-map-range_with_len}
use Rattle.std.proofs.lemmas.Option.{get_or_from_slice_get, slice_get-get_or, slice_get_read, slice_get_within}
use Rattle.std.proofs.lemmas.List.{length-map}
use Rattle.omega_hoa_automaton.specs.Automaton.{BodyEdge, Description, edge_at, edge_count, edges_from}
use Rattle.omega_hoa_automaton.specs.declared.edge.Edge.{Edge}
use Rattle.omega_hoa_automaton.specs.declared.state.State.{State}
use Rattle.omega_lang_runs.specs.Words.{index_in}
use Rattle.omega_lang_runs.specs.Places.{ArePlaces, EdgeStandsAt}
use Rattle.omega_lang_runs.specs.declared.place.EdgePlace.{EdgePlace}
use Rattle.omega_lang_runs.specs.private.Placing.{places_in}
use Rattle.omega_lang_runs.proofs.Standing.{StandsFrom, drop_here, found_here, none_left, index_here, left_part, right_part, split_at, stands_later}

-- the places of the edges of the states before an index
pub record ArePlacedTo (a : Description) (at : ℕ) (places : List EdgePlace) : Type 0 where
  pub count : length places + length (flat_map edges_from (drop at a.defined)) ≡ edge_count a
  pub each : (number : ℕ) (place : EdgePlace) → slice_get places number ≡ Some place → EdgeStandsAt a number place
  pub stands : (k : ℕ) → StandsFrom a.defined (length places + k) (drop at a.defined) k

-- before the first state there are none
pub none_placed : (a : Description) (places : List EdgePlace) → places ≡ [] → ArePlacedTo a 0 places
none_placed a places is =
    let empty : ArePlacedTo a 0 [] = record {
      count = omega arith;
      each = λ number place there. absurd (omega (arith, slice_get_within [] number place there));
      stands = λ k. record {
        same = ap (slice_get (flat_map edges_from a.defined)) (let e : 0 + k ≡ k = omega arith in e);
        index = ap (index_in a.defined) (let e : 0 + k ≡ k = omega arith in e);
      };
    } in
    subst (ArePlacedTo a 0) (sym is) empty

-- an element of a list within it
element : {X : Type 0} (xs : List X) (k : ℕ) → k < length xs → (x : X) × (slice_get xs k ≡ Some x)
element [] k below = absurd (omega arith)
element {X = X} (x ∷ xs) k below = (get_or (x ∷ xs) k x, slice_get-get_or (x ∷ xs) k x below)

-- the places of a state's edges
placed_in : (state count k : ℕ) (place : EdgePlace) → slice_get (places_in state count) k ≡ Some place
    → (k < count) × (place ≡ record { state = state; index = k })
placed_in state count k place there =
    let place_of : ℕ → EdgePlace = λ index. record { state = state; index = index } in
    let inside = slice_get_within (places_in state count) k place there in
    let below : k < count = omega (arith, inside, length-map-range_with_len place_of 0 count) in (
      below,
      sym (get_or_from_slice_get (places_in state count) k place place there)
          ∙ get_or-map-range_with_len place_of 0 count k k place below (omega arith),
    )

module _ (a : Description) (at : ℕ) (state : State) (places : List EdgePlace) (below : at < length a.defined) (here : state ≡ get_or a.defined at state)
    (before : ArePlacedTo a at places) where
  -- the places of the edges from this state on
  split : (k : ℕ) → StandsFrom a.defined (length places + k) (state ∷ drop (at + 1) a.defined) k
  split k = split_at a.defined at state (length places + k) k below here (before.stands k)

  -- an edge of this state
  own_stands : (k : ℕ) → k < length state.edges → EdgeStandsAt a (length places + k) (record { state = at; index = k })
  own_stands k inside =
      let found = element state.edges k inside in
      let edge = found.0 in
      let left = drop (at + 1) a.defined in
      record {
        state = state;
        edge = edge;
        state_there = slice_get_read a.defined (length a.defined) at state refl below here;
        edge_there = found.1;
        numbered = found_here state left a.defined (length places + k) k edge inside (split k)
            ∙ ap (λ (e : Edge). Some (record { source = state; edge = e })) (get_or_from_slice_get state.edges k edge edge found.1);
        index_is = index_here state left a.defined (length places + k) k inside (split k);
      }

  -- an edge of this state or one before
  each_more : (number : ℕ) (place : EdgePlace) → slice_get (places ++ places_in at (length state.edges)) number ≡ Some place → EdgeStandsAt a number place
  each_more number place there = ⊎_elim
      (λ early. before.each number place (sym (left_part places (places_in at (length state.edges)) number early) ∙ there))
      (λ late.
      let k = number - length places in
      let own = placed_in at (length state.edges) k place (sym (right_part places (places_in at (length state.edges)) number late) ∙ there) in
      let sum : length places + k ≡ number = omega arith in
      subst (λ n. EdgeStandsAt a n place) sum (subst (EdgeStandsAt a (length places + k)) (sym own.1) (own_stands k own.0)))
      (cases_lt number (length places))

  -- the edges after this state
  stands_more : (k : ℕ) → StandsFrom a.defined (length places + length state.edges + k) (drop (at + 1) a.defined) k
  stands_more k =
      let later = stands_later state (drop (at + 1) a.defined) a.defined (length places + (length state.edges + k)) (length state.edges + k) (omega arith) (split (length state.edges + k)) in
      let sum : length places + (length state.edges + k) ≡ length places + length state.edges + k = omega arith in
      let left : length state.edges + k - length state.edges ≡ k = omega arith in
      subst (λ n. StandsFrom a.defined n (drop (at + 1) a.defined) k) sum
      (subst (λ n. StandsFrom a.defined (length places + (length state.edges + k)) (drop (at + 1) a.defined) n) left later)

  -- the places up to the next state
  pub placed_more : (new : List EdgePlace) → new ≡ places ++ places_in at (length state.edges) → ArePlacedTo a (at + 1) new
  placed_more new is =
      let place_of : ℕ → EdgePlace = λ index. record { state = at; index = index } in
      let own = length-map-range_with_len place_of 0 (length state.edges) in
      let longer : length (places ++ places_in at (length state.edges)) ≡ length places + length state.edges = omega (arith, length-append places (places_in at (length state.edges)), own) in
      let later = drop_here a.defined at state below here in
      let edges = length-map {B = BodyEdge} state.edges (λ (e : Edge). record { source = state; edge = e }) in
      let all : length (flat_map edges_from (drop at a.defined)) ≡ length state.edges + length (flat_map edges_from (drop (at + 1) a.defined)) =
      ap (λ (states : List State). length (flat_map edges_from states)) later ∙ omega (arith, length-append (edges_from state) (flat_map edges_from (drop (at + 1) a.defined)), edges) in
      subst (ArePlacedTo a (at + 1)) (sym is)
      (record {
        count = omega (arith, longer, all, before.count);
        each = each_more;
        stands = λ k. subst (λ n. StandsFrom a.defined (n + k) (drop (at + 1) a.defined) k) (sym longer) (stands_more k);
      })

-- after the last state all edges have places
pub all_placed : (a : Description) (at : ℕ) (places : List EdgePlace) → length a.defined ≤ at → ArePlacedTo a at places → ArePlaces a places
all_placed a at places past placed =
    let none : length (flat_map edges_from (drop at a.defined)) ≡ 0 = ap (λ (states : List State). length (flat_map edges_from states)) (none_left a.defined at past) in
    record {
      all = omega (arith, placed.count, none);
      each = placed.each;
    }

-- the place of a number is that of an edge
module _ (a : Description) (places : List EdgePlace) (number : ℕ) (place : EdgePlace) (placed : ArePlaces a places)
    (here : slice_get places number ≡ Some place) where
  -- the edge there
  pub placed_there : EdgeStandsAt a number place
  placed_there = placed.each number place here

  -- its state is one of the automaton
  pub state_within : place.state < length a.defined
  state_within = slice_get_within a.defined place.state placed_there.state placed_there.state_there

  -- the state that was read is its own
  pub state_same : (state : State) → state ≡ get_or a.defined place.state state → placed_there.state ≡ state
  state_same state read =
      sym (get_or_from_slice_get a.defined place.state placed_there.state state placed_there.state_there) ∙ sym read

  -- it is within the edges of its state
  pub index_within : (state : State) → state ≡ get_or a.defined place.state state → place.index < length state.edges
  index_within state read =
      subst (λ (s : State). place.index < length s.edges) (state_same state read)
      (slice_get_within placed_there.state.edges place.index placed_there.edge placed_there.edge_there)

  -- and is the edge of the number
  pub edge_same : (state : State) → state ≡ get_or a.defined place.state state → (d : Edge)
      → edge_at a number ≡ Some (record { source = state; edge = get_or state.edges place.index d })
  edge_same state read d =
      subst (λ (s : State). edge_at a number ≡ Some (record { source = s; edge = get_or s.edges place.index d })) (state_same state read)
      (placed_there.numbered
      ∙ ap (λ (e : Edge). Some (record { source = placed_there.state; edge = e }))
      (sym (get_or_from_slice_get placed_there.state.edges place.index placed_there.edge d placed_there.edge_there)))
