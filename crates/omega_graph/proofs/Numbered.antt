-- States that are given numbers one after another, and graphs whose states are renamed by their numbers.
use Rattle.std.proofs.Common.{◌≡◌, ◌≢◌, ℕ, ◌+◌, ◌<◌, List, [], ◌∷◌, ◌++◌, length, set, get_or, take, drop, map, All, Contains, IsTrue, refl, sym, ◌∙◌, ap, subst, arith, get_or-set_same, get_or-set_other}
use Rattle.std.proofs.lemmas.List.{drop_at, length-append, get_or-map, get_or_append_left, get_or_push, length-map, length_push, map-append, map_more, take-append-le, take_all}
use Rattle.std.proofs.lemmas.List.Elements.{All-contains, Contains-append_left, Contains-append_right, All-head, All-more, All-tail, All-weaker}
use Rattle.omega_graph.specs.Walks.{EdgeSet, IsEdgeWalk, MarkedGraph}
use Rattle.omega_graph.specs.Components.{edge_component_at}
use Rattle.omega_graph.specs.Graph.{listed}
use Rattle.omega_graph.specs.private.Classes.{AreComponents}
use Rattle.omega_graph.specs.private.Ends.{AreEnds}
use Rattle.omega_graph.specs.private.Numbering.{IsKnown, IsNumbering, Numbers}
use Rattle.omega_graph.proofs.Walks.{listed_has, on_edges, walk_in}

-- a state that has a number keeps it
pub numbers_old : (numbers states : List ℕ) (state number : ℕ) → number ≡ get_or numbers state 0 → number < length states → get_or states number 0 ≡ state
    → Numbers numbers states state number numbers states
numbers_old numbers states state number is below same = record {
  known = (omega arith, ap (λ (n : ℕ). get_or states n 0) (sym is) ∙ same);
  number_is = is;
  kept = λ other known. (known, refl);
}

-- one that has none is given the next
pub numbers_new : (numbers states : List ℕ) (state number : ℕ) (numbers' states' : List ℕ) → state < length numbers → (IsKnown numbers states state → ⊥)
    → number ≡ length states → numbers' ≡ set numbers state number → states' ≡ states ++ state ∷ [] → Numbers numbers states state number numbers' states'
numbers_new numbers states state number numbers' states' inside unknown is put pushed =
    subst (λ (ns : List ℕ). Numbers numbers states state number ns states') (sym put)
    (subst (λ (ss : List ℕ). Numbers numbers states state number (set numbers state number) ss) (sym pushed) given)
  where
    here : get_or (set numbers state number) state 0 ≡ number
    here = get_or-set_same numbers state number 0 inside

    at_end : get_or (states ++ state ∷ []) number 0 ≡ state
    at_end = get_or_push states state 0 number (sym is)

    kept : (other : ℕ) → IsKnown numbers states other → IsKnown (set numbers state number) (states ++ state ∷ []) other × (get_or (set numbers state number) other 0 ≡ get_or numbers other 0)
    kept other known =
        let apart : other ≢ state = λ same. unknown (subst (IsKnown numbers states) same known) in
        let stays : get_or (set numbers state number) other 0 ≡ get_or numbers other 0 = get_or-set_other numbers state other number 0 apart in
        let below : get_or numbers other 0 < length states = known.0 in (
          (
            omega (arith, length_push states state),
            ap (λ (n : ℕ). get_or (states ++ state ∷ []) n 0) stays ∙ get_or_append_left states (state ∷ []) 0 (get_or numbers other 0) below ∙ known.1,
          ),
          stays,
        )

    given : Numbers numbers states state number (set numbers state number) (states ++ state ∷ [])
    given = record {
      known = (omega (arith, here, length_push states state), ap (λ (n : ℕ). get_or (states ++ state ∷ []) n 0) here ∙ at_end);
      number_is = sym here;
      kept = kept;
    }

-- two functions that agree on a list
pub map_same : (f g : ℕ → ℕ) (xs : List ℕ) → All (λ x. f x ≡ g x) xs → map f xs ≡ map g xs
map_same f g [] same = refl
map_same f g (x ∷ xs) same =
    ap (λ (y : ℕ). y ∷ map f xs) (All-head (λ x. f x ≡ g x) x xs same) ∙ ap (λ (ys : List ℕ). g x ∷ ys) (map_same f g xs (All-tail (λ x. f x ≡ g x) x xs same))

-- one more state of a list has its number
pub numbered_more : (listed numbers states given : List ℕ) (index number : ℕ) (numbers' states' given' : List ℕ) → index < length listed
    → given ≡ map (λ state. get_or numbers state 0) (take index listed) → All (IsKnown numbers states) (take index listed)
    → Numbers numbers states (get_or listed index 0) number numbers' states' → given' ≡ given ++ number ∷ []
    → (given' ≡ map (λ state. get_or numbers' state 0) (take (index + 1) listed)) × All (IsKnown numbers' states') (take (index + 1) listed)
numbered_more listed numbers states given index number numbers' states' given' within is known step pushed = (
  pushed ∙ ap (λ (n : ℕ). given ++ n ∷ []) step.number_is
      ∙ ap (λ (ns : List ℕ). ns ++ get_or numbers' (get_or listed index 0) 0 ∷ []) (is ∙ sym same)
      ∙ sym (map_more (λ state. get_or numbers' state 0) listed index 0 within),
  All-more (IsKnown numbers' states') listed index 0 within (All-weaker (IsKnown numbers states) (IsKnown numbers' states') (λ other has. (step.kept other has).0) (take index listed) known) step.known,
)
  where
    same : map (λ state. get_or numbers' state 0) (take index listed) ≡ map (λ state. get_or numbers state 0) (take index listed)
    same = map_same (λ state. get_or numbers' state 0) (λ state. get_or numbers state 0) (take index listed)
        (All-weaker (IsKnown numbers states) (λ state. get_or numbers' state 0 ≡ get_or numbers state 0) (λ other has. (step.kept other has).1) (take index listed) known)

-- a graph whose states are renamed
abbrev pub renamed : (ℕ → ℕ) → MarkedGraph → MarkedGraph
renamed number graph n = record { from = number (graph n).from; to = number (graph n).to; marks = (graph n).marks }

module _ (number back : ℕ → ℕ) (graph : MarkedGraph) where
  -- a walk is one in the renamed graph
  renamed_walk : (edges : EdgeSet) (from : ℕ) (walk : List ℕ) (to : ℕ) → IsEdgeWalk graph edges from walk to → IsEdgeWalk (renamed number graph) edges (number from) walk (number to)
  renamed_walk edges from [] to leads = ap number leads
  renamed_walk edges from (n ∷ walk) to leads = (leads.0, ap number leads.1, renamed_walk edges (graph n).to walk to leads.2)

  -- and back, if the names of the edges' ends are apart
  original_walk : (edges : EdgeSet) → ((n : ℕ) → IsTrue (edges n) → (back (number (graph n).from) ≡ (graph n).from) × (back (number (graph n).to) ≡ (graph n).to))
      → (from : ℕ) (walk : List ℕ) (to : ℕ) → back (number from) ≡ from → back (number to) ≡ to
      → IsEdgeWalk (renamed number graph) edges (number from) walk (number to) → IsEdgeWalk graph edges from walk to
  original_walk edges known from [] to known_from known_to leads = sym known_from ∙ ap back leads ∙ known_to
  original_walk edges known from (n ∷ walk) to known_from known_to leads = (
    leads.0,
    sym (known n leads.0).0 ∙ ap back leads.1 ∙ known_from,
    original_walk edges known (graph n).to walk to (known n leads.0).1 known_to leads.2,
  )

  -- the components of a renamed graph are those of the graph
  pub renamed_components : (edges : List ℕ) (edge_components : List (List ℕ))
      → ((n : ℕ) → Contains edges n → (back (number (graph n).from) ≡ (graph n).from) × (back (number (graph n).to) ≡ (graph n).to))
      → AreComponents (renamed number graph) edges edge_components → AreComponents graph edges edge_components
  renamed_components edges edge_components known are = record {
    some = are.some;
    among = are.among;
    connected = λ k d below from to in_from in_to.
        let edge_component = get_or edge_components k d in
        let within : (n : ℕ) → Contains edge_component n → Contains edges n = λ n has. All-contains (Contains edges) edge_component n (are.among k d below) has in
        let known_in : (n : ℕ) → IsTrue (listed edge_component n) → (back (number (graph n).from) ≡ (graph n).from) × (back (number (graph n).to) ≡ (graph n).to) =
        λ n has. known n (within n (listed_has edge_component n has)) in
        let leads = are.connected k d below from to in_from in_to in
        (leads.0, original_walk (listed edge_component) known_in (graph from).to leads.0 (graph to).from (known_in from in_from).1 (known_in to in_to).0 leads.1);
    closed = λ walk is.
        let held = are.closed walk (record { loop_state = number is.loop_state; leads = renamed_walk (listed edges) is.loop_state walk is.loop_state is.leads; longer = is.longer }) in (
          held.0,
          held.1,
          record {
            loop_state = is.loop_state;
            leads = walk_in graph (listed edges) (listed (edge_component_at edge_components held.0)) is.loop_state walk is.loop_state
                (λ n has. on_edges (renamed number graph) (listed (edge_component_at edge_components held.0)) held.2.loop_state walk held.2.loop_state held.2.leads n has) is.leads;
            longer = is.longer;
          },
        );
    apart = are.apart;
  }

-- a function of functions' values
map_map : (f g : ℕ → ℕ) (xs : List ℕ) → map f (map g xs) ≡ map (λ x. f (g x)) xs
map_map f g [] = refl
map_map f g (x ∷ xs) = ap (λ (ys : List ℕ). f (g x) ∷ ys) (map_map f g xs)

-- the value at an element is one of the values
has_value : (f : ℕ → ℕ) (xs : List ℕ) (x : ℕ) → Contains xs x → Contains (map f xs) (f x)
has_value f xs x has =
    let below : has.0 < length xs = has.1 in
    (has.0, omega (arith, length-map xs f), get_or-map f xs has.0 x (f x) has.1 ∙ ap f has.2)

module _ (graph : MarkedGraph) (edges ends numbers states leaves enters : List ℕ) (is : IsNumbering ends numbers states)
    (ends_are : ends ≡ map (λ n. (graph n).from) edges ++ map (λ n. (graph n).to) edges)
    (leaves_are : leaves ≡ take (length edges) numbers) (enters_are : enters ≡ drop (length edges) numbers) where
  count : length (map is.number (map (λ n. (graph n).from) edges)) ≡ length edges
  count = length-map (map (λ n. (graph n).from) edges) is.number ∙ length-map edges (λ n. (graph n).from)

  split : numbers ≡ map is.number (map (λ n. (graph n).from) edges) ++ map is.number (map (λ n. (graph n).to) edges)
  split = is.numbers_are ∙ ap (map is.number) ends_are ∙ map-append is.number (map (λ n. (graph n).from) edges) (map (λ n. (graph n).to) edges)

  -- the numbers are the ends in the graph whose states are renamed by them
  numbered_ends : AreEnds (renamed is.number graph) edges leaves enters
  numbered_ends = record {
    leave = leaves_are ∙ ap (take (length edges)) split
        ∙ take-append-le (length edges) (map is.number (map (λ n. (graph n).from) edges)) (map is.number (map (λ n. (graph n).to) edges)) (omega (arith, count))
        ∙ take_all (length edges) (map is.number (map (λ n. (graph n).from) edges)) (omega (arith, count))
        ∙ map_map is.number (λ n. (graph n).from) edges;
    enter = enters_are ∙ ap (drop (length edges)) split
        ∙ drop_at (map is.number (map (λ n. (graph n).from) edges)) (map is.number (map (λ n. (graph n).to) edges)) (length edges) count
        ∙ map_map is.number (λ n. (graph n).to) edges;
  }

  known : (n : ℕ) → Contains edges n → (get_or states (is.number (graph n).from) 0 ≡ (graph n).from) × (get_or states (is.number (graph n).to) 0 ≡ (graph n).to)
  known n has = (
    (is_known (graph n).from (Contains-append_left (map (λ n. (graph n).from) edges) (map (λ n. (graph n).to) edges) (graph n).from (has_value (λ n. (graph n).from) edges n has))).1,
    (is_known (graph n).to (Contains-append_right (map (λ n. (graph n).from) edges) (map (λ n. (graph n).to) edges) (graph n).to (has_value (λ n. (graph n).to) edges n has))).1,
  )
    where
      is_known : (s : ℕ) → Contains (map (λ n. (graph n).from) edges ++ map (λ n. (graph n).to) edges) s → (is.number s < length states) × (get_or states (is.number s) 0 ≡ s)
      is_known s has' =
          All-contains (λ state. (is.number state < length states) × (get_or states (is.number state) 0 ≡ state)) ends s is.known (subst (λ (xs : List ℕ). Contains xs s) (sym ends_are) has')

  -- there are twice as many as edges
  pub numbers_count : length numbers ≡ length edges + length edges
  numbers_count =
      ap length split ∙ length-append (map is.number (map (λ n. (graph n).from) edges)) (map is.number (map (λ n. (graph n).to) edges))
      ∙ (let other = length-map (map (λ n. (graph n).to) edges) is.number ∙ length-map edges (λ n. (graph n).to) in omega (arith, count))

  -- the components by numbers are those of the graph
  pub numbered_components : (edge_components : List (List ℕ)) → ((g : MarkedGraph) → AreEnds g edges leaves enters → AreComponents g edges edge_components) → AreComponents graph edges edge_components
  numbered_components edge_components found = renamed_components is.number (λ n. get_or states n 0) graph edges edge_components known (found (renamed is.number graph) numbered_ends)

-- each number is below the count of states
pub numbers_below : (listed numbers states : List ℕ) → IsNumbering listed numbers states → All (λ n. n < length states) numbers
numbers_below listed numbers states is k d below =
    let within : k < length listed = omega (arith, ap length is.numbers_are, length-map listed is.number) in
    let at : get_or numbers k d ≡ is.number (get_or listed k 0) = ap (λ (ns : List ℕ). get_or ns k d) is.numbers_are ∙ get_or-map is.number listed k 0 d within in
    let low = (is.known k 0 within).0 in
    omega arith
