-- The marks of a union rise, since those of both automata do and a guard is above them.
use Rattle.std.proofs.Common.{◌≡◌, ℕ, ◌+◌, ◌<◌, ◌≤◌, inl, inr, Bool, true, false, cond, Option, Some, None, List, [], ◌∷◌, ◌++◌, length, get_or, Contains, append-nil, sym, subst, arith}
use Rattle.std.specs.Prelude.{IfSome}
use Rattle.std.specs.List.{AllByRecursion}
use Rattle.std.specs.List.Sorted.{IsStrictlyIncreasing}
use Rattle.std.proofs.lemmas.List.{get_or-map, get_or_default, length-map}
use Rattle.std.proofs.lemmas.List.Elements.{All-contains, recursion_from_All}
use Rattle.omega_hoa_automaton.specs.Automaton.{AreMarks, Description, IsAutomaton}
use Rattle.omega_hoa_automaton.specs.Automaton as automaton
use Rattle.omega_hoa_automaton.specs.declared.edge.Edge.{Edge}
use Rattle.omega_hoa_automaton.specs.declared.state.State.{State}
use Rattle.omega_lang_lasso_search.proofs.Rising.{above_rises}
use Rattle.omega_lang_trim.proofs.Meant.{HasRisingMarks}
use Rattle.omega_lang_union.specs.Parts.{Part, edges_in, moved, states_in}
use Rattle.omega_lang_union.specs.Sharing.{IsSharing, guard_sets, holds_unmarked, separate_sets}
use Rattle.omega_lang_union.specs.Union.{first_part, second_part, united}
use Rattle.omega_lang_union.specs.declared.sharing.Sharing.{Sharing}

-- numbers that rise do so after others
moved_rises : (before : ℕ) (xs : List ℕ) → IsStrictlyIncreasing xs → IsStrictlyIncreasing (moved before xs)
moved_rises before xs rising k within =
    let long : length (moved before xs) ≡ length xs = length-map xs (λ n. before + n) in
    let below : k + 1 < length xs = omega (arith, long, within) in
    let here : k < length xs = omega arith in
    let first : get_or (moved before xs) k 0 ≡ before + get_or xs k 0 = get_or-map (λ n. before + n) xs k 0 0 here in
    let second : get_or (moved before xs) (k + 1) 0 ≡ before + get_or xs (k + 1) 0 = get_or-map (λ n. before + n) xs (k + 1) 0 0 below in
    omega (arith, first, second, rising k below)

-- a guard is above the sets of its automaton
abbrev pub IsAbove : Part → ℕ → Type 0
IsAbove part count = IfSome part.guard (λ set. part.sets + count ≤ set)

-- what numbers that come after others are
moved_low : (before count : ℕ) (xs : List ℕ) → ((m : ℕ) → Contains xs m → m < count) → (m : ℕ) → Contains (moved before xs) m → m < before + count
moved_low before count xs low m has =
    let long : length (moved before xs) ≡ length xs = length-map xs (λ n. before + n) in
    let here : has.0 < length xs = omega (arith, long, has.1) in
    let x : ℕ = get_or xs has.0 0 in
    let is : get_or (moved before xs) has.0 m ≡ before + x = get_or-map (λ n. before + n) xs has.0 0 m here in
    let below : x < count = low x (has.0, here, get_or_default xs has.0 x 0 here) in
    omega (arith, is, has.2, below)

-- the marks of an edge
edge_rises : (part : Part) (count : ℕ) (marks : List ℕ) → IsAbove part count → IsStrictlyIncreasing marks → ((m : ℕ) → Contains marks m → m < count)
    → IsStrictlyIncreasing (moved part.sets marks ++ guard_sets part.guard)
edge_rises part count marks above rising low = go part.guard above
  where
    go : (guard : Option ℕ) → IfSome guard (λ set. part.sets + count ≤ set) → IsStrictlyIncreasing (moved part.sets marks ++ guard_sets guard)
    go None none = subst IsStrictlyIncreasing (sym (append-nil (moved part.sets marks))) (moved_rises part.sets marks rising)
    go (Some set) past =
        above_rises (moved part.sets marks) set (moved_rises part.sets marks rising)
        (λ m has. (let less = moved_low part.sets count marks low m has in omega (arith, less, past)))

module _ (x : Description) (part : Part) (above : IsAbove part x.sets) where
  edges_rise : (state : State) (index : ℕ) (edges : List Edge) → AllByRecursion (automaton.IsEdge x) edges
      → AllByRecursion (λ edge. IsStrictlyIncreasing edge.marks) (edges_in part state index edges)
  edges_rise state index [] are = tt
  edges_rise state index (edge ∷ edges) are = (
    edge_rises part x.sets edge.marks above are.0.marks.rising (λ m has. All-contains (λ n. n < x.sets) edge.marks m are.0.marks.below has),
    edges_rise state (index + 1) edges are.1,
  )

  states_rise : (states : List State) → AllByRecursion (automaton.IsState x) states → AllByRecursion HasRisingMarks (states_in part states)
  states_rise [] are = tt
  states_rise (state ∷ states) are = (
    record {
      own = moved_rises part.sets state.marks are.0.marks.rising;
      edges = edges_rise state 0 state.edges (recursion_from_All (automaton.IsEdge x) state.edges are.0.edges);
    },
    states_rise states are.1,
  )

-- the guards of a union
guard_above : (least number : ℕ) (b : Bool) → least ≤ number → IfSome (cond b (Some number) None) (λ set. least ≤ set)
guard_above least number true past = past
guard_above least number false past = tt

module _ (one other : Description) where
  first_above : (sharing : Sharing) → IsSharing one other sharing → IfSome sharing.first (λ set. 0 + one.sets ≤ set)
  first_above sharing (inl (alike, is)) = subst (λ (s : Sharing). IfSome s.first (λ set. 0 + one.sets ≤ set)) (sym is) tt
  first_above sharing (inr (apart, is)) =
      subst (λ (s : Sharing). IfSome s.first (λ set. 0 + one.sets ≤ set)) (sym is)
      (guard_above (0 + one.sets) (one.sets + other.sets) (holds_unmarked one.acceptance) (omega arith))

  second_above : (sharing : Sharing) → IsSharing one other sharing → IfSome sharing.second (λ set. sharing.before + other.sets ≤ set)
  second_above sharing (inl (alike, is)) = subst (λ (s : Sharing). IfSome s.second (λ set. s.before + other.sets ≤ set)) (sym is) tt
  second_above sharing (inr (apart, is)) =
      subst (λ (s : Sharing). IfSome s.second (λ set. s.before + other.sets ≤ set)) (sym is)
      (guard_above (one.sets + other.sets) (one.sets + other.sets + length (guard_sets (separate_sets one other).first)) (holds_unmarked other.acceptance) (omega arith))

  pub first_is_above : (sharing : Sharing) → IsSharing one other sharing → IsAbove (first_part sharing one other) one.sets
  first_is_above = first_above

  pub second_is_above : (sharing : Sharing) → IsSharing one other sharing → IsAbove (second_part sharing one other) other.sets
  second_is_above = second_above

  both_rise : (xs ys : List State) → AllByRecursion HasRisingMarks xs → AllByRecursion HasRisingMarks ys → AllByRecursion HasRisingMarks (xs ++ ys)
  both_rise [] ys front back = back
  both_rise (x ∷ xs) ys front back = (front.0, both_rise xs ys front.1 back)

  pub united_rises : (sharing : Sharing) → IsSharing one other sharing → IsAutomaton one → IsAutomaton other → AllByRecursion HasRisingMarks (united sharing one other).defined
  united_rises sharing is first second =
      both_rise (states_in (first_part sharing one other) one.defined) (states_in (second_part sharing one other) other.defined)
      (states_rise one (first_part sharing one other) (first_is_above sharing is) one.defined (recursion_from_All (automaton.IsState one) one.defined first.states))
      (states_rise other (second_part sharing one other) (second_is_above sharing is) other.defined (recursion_from_All (automaton.IsState other) other.defined second.states))
