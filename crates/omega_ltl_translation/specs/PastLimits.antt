-- When the automaton of a formula passes a limit.
use Rattle.std.specs.Prelude.{◌≡◌, ◌<◌, ◌+◌, ℕ, Bool, List, [], ◌∷◌, ◌++◌, length, AllPairs, Contains}
use Rattle.omega_ltl_formula.specs.Table.{NumberedFormula}
use Rattle.omega_ltl_shapes.specs.Graphs.{IsStrong}
use Rattle.omega_ltl_shapes.specs.Shapes.{AreShapesOf, demand}
use Rattle.omega_ltl_shapes.specs.declared.shape.Shape.{Shape}
use Rattle.omega_ltl_shapes.specs.declared.term.Term.{Term}
use Rattle.omega_ltl_terms.specs.Closing.{AreNeverTrue, IsClosedSet}
use Rattle.omega_ltl_terms.specs.Limits.{most_sets}
use Rattle.omega_ltl_terms.specs.Meeting.{HasManyEdgeTerms, LeadsTo}
use Rattle.omega_ltl_terms.specs.Needed.{HaveSets, IsNeeded}
use Rattle.omega_ltl_terms.specs.Pieces.{AreEdges}
use Rattle.omega_ltl_terms.specs.Tables.{AreStrongs, HasLargeDemand}
use Rattle.omega_ltl_translation.specs.Limits.{most_labelled_edges, most_states}

-- the start of the automaton of a demand: its closed set, or the demand alone if it is true nowhere
pub data IsStart (shapes : List Shape) (root : ℕ) : List ℕ → Type 0 where
  start_closed : (state : List ℕ) → IsClosedSet shapes (root ∷ []) state → IsStart shapes root state
  start_false : AreNeverTrue shapes (root ∷ []) → IsStart shapes root (root ∷ [])

-- a state is reached: it is the start, or a state that is reached leads to it
pub data IsReached (shapes : List Shape) (strongs : List ℕ) (root : ℕ) : List ℕ → Type 0 where
  reached_start : (state : List ℕ) → IsStart shapes root state → IsReached shapes strongs root state
  reached_next : (state next : List ℕ) → IsReached shapes strongs root state
      → LeadsTo shapes strongs state next → IsReached shapes strongs root next

-- no state is listed twice
abbrev pub AreOnce : List (List ℕ) → Type 0
AreOnce states = AllPairs (λ one other. one ≡ other → ⊥) states

-- states are reached, each listed once
pub record AreReached (shapes : List Shape) (strongs : List ℕ) (root : ℕ) (states : List (List ℕ))
    : Type 0 where
  pub each : (state : List ℕ) → Contains states state → IsReached shapes strongs root state
  pub once : AreOnce states

-- states have so many edges in all
pub data HaveEdges (shapes : List Shape) (strongs : List ℕ) : List (List ℕ) → ℕ → Type 0 where
  no_edges : HaveEdges shapes strongs [] 0
  more_edges : (states : List (List ℕ)) (state : List ℕ) (count : ℕ) (edges : List Term)
      → HaveEdges shapes strongs states count → AreEdges shapes strongs state edges
      → HaveEdges shapes strongs (states ++ state ∷ []) (count + length edges)

-- over the limit of promises are needed for a demand: strong demands, each listed once
pub record HasManyPromises (shapes : List Shape) (root : ℕ) : Type 0 where
  pub promises : List ℕ
  pub needed : (d : ℕ) → Contains promises d → IsNeeded shapes root d
  pub strong : (d : ℕ) → Contains promises d → IsStrong shapes d
  pub once : AllPairs (λ one other. one ≡ other → ⊥) promises
  pub many : most_sets < length promises

-- why the states of the automaton of a demand and their edges pass a limit: the edges of one, or how many there are
pub data IsGraphTooLarge (shapes : List Shape) (strongs : List ℕ) (root : ℕ) : Type 0 where
  large_state : (state : List ℕ) → IsReached shapes strongs root state
      → HasManyEdgeTerms shapes strongs state → IsGraphTooLarge shapes strongs root
  many_states : (states : List (List ℕ)) → AreReached shapes strongs root states
      → most_states < length states → IsGraphTooLarge shapes strongs root
  many_edges : (states : List (List ℕ)) (count : ℕ) → AreReached shapes strongs root states
      → HaveEdges shapes strongs states count → most_labelled_edges < count
      → IsGraphTooLarge shapes strongs root

-- the automaton of a formula, or of its negation, passes a limit
pub data IsPastLimits (formula : NumberedFormula) (negated : Bool) : Type 0 where
  large_demand : HasLargeDemand formula.table.nodes → IsPastLimits formula negated
  many_promises : (shapes : List Shape) → AreShapesOf formula.table.nodes shapes
      → HasManyPromises shapes (demand formula.root negated) → IsPastLimits formula negated
  large_graph : (shapes : List Shape) (strongs : List ℕ) → AreShapesOf formula.table.nodes shapes
      → AreStrongs shapes strongs → HaveSets shapes (demand formula.root negated) strongs
      → IsGraphTooLarge shapes strongs (demand formula.root negated) → IsPastLimits formula negated
