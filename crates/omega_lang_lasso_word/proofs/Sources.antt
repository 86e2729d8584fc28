-- The state that an edge leaves, by the edge that was found.
use Rattle.std.proofs.Common.{◌≡◌, ℕ, ◌<◌, List, [], ◌∷◌, length, ap, arith}
use Rattle.omega_hoa_automaton.specs.Automaton.{Description}
use Rattle.omega_hoa_automaton.specs.declared.edge.Edge.{Edge}
use Rattle.omega_lang_runs.specs.Found.{IsFoundEdge}
use Rattle.omega_lang_runs.specs.declared.finding.FoundEdge.{FoundEdge}
use Rattle.omega_lang_lasso_word.specs.RunText.{source_text, state_text, visit_text}

-- an element of a list that has one at this index
some_of : {X : Type 0} (xs : List X) (i : ℕ) → i < length xs → X
some_of [] i below = absurd (omega (arith, below))
some_of (x ∷ xs) i below = x

-- the state of the edge that was found is the one that the edge leaves
pub found_state : (a : Description) (number : ℕ) (found : FoundEdge) → IsFoundEdge a number found → found.index < length found.state.now.edges
    → visit_text a number ≡ state_text found.state.now
found_state a number found is within = ap source_text (is (some_of {X = Edge} found.state.now.edges found.index within))
