-- Accepting lassos of a table: states in which one may begin, and the ends and the marks of edges, by their numbers.
use Rattle.std.specs.Prelude.{◌≡◌, ℕ, ◌<◌, IsTrue, List, [], ◌∷◌, length, map, Contains, Some, slice_get}
use Rattle.omega_hoa_acceptance.specs.Acceptance.{AccTree, accepts}
use Rattle.omega_graph.specs.Graph.{edge_of}
use Rattle.omega_graph.specs.declared.edge.Edge.{Edge}
use Rattle.omega_graph_accepting_walk.specs.Rows.{row_at}
use Rattle.omega_lang_runs.specs.declared.verdict.Verdict.{Verdict}
use Rattle.omega_lang_runs.specs.declared.verdict.Verdict.TheVariants.{Empty, Lasso}

-- edges, given by number, lead from `from` to `to`: each leaves the state that the one before enters
abbrev pub LeadIn : List Edge → ℕ → List ℕ → ℕ → Type 0
LeadIn ends from [] to = from ≡ to
LeadIn ends from (number ∷ numbers) to =
    (next : ℕ) × (slice_get ends number ≡ Some (edge_of from next)) × LeadIn ends next numbers to

-- an accepting lasso: a stem from a start to a state, and a cycle of at least one edge from there back to it, of whose
-- marks the formula holds
pub record IsTableLasso (starts : List ℕ) (ends : List Edge) (marks : List (List ℕ))
    (formula : AccTree) (stem cycle : List ℕ) : Type 0 where
  pub start : ℕ
  pub loop_state : ℕ
  pub begins : Contains starts start
  pub stem_leads : LeadIn ends start stem loop_state
  pub cycle_leads : LeadIn ends loop_state cycle loop_state
  pub longer : 0 < length cycle
  pub accepted : IsTrue (accepts (map (row_at marks) cycle) formula)

-- a verdict is right: its lasso accepts, or it is `Empty` and no lasso accepts
abbrev pub IsTableVerdict : List ℕ → List Edge → List (List ℕ) → AccTree → Verdict → Type 0
IsTableVerdict starts ends marks formula Empty =
    (stem cycle : List ℕ) → ¬ IsTableLasso starts ends marks formula stem cycle
IsTableVerdict starts ends marks formula (Lasso stem cycle) =
    IsTableLasso starts ends marks formula stem cycle
