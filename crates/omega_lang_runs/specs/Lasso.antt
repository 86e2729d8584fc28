-- Accepting lassos of automata: usable edges, their marks, and where they lead (HOA v1; docs/formats.md, automata).
use Rattle.std.specs.Prelude.{◌≡◌, ℕ, ◌<◌, IsTrue, IfSome, List, [], ◌∷◌, ◌++◌}
use Rattle.std.specs.Prelude.{length, map, option_map, Option, Some, Contains}
use Rattle.std.specs.Option.{option_or, unwrap_or}
use Rattle.omega_hoa_acceptance.specs.Acceptance.{accepts}
use Rattle.omega_hoa_label.specs.Label.{LabelTree}
use Rattle.omega_hoa_satisfiable.specs.Satisfiable.{IsSatisfiable}
use Rattle.omega_hoa_automaton.specs.Automaton.{BodyEdge, Description, edge_at}

-- the label of an edge: that of the state that it leaves, which labels each of the state's edges, or else its own
abbrev pub label_of : BodyEdge → Option LabelTree
label_of edge = option_or edge.source.label edge.edge.label

-- an edge is usable: it has no label, or some set of propositions makes its label true
abbrev pub IsUsable : BodyEdge → Type 0
IsUsable edge = IfSome (label_of edge) IsSatisfiable

-- the marks of an edge: those of the state that it leaves and its own
abbrev pub marks_of : BodyEdge → List ℕ
marks_of edge = edge.source.marks ++ edge.edge.marks

-- the marks of the edge with this number
abbrev pub marks_at : Description → ℕ → List ℕ
marks_at a number = unwrap_or (option_map marks_of (edge_at a number)) []

-- the edge with this number is usable and leads from `from` to `to` alone
pub record IsStep (a : Description) (from number to : ℕ) : Type 0 where
  pub edge : BodyEdge
  pub numbered : edge_at a number ≡ Some edge
  pub usable : IsUsable edge
  pub leaves : edge.source.number ≡ from
  pub enters : edge.edge.targets ≡ to ∷ []

-- usable edges, given by number, lead from `from` to `to`: each leaves the state that the one before enters
abbrev pub Leads : Description → ℕ → List ℕ → ℕ → Type 0
Leads a from [] to = from ≡ to
Leads a from (number ∷ numbers) to = (next : ℕ) × IsStep a from number next × Leads a next numbers to

-- a state in which the automaton may begin
abbrev pub IsStart : Description → ℕ → Type 0
IsStart a state = Contains a.starts (state ∷ [])

-- a lasso: a stem from a start to a state, and a cycle of at least one edge from there back to it
pub record IsLasso (a : Description) (stem cycle : List ℕ) : Type 0 where
  pub start : ℕ
  pub loop_state : ℕ
  pub begins : IsStart a start
  pub stem_leads : Leads a start stem loop_state
  pub cycle_leads : Leads a loop_state cycle loop_state
  pub longer : 0 < length cycle

-- a lasso accepts: the acceptance formula holds of the marks of the cycle's edges
pub record IsAcceptingLasso (a : Description) (stem cycle : List ℕ) : Type 0 where
  pub lasso : IsLasso a stem cycle
  pub accepted : IsTrue (accepts (map (marks_at a) cycle) a.acceptance)

-- a lasso accepts, and its stem leads from the state `start`
abbrev pub AcceptsFrom : Description → ℕ → List ℕ → List ℕ → Type 0
AcceptsFrom a start stem cycle =
    (accepting : IsAcceptingLasso a stem cycle) × (accepting.lasso.start ≡ start)
