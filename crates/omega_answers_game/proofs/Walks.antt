-- Paths of a game and walks of its table lead from the same places to the same ones.
use Rattle.std.proofs.Common.{◌≡◌, ℕ, ◌<◌, inl, inr, IsTrue, eqb, List, [], ◌∷◌, Contains, length, refl, sym, ap, subst, eq-eqb}
use Rattle.std.specs.List.{range_with_len}
use Rattle.std.proofs.lemmas.Bool.{eqb-true, false≢true, or_cases, or_left, or_right}
use Rattle.omega_graph.specs.Walks.{IsEdgeWalk, MarkedGraph}
use Rattle.omega_graph.specs.Graph.{listed, marked}
use Rattle.omega_game_values.specs.Game.{HasEdge, IsGame, Node}
use Rattle.omega_game_values.specs.Paths.{IsPath, Reaches}
use Rattle.omega_game_values.specs.Winning.{end_of}
use Rattle.omega_game_values.proofs.elements.Membership.{Contains-cases, Contains-here, Contains-nothing, Contains-there}
use Rattle.omega_answers_game.specs.private.Table.{shape_of}
use Rattle.omega_answers_game.proofs.Ranges.{range_below, range_has}
use Rattle.omega_answers_game.proofs.Tables.{IsNumbered, listed_successor, numbered}

-- what a list has is in its set
pub listed_from : (numbers : List ℕ) (number : ℕ) → Contains numbers number → IsTrue (listed numbers number)
listed_from [] number has = absurd (Contains-nothing number has)
listed_from (x ∷ numbers) number has = elim (Contains-cases x number numbers has) [
  | inl same ↦ or_left (eqb x number) (listed numbers number) (eq-eqb x number same)
  | inr later ↦ or_right (eqb x number) (listed numbers number) (listed_from numbers number later)
]

-- and nothing else
pub listed_has : (numbers : List ℕ) (number : ℕ) → IsTrue (listed numbers number) → Contains numbers number
listed_has [] number is = absurd (false≢true is)
listed_has (x ∷ numbers) number is = elim (or_cases (eqb x number) (listed numbers number) is) [
  | inl same ↦ subst (λ (n : ℕ). Contains (x ∷ numbers) n) (eqb-true x number same) (Contains-here x numbers)
  | inr later ↦ Contains-there x number numbers (listed_has numbers number later)
]

-- the table of a game, without marks
abbrev pub table_of : List Node → MarkedGraph
table_of nodes = marked (shape_of nodes) (λ number. [])

-- the numbers of all its edges
abbrev pub all_edges : List Node → List ℕ
all_edges nodes = range_with_len 0 (length (shape_of nodes).edges)

-- a walk of the table
abbrev pub Leads : List Node → ℕ → List ℕ → ℕ → Type 0
Leads nodes v walk w = IsEdgeWalk (table_of nodes) (listed (all_edges nodes)) v walk w

module _ (nodes : List Node) where
  -- a path is a walk
  along : (v : ℕ) (path : List ℕ) → IsPath nodes v path → (walk : List ℕ) × Leads nodes v walk (end_of v path)
  along v [] inside = ([], refl)
  along v (w ∷ path) steps =
      let one : IsNumbered nodes v w = numbered nodes v w steps.0 in
      let rest = along w path steps.1 in
      let to : w ≡ (table_of nodes one.number).to = sym (ap (λ edge. edge.to) one.ends) in (
        one.number ∷ rest.0,
        (
          listed_from (all_edges nodes) one.number (range_has (length (shape_of nodes).edges) one.number one.below),
          ap (λ edge. edge.from) one.ends,
          subst (λ (state : ℕ). Leads nodes state rest.0 (end_of w path)) to rest.1,
        ),
      )

  -- where paths lead, walks do
  pub walk_of : (v w : ℕ) → Reaches nodes v w → (walk : List ℕ) × Leads nodes v walk w
  walk_of v w reaches =
      let found = along v reaches.path reaches.joined in
      (found.0, subst (λ (state : ℕ). Leads nodes v found.0 state) reaches.ends found.1)

  -- where walks lead, paths do
  pub path_of : IsGame nodes → (v : ℕ) (walk : List ℕ) (w : ℕ) → v < length nodes → Leads nodes v walk w → Reaches nodes v w
  path_of game v [] w inside leads = record { path = []; joined = inside; ends = leads }
  path_of game v (number ∷ walk) w inside leads =
      let below : number < length (shape_of nodes).edges =
      range_below (length (shape_of nodes).edges) number (listed_has (all_edges nodes) number leads.0) in
      let to : ℕ = (table_of nodes number).to in
      let edge : HasEdge nodes v to = subst (λ (state : ℕ). HasEdge nodes state to) leads.1 (listed_successor nodes number below) in
      let rest : Reaches nodes to w = path_of game to walk w (game.closed v to edge) leads.2 in
      record { path = to ∷ rest.path; joined = (edge, rest.joined); ends = rest.ends }
