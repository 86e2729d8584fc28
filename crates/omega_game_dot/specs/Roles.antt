-- The roles of nodes and of edges in a lasso of a game, which is given by places.
use Rattle.std.specs.Prelude.{ℕ, ◌==◌, ◌&&◌, Bool, if◌then◌else◌, List, [], ◌∷◌, ◌++◌, take}
use Rattle.std.specs.List.{list_any}
use Rattle.omega_game_dot.specs.declared.role.Role.{Role}
use Rattle.omega_game_dot.specs.declared.role.Role.TheVariants.{Cycle, Plain, Stem}

-- what is on the cycle, or else on the stem, or else on neither
abbrev pub role_by : (on_cycle on_stem : Bool) → Role
role_by on_cycle on_stem = if on_cycle then Cycle else if on_stem then Stem else Plain

-- whether a place is one of these
abbrev pub is_among : ℕ → List ℕ → Bool
is_among place places = list_any (λ other. place == other) places

-- the steps from a place on: each place with the one after it
abbrev pub steps_from : ℕ → List ℕ → List (ℕ × ℕ)
steps_from v [] = []
steps_from v (w ∷ ws) = (v, w) ∷ steps_from w ws

-- the steps along places
abbrev pub steps_along : List ℕ → List (ℕ × ℕ)
steps_along [] = []
steps_along (v ∷ ws) = steps_from v ws

-- the steps of a stem, the last of them to the first place of the cycle
abbrev pub stem_steps : (stem cycle : List ℕ) → List (ℕ × ℕ)
stem_steps stem cycle = steps_along (stem ++ take 1 cycle)

-- the steps round a cycle, the last of them back to its first place
abbrev pub cycle_steps : (cycle : List ℕ) → List (ℕ × ℕ)
cycle_steps cycle = steps_along (cycle ++ take 1 cycle)

-- whether an edge from v to w is one of the steps
abbrev pub is_step : (v w : ℕ) → List (ℕ × ℕ) → Bool
is_step v w steps = list_any (λ step. (v == step.0) && (w == step.1)) steps

-- the role of the node at a place
abbrev pub node_role : (stem cycle : List ℕ) → ℕ → Role
node_role stem cycle place = role_by (is_among place cycle) (is_among place stem)

-- the role of the edges from v to w
abbrev pub edge_role : (stem cycle : List ℕ) → (v w : ℕ) → Role
edge_role stem cycle v w =
    role_by (is_step v w (cycle_steps cycle)) (is_step v w (stem_steps stem cycle))
