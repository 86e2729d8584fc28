-- What a builder keeps of the specifications handed over so far.
use Rattle.std.specs.Prelude.{ℕ, List, map, All}
use Rattle.omega_game_values.specs.declared.node_spec.NodeSpec.{NodeSpec}
use Rattle.omega_game_values.specs.Building.{IsWellFormed}
use Rattle.omega_game_values.specs.private.layout.Columns.{Columns, AreEven, specs_of}

-- the identifiers of specifications
abbrev pub ids_of : List NodeSpec → List ℕ
ids_of specs = map (λ spec. spec.id) specs

-- what a builder keeps: even columns of well-formed specifications
pub record AreCollected (columns : Columns) : Type 0 where
  pub even : AreEven columns
  pub well_formed : All IsWellFormed (specs_of columns)
