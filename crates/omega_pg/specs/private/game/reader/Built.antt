-- Why no game is built, where it is known whether the header is too small.
use Rattle.std.specs.Prelude.{◌≡◌, Bool, Some, List}
use Rattle.omega_text.specs.Cases.{never, or_game, or_memory}
use Rattle.omega_text.specs.declared.refusal.Refusal.{Refusal}
use Rattle.omega_game_values.specs.declared.node_spec.NodeSpec.{NodeSpec}
use Rattle.omega_game_values.specs.Building.{fault_with}

-- why no game is built of specifications after a header that is too small or not
abbrev pub IsBuiltRefusal : Bool → List NodeSpec → Refusal → Type 0
IsBuiltRefusal small specs = or_game (λ fault. fault_with small specs ≡ Some fault) (or_memory never)
