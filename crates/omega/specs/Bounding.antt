-- What `omega_bound` leaves.
use Rattle.std.specs.Prelude.{◌≡◌, ◌⊎◌, None}
use Rattle.omega_text.specs.Cases.{never, or_game, or_memory}
use Rattle.omega_game_values.specs.declared.player.Player.TheVariants.{One, Zero}
use Rattle.omega_game_values.specs.Game.{priorities}
use Rattle.omega_arrays.specs.declared.bounding.Bounds.{Bounds}
use Rattle.omega_arrays.specs.declared.fault.ArrayFault.{ArrayFault}
use Rattle.omega_arrays.specs.Arrays.{GameArrays, nodes_in}
use Rattle.omega_arrays.specs.Bounds.{IsBound}
use Rattle.omega_arrays.specs.Shape.{IsSizeFault, IsSized, wrong_entry}
use Rattle.omega_arrays.specs.Solving.{or_shape}
use Rattle.omega.specs.declared.outcome.Outcome.{Outcome}
use Rattle.omega.specs.Outcome.{given, outcome_of}

-- the arrays encode a game within the limits, and these are its bounds
pub record AreBounds (a : GameArrays) (bounds : Bounds) : Type 0 where
  pub shape : wrong_entry a ≡ None
  pub sized : IsSized a
  pub zero : IsBound Zero (priorities (nodes_in a)) bounds.zero
  pub one : IsBound One (priorities (nodes_in a)) bounds.one

-- it was refused, and nothing was written
pub record IsBoundRefused (a : GameArrays) (outcome : Outcome)
    (bounds bounds' : Bounds) : Type 0 where
  pub fault : ArrayFault
  pub outcome_is : outcome ≡ outcome_of fault
  pub refused : or_shape (wrong_entry a) (or_game (IsSizeFault a) (or_memory never)) fault
  pub kept : bounds' ≡ bounds

-- what `omega_bound` leaves
abbrev pub IsBoundOutcome : GameArrays → Outcome → (bounds bounds' : Bounds) → Type 0
IsBoundOutcome a outcome bounds bounds' =
    ((outcome ≡ given) × AreBounds a bounds') ⊎ IsBoundRefused a outcome bounds bounds'
