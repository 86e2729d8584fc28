-- `place_with`: no place before this one has the identifier.
use Rattle.std.proofs.Common.{◌≡◌}
use Rattle.std.specs.List.{AllWithin}
use Rattle.omega_game_values.specs.Game.{identifier_at}
use Rattle.omega_pg.proofs.solution.lines.place_with.Given as goal

abbrev pub invariant-loop-place : goal.invariant-loop-place
invariant-loop-place l = AllWithin (λ w. identifier_at l.game w ≡ l.id → ⊥) l.places 0 l.place-index
