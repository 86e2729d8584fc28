-- `has_id`: the node is at a place that is left, if at any.
use Rattle.std.proofs.Common.{◌≡◌, drop}
use Rattle.std.specs.List.{list_any}
use Rattle.std.specs.Prelude.{◌==◌}
use Rattle.omega_game_values.specs.Game.{identifier_at}
use Rattle.omega_pg_diagnostics.proofs.solution_causes.has_id.Given as goal

abbrev pub invariant-loop-place : goal.invariant-loop-place
invariant-loop-place l =
    list_any (λ w. identifier_at l.game w == l.id) (drop l.place-index l.places) ≡ list_any (λ w. identifier_at l.game w == l.id) l.places
