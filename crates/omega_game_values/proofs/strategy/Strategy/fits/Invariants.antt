-- What holds in the loop of `Strategy::fits`: whether there is an entry for each place,
-- and each choice is a listed successor of a node that the player owns.
use Rattle.std.proofs.Common.{◌≡◌, ℕ, ◌<◌}
use Rattle.omega_game_values.specs.Game.{HasEdge, owner_at}
use Rattle.omega_game_values.specs.Winning.{Chooses}
use Rattle.omega_game_values.proofs.strategy.Strategy.fits.Given as goal

abbrev pub invariant-loop-place : goal.invariant-loop-place
invariant-loop-place l = (v w : ℕ) → v < l.place → Chooses l.choices v w → (owner_at l.game v ≡ l.player) × HasEdge l.game v w
