-- So far the losing priorities and their limits are listed.
use Rattle.std.proofs.Common.{◌≡◌, take}
use Rattle.std.specs.Prelude.{map}
use Rattle.omega_game_values.specs.Player.{loses}
use Rattle.omega_measure.proofs.Listed.{counted}
use Rattle.omega_measure.proofs.losing.losing_of.Given as goal

abbrev pub invariant-loop-count : goal.invariant-loop-count
invariant-loop-count l = record {
  losing : l.losing.items ≡ map (λ count. count.priority) (counted (loses l.player) (take l.count-index l.counts));
  limits : l.limits.items ≡ map (λ count. count.nodes) (counted (loses l.player) (take l.count-index l.counts));
}
