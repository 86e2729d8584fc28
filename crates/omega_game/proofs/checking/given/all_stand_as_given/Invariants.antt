-- What holds in the loop of `all_stand_as_given`: each place before the one looked at stands for its winner.
use Rattle.std.proofs.Common.{ℕ, ◌<◌}
use Rattle.omega_game.specs.private.checking.Ordering.{StandsAsGiven}
use Rattle.omega_game.proofs.checking.given.all_stand_as_given.Given as goal

abbrev pub invariant-loop-place : goal.invariant-loop-place
invariant-loop-place l = (v : ℕ) → v < l.place → StandsAsGiven l.game l.solution l.numbers l.ranks l.ends v
