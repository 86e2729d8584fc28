-- What holds in the loop of `ranks_along`: one rank for each place looked at.
use Rattle.std.proofs.Common.{◌≡◌, vec_len}
use Rattle.omega_game.proofs.checking.ordering.ranks_along.Given as goal

abbrev pub invariant-loop-place : goal.invariant-loop-place
invariant-loop-place l = vec_len l.ranks ≡ l.place-index
