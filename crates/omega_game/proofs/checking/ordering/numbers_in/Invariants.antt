-- What holds in the loop of `numbers_in`: the position of each place in the order, 0 where it has none.
use Rattle.std.proofs.Common.{◌≡◌, vec_len}
use Rattle.omega_game.proofs.checking.ordering.numbers_in.Given as goal

abbrev pub invariant-loop-number : goal.invariant-loop-number
invariant-loop-number l = vec_len l.numbers ≡ l.count
