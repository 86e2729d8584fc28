-- `winners_of`: the winners before this place are listed.
use Rattle.std.proofs.Common.{◌≡◌, take}
use Rattle.omega_answers_game.specs.solve.Winners.{winners_of}
use Rattle.omega_answers_game.proofs.solve.both.winners_of.Given as goal

abbrev pub invariant-loop-is_won : goal.invariant-loop-is_won
invariant-loop-is_won l = l.winners.items ≡ winners_of (take l.is_won-index l.won)
