-- `append_pairs_after`: the pairs before this one are written.
use Rattle.std.proofs.Common.{◌≡◌, ◌++◌, take}
use Rattle.omega_answers_game.specs.ShowJson.{pairs_after}
use Rattle.omega_answers_game.proofs.show.json.append_pairs_after.Given as goal

abbrev pub invariant-loop-count : goal.invariant-loop-count
invariant-loop-count l = l.out.items ≡ l.initial.out.items ++ pairs_after (take l.count-index l.counts)
