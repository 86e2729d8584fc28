-- a walk along the choices, whose places are marked; the places without a mark become fewer
use Rattle.std.proofs.Common.{sum_by}
use Rattle.omega_empty.proofs.walking.Choices.{IsFollowed, unmet}
use Rattle.omega_empty.proofs.following.follow_choices.Given as goal

abbrev pub invariant-loop-edges : goal.invariant-loop-edges
invariant-loop-edges l = IsFollowed l.automaton l.game l.found.won.items l.found.choice.items l.fn.start l.at l.edges.items l.met.items

abbrev pub decreases-loop-edges : goal.decreases-loop-edges
decreases-loop-edges l = sum_by unmet l.met.items
