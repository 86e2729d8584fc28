-- The truth values so far and the nodes that are left make the truth value of the formula.
use Rattle.std.proofs.Common.{◌≡◌, [], drop}
use Rattle.omega_hoa_acceptance.specs.private.layout.Judged.{truths_after}
use Rattle.omega_hoa_acceptance.proofs.judging.truth_of.Given as goal

abbrev pub invariant-loop-node : goal.invariant-loop-node
invariant-loop-node g l =
    truths_after (g.J.AtomJudge.infs l.judge) (g.J.AtomJudge.fins l.judge) l.truths (drop l.node-index l.nodes)
    ≡ truths_after (g.J.AtomJudge.infs l.judge) (g.J.AtomJudge.fins l.judge) [] l.nodes
