-- The depth that the nodes leave is that of each label with these nodes.
use Rattle.std.proofs.Common.{arith, refl}
use Rattle.omega_hoa_label.proofs.DepthLemmas.{depth-label, shallow-few}
use Rattle.omega_hoa_label.proofs.depth.judge_depth.Goals as goal

pub returns-then-nodes-clause-shallow : goal.returns-then-nodes-clause-shallow
returns-then-nodes-clause-shallow c = λ tree flat. shallow-few tree c.args.nodes.now flat (omega (arith, c.if-nodes.true))

pub returns-then-branch-gt-MOST_DEPTH-clause-err :
    goal.returns-then-branch-gt-MOST_DEPTH-clause-err
returns-then-branch-gt-MOST_DEPTH-clause-err c =
    λ tree flat. (refl, omega (arith, c.if-branch-gt-MOST_DEPTH.true, c.in_ok-depth_of.ensures.ok, depth-label tree c.args.nodes.now flat))

pub returns-clause-shallow : goal.returns-clause-shallow
returns-clause-shallow c =
    λ tree flat. omega (arith, c.if-branch-gt-MOST_DEPTH.false, c.in_ok-depth_of.ensures.ok, depth-label tree c.args.nodes.now flat)
