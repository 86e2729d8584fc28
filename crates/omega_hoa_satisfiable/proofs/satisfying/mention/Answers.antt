-- The propositions of the nodes are the label's; one that finds no room is one too many.
use Rattle.std.proofs.Common.{ap, ◌∙◌}
use Rattle.omega_hoa_satisfiable.specs.Satisfiable.{each_once}
use Rattle.omega_hoa_satisfiable.specs.private.Words.{propositions_of}
use Rattle.omega_hoa_satisfiable.proofs.Valuations.{over-mentioned}
use Rattle.omega_hoa_satisfiable.proofs.WordLemmas.{propositions_of-label}
use Rattle.omega_hoa_satisfiable.proofs.satisfying.mention.Goals as goal

pub loop-node-init : goal.loop-node-init
loop-node-init c =
    ap (each_once c.args.found.now) (ap propositions_of c.nodes-nodes.ensures.nodes ∙ propositions_of-label c.args.label.now)

pub returns-then-not-add-clause-full : goal.returns-then-not-add-clause-full
returns-then-not-add-clause-full c =
    let full = c.add.ensures.full c.if-not-add.true in
    λ _. over-mentioned c.loop-node.found _ c.nodes-nodes.result.now _ _ _ c.loop-node-test.true c.in-Proposition.is full.0 full.1 c.loop-node.invariant
