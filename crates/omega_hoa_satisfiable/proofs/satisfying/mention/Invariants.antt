-- The propositions so far, with those that are left, are those at first and those of the label.
use Rattle.std.proofs.Common.{◌≡◌, drop}
use Rattle.omega_hoa_label.specs.Label.{propositions}
use Rattle.omega_hoa_satisfiable.specs.Satisfiable.{each_once}
use Rattle.omega_hoa_satisfiable.specs.private.Words.{propositions_of}
use Rattle.omega_hoa_satisfiable.proofs.satisfying.mention.Given as goal

abbrev pub invariant-loop-node : goal.invariant-loop-node
invariant-loop-node l =
    each_once l.found (propositions_of (drop l.node-index l.nodes)) ≡ each_once l.initial.found (propositions l.label)
