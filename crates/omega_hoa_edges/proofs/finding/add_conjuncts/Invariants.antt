-- The parts that are left are to be added yet.
use Rattle.std.proofs.Common.{drop, map}
use Rattle.omega_hoa_edges.specs.Conjuncts.{conjuncts}
use Rattle.omega_hoa_edges.specs.private.Stacked.{AreAdded}
use Rattle.omega_hoa_edges.proofs.finding.add_conjuncts.Given as goal

abbrev pub invariant-loop-part : goal.invariant-loop-part
invariant-loop-part l =
    AreAdded l.fn.found.items (conjuncts l.fn.label) (map (λ part. part.now) (drop l.part-index l.part-items)) l.found.items
