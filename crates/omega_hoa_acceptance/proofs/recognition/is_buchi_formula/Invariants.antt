-- The nodes are the formula exactly if the rest is the formula of the sets up to this one.
use Rattle.std.proofs.Common.{◌≡◌, ◌<◌, ◌↔◌, suc}
use Rattle.omega_hoa_acceptance.specs.Kind.{buchi_formula}
use Rattle.omega_hoa_acceptance.specs.private.layout.Acceptance.{acc_postfix}
use Rattle.omega_hoa_acceptance.proofs.recognition.is_buchi_formula.Given as goal

abbrev pub invariant-loop-set : goal.invariant-loop-set
invariant-loop-set l = record {
  within : l.set < l.sets;
  same : (l.nodes ≡ acc_postfix (buchi_formula l.sets)) ↔ (l.rest ≡ acc_postfix (buchi_formula (suc l.set)));
}

abbrev pub decreases-loop-set : goal.decreases-loop-set
decreases-loop-set l = l.set
