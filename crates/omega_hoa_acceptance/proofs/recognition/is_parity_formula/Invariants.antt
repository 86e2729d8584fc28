-- The nodes are the formula exactly if the rest is the formula of the sets that are left.
use Rattle.std.proofs.Common.{◌≡◌, ◌<◌, ◌↔◌, suc}
use Rattle.omega_hoa_acceptance.specs.Kind.{formula_of, parity_formula, sets_left}
use Rattle.omega_hoa_acceptance.specs.private.layout.Acceptance.{acc_postfix}
use Rattle.omega_hoa_acceptance.proofs.recognition.is_parity_formula.Given as goal

abbrev pub invariant-loop-following : goal.invariant-loop-following
invariant-loop-following l = record {
  within : l.following < l.kind.count;
  same : (l.nodes ≡ acc_postfix (parity_formula l.kind))
      ↔ (l.rest ≡ acc_postfix (formula_of l.kind.order l.kind.parity (sets_left l.kind.order l.kind.count (suc l.following))));
}

abbrev pub decreases-loop-following : goal.decreases-loop-following
decreases-loop-following l = l.following
