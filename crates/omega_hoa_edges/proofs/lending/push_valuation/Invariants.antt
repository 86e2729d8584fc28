-- the label of the valuation over the propositions so far
use Rattle.std.proofs.Common.{◌≡◌, ◌++◌}
use Rattle.omega_hoa_label.specs.Postfix.{postfix}
use Rattle.omega_hoa_edges.specs.Labels.{valuation_label}
use Rattle.omega_hoa_edges.proofs.lending.push_valuation.Given as goal

abbrev pub invariant-loop-p : goal.invariant-loop-p
invariant-loop-p l = l.nodes ≡ l.fn.nodes ++ postfix (valuation_label l.index l.p)
