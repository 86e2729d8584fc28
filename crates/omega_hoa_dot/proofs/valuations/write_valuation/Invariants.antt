-- `write_valuation`: the valuation of the propositions before this one is written.
use Rattle.std.proofs.Common.{◌≡◌, ◌++◌}
use Rattle.omega_hoa_dot.specs.Expressions.{named_text}
use Rattle.omega_hoa_edges.specs.Labels.{valuation_label}
use Rattle.omega_hoa_dot.proofs.valuations.write_valuation.Given as goal

abbrev pub invariant-loop-p : goal.invariant-loop-p
invariant-loop-p l = l.out.items ≡ l.fn.out.items ++ named_text l.names (valuation_label l.index l.p)
