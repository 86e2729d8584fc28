-- The name, the count and the formula are those of the kind.
use Rattle.std.proofs.Common.{sym, ◌∙◌}
use Rattle.omega_hoa_acceptance.specs.Kind.{parity_formula}
use Rattle.omega_hoa_acceptance.proofs.AccLemmas.{acc_postfix-same}
use Rattle.omega_hoa_acceptance.proofs.recognition.parity_of.Goals as goal

pub returns-then-is_parity_formula-clause-ok : goal.returns-then-is_parity_formula-clause-ok
returns-then-is_parity_formula-clause-ok c = record {
  named = sym c.named_kind.ensures ∙ c.in-Some.is;
  counted = sym c.if-kind-count.true;
  formula_is = acc_postfix-same c.args.formula.now (parity_formula c.in-Some.kind) (sym c.nodes.ensures ∙ c.is_parity_formula.ensures.0 c.if-is_parity_formula.true);
}
