-- The name, the count and the formula are those of the kind.
use Rattle.std.proofs.Common.{sym, ◌∙◌}
use Rattle.omega_hoa_acceptance.specs.Kind.{buchi_formula}
use Rattle.omega_hoa_acceptance.proofs.AccLemmas.{acc_postfix-same}
use Rattle.omega_hoa_acceptance.proofs.recognition.acceptance_kind.Goals as goal

pub returns-then-is_buchi_formula-clause-ok : goal.returns-then-is_buchi_formula-clause-ok
returns-then-is_buchi_formula-clause-ok c = record {
  named = sym c.named_sets.ensures ∙ c.in-Some.is;
  some_sets = c.if-sets-ge1.true;
  limit = c.if-sets-le-MOST_BUCHI_SETS.true;
  counted = sym c.if-sets-count.true;
  formula_is = acc_postfix-same c.args.formula.now (buchi_formula c.in-Some.sets) (sym c.nodes.ensures ∙ c.is_buchi_formula.ensures.0 c.if-is_buchi_formula.true);
}
