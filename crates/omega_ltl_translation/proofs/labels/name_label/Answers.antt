-- each of the four cases
use Rattle.std.proofs.Common.{sym, subst, ◌∙◌, ap}
use Rattle.omega_hoa_label.specs.Raw.{negation}
use Rattle.omega_ltl_translation.specs.private.Labels.{AreTrueOn, IsLabelAt}
use Rattle.omega_ltl_translation.proofs.LabelLemmas.{both_signs, negative_sign, positive_sign}
use Rattle.omega_ltl_translation.proofs.labels.name_label.Goals as goal

pub returns-then-negative-clause-label : goal.returns-then-negative-clause-label
returns-then-negative-clause-label c = record {
  some = subst (IsLabelAt 3 2 2 (AreTrueOn c.args.cube c.args.name)) (sym c.in_ok-constant.ensures.ok)
      (both_signs c.args.cube c.args.name c.has-positive.result c.has-negative.result c.has-positive.ensures c.has-negative.ensures c.if-positive.true c.if-negative.true);
  none = tt;
}

pub returns-then-positive-clause-label : goal.returns-then-positive-clause-label
returns-then-positive-clause-label c = record {
  some = subst (IsLabelAt 3 2 2 (AreTrueOn c.args.cube c.args.name)) (sym c.in_ok-proposition.ensures.ok)
      (positive_sign c.args.cube c.args.name c.has-positive.result c.has-negative.result c.has-positive.ensures c.has-negative.ensures c.if-positive.true c.if-negative.false);
  none = tt;
}

pub returns-then-negative-2-clause-label : goal.returns-then-negative-2-clause-label
returns-then-negative-2-clause-label c = record {
  some = subst (IsLabelAt 3 2 2 (AreTrueOn c.args.cube c.args.name)) (sym (c.in_ok-not.ensures.ok ∙ ap negation c.in_ok-proposition-2.ensures.ok))
      (negative_sign c.args.cube c.args.name c.has-positive.result c.has-negative.result c.has-positive.ensures c.has-negative.ensures c.if-positive.false c.if-negative-2.true);
  none = tt;
}
