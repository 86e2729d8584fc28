-- one name more
use Rattle.std.proofs.Common.{◌+◌, ◌*◌, sym, subst, arith}
use Rattle.std.proofs.lemmas.Result.{IfOk-weaker}
use Rattle.omega_ltl_translation.specs.private.Labels.{AreTrueBelow, AreTrueOn, IsLabelBelow}
use Rattle.omega_ltl_translation.proofs.LabelLemmas.{name_more, operand_or_none}
use Rattle.omega_ltl_translation.proofs.labels.with_name.Goals as goal

pub returns-clause-label : goal.returns-clause-label
returns-clause-label c = IfOk-weaker c.conjunction.result _ _
    (λ both is. subst (IsLabelBelow c.args.cube (c.args.name + 1)) (sym is)
    (name_more c.args.cube c.args.name c.args.label c.in_ok-more.more c.requires.label c.in_ok-more.ensures.label))
    c.conjunction.ensures.ok

pub conjunction-requires-clause-one : goal.conjunction-requires-clause-one
conjunction-requires-clause-one c = operand_or_none 2 (c.args.name * 3) (c.args.name + 2) (AreTrueBelow c.args.cube c.args.name) c.args.label (omega (arith, c.requires.low)) c.requires.label

pub conjunction-requires-clause-other : goal.conjunction-requires-clause-other
conjunction-requires-clause-other c = operand_or_none 3 2 2 (AreTrueOn c.args.cube c.args.name) c.in_ok-more.more (omega arith) c.in_ok-more.ensures.label
