-- A formula is known by its nodes.
use Rattle.std.proofs.Common.{sym, ap, ◌∙◌}
use Rattle.omega_hoa_acceptance.specs.Kind.{buchi_formula}
use Rattle.omega_hoa_acceptance.specs.Postfix.{acc_postfix}
use Rattle.omega_hoa_acceptance.proofs.AccLemmas.{acc_postfix-same}
use Rattle.omega_hoa_acceptance.proofs.recognition.is_buchi.Goals as goal

pub returns : goal.returns
returns c = (
  λ holds. acc_postfix-same c.args.formula.now (buchi_formula c.args.sets) (sym c.nodes.ensures ∙ c.is_recurrence.ensures.0 holds),
  λ same. c.is_recurrence.ensures.1 (c.nodes.ensures ∙ ap acc_postfix same),
)
