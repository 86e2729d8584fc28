-- the automaton is one of the negation, with its text as the name
use Rattle.std.proofs.Common.{inl, inr, ap, refl, subst, ◌∙◌}
use Rattle.std.proofs.lemmas.Result.{IfErr-weaker, IfOk-weaker, err_from_is_err_and}
use Rattle.omega_answers.proofs.Refusals.{memory_or, or_memory_of}
use Rattle.omega_ltl_formula.specs.Negation.{negation_of}
use Rattle.omega_ltl_formula.specs.Table.{NumberedFormula, tree_of}
use Rattle.omega_answers_formula.specs.Deterministic.{IsNotDetermined}
use Rattle.omega_answers_formula.specs.DeterministicNegation.{IsNegationNotDetermined}
use Rattle.omega_answers_formula.proofs.Naming.{named_alike}
use Rattle.omega_answers_formula.proofs.deterministic_negation.negation_text.Goals as goal

pub returns-clause-text : goal.returns-clause-text
returns-clause-text c =
    let is = c.in_ok-negation.ensures.negation in
    IfOk-weaker c.named_text.result _ _
    (λ output written. named_alike output.items
    (c.as_slice.ensures.value ∙ c.in_ok-name.ensures.title)
    (ap (λ (formula : NumberedFormula). formula.table.names) is)
    (ap tree_of is ∙ c.negation_of.ensures.tree) written)
    c.named_text.ensures.text

pub returns-clause-refused : goal.returns-clause-refused
returns-clause-refused c =
    IfErr-weaker c.named_text.result _ _
    (memory_or (IsNotDetermined c.in_ok-negation.negation) (IsNegationNotDetermined c.args.formula.now)
    (λ refusal not. (
      negation_of c.args.formula.now,
      record { names = refl; tree = c.negation_of.ensures.tree },
      inr (subst (λ (formula : NumberedFormula). IsNotDetermined formula refusal) c.in_ok-negation.ensures.negation not),
    )))
    c.named_text.ensures.refused

pub returns-in_err-negation-clause-refused : goal.returns-in_err-negation-clause-refused
returns-in_err-negation-clause-refused c =
    let p = err_from_is_err_and c.from_residual.result c.from_residual.ensures.1 in
    rw (p.1, p.2) (or_memory_of (IsNegationNotDetermined c.args.formula.now) c.in_err-negation.field-0.0 (
      negation_of c.args.formula.now,
      record { names = refl; tree = c.negation_of.ensures.tree },
      inl c.in_err-negation.ensures.refused,
    ))
