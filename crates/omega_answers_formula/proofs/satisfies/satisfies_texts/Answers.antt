-- one formula is answered as a list of it is
use Rattle.std.proofs.Common.{subst, sym}
use Rattle.omega_answers_formula.specs.Satisfies.{IsSatisfiesAnswer, IsSatisfiesRefused}
use Rattle.omega_answers_formula.proofs.Alone.{refused_alone}
use Rattle.omega_answers_formula.proofs.InTurn.{answered_alone}
use Rattle.omega_answers_formula.proofs.satisfies.satisfies_texts.Goals as goal

pub returns-in-Ok-satisfies_each-clause-answer : goal.returns-in-Ok-satisfies_each-clause-answer
returns-in-Ok-satisfies_each-clause-answer c =
    answered_alone (λ formula. IsSatisfiesAnswer formula c.args.text.now c.args.explain) c.args.formula.now
    c.in-Ok-satisfies_each.made.exit c.in-Ok-satisfies_each.made.text.items
    (rw (c.as_slice.ensures.value, c.in-Ok.ensures) at c.in-Ok-satisfies_each.ensures.answers)

pub returns-clause-refused : goal.returns-clause-refused
returns-clause-refused c =
    subst (IsSatisfiesRefused c.args.formula.now c.args.text.now) (sym c.unnumbered.ensures)
    (refused_alone c.args.formula.now c.args.text.now c.args.explain c.in-Err.refused
    (rw (c.as_slice.ensures.value, c.in-Ok.ensures) at c.in-Err.ensures.refused))
