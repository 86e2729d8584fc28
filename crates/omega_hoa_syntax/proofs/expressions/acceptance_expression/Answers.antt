-- The formula that is read is the one that was written.
use Rattle.omega_hoa_syntax.proofs.BegunLemmas.{formula_begun}
use Rattle.omega_hoa_acceptance.specs.Reading.{BeginsAcc, ReadsAcc}
use Rattle.omega_hoa_syntax.proofs.StepLemmas.{expression_found, formula_again}
use Rattle.omega_hoa_syntax.specs.private.steps.Rows.{formula_row}
use Rattle.omega_hoa_syntax.proofs.expressions.acceptance_expression.Goals as goal

pub returns-clause-finds : goal.returns-clause-finds
returns-clause-finds g c =
    expression_found ReadsAcc formula_row (λ tokens it others rest spells. spells) c.formulas_are_one.ensures formula_again c.read_raw_acc.result _ _ _ c.read_raw_acc.ensures.ok BeginsAcc formula_begun c.read_raw_acc.ensures.err
