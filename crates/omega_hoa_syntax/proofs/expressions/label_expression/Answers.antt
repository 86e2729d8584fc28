-- The label that is read is the one that was written.
use Rattle.omega_hoa_syntax.proofs.BegunLemmas.{label_begun}
use Rattle.omega_hoa_label_text.specs.Reading.{BeginsLabel, Reads}
use Rattle.omega_hoa_syntax.proofs.StepLemmas.{expression_found, label_again}
use Rattle.omega_hoa_syntax.specs.private.steps.Rows.{expression_row}
use Rattle.omega_hoa_syntax.proofs.expressions.label_expression.Goals as goal

pub returns-clause-finds : goal.returns-clause-finds
returns-clause-finds g c =
    expression_found Reads expression_row (λ tokens it others rest spells. spells) c.labels_are_one.ensures label_again c.read_raw_label.result _ _ _ c.read_raw_label.ensures.ok BeginsLabel label_begun c.read_raw_label.ensures.err
