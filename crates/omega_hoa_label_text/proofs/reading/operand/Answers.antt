-- Where nothing begins a part nothing is read.
use Rattle.omega_hoa_label_text.specs.Reading.{BeginsLabel, ReadsNoLabel}
use Rattle.omega_hoa_expression.proofs.PassingLemmas.{error_then}
use Rattle.omega_hoa_expression.proofs.UnreadLemmas.{first_same}
use Rattle.omega_hoa_label_text.proofs.reading.operand.Goals as goal

pub returns-in_err-read_prefix-clause-err : goal.returns-in_err-read_prefix-clause-err
returns-in_err-read_prefix-clause-err g c =
    error_then c.from_residual.result _ _ c.from_residual.ensures.1
    (λ e is whole wants. first_same ReadsNoLabel BeginsLabel whole _ _ _ e is c.loop.invariant.text (c.in_err-read_prefix.ensures.err whole (c.loop.invariant.wants whole wants)))
