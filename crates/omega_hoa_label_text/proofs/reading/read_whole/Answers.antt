-- The whole is read where no more may follow.
use Rattle.std.proofs.Common.{refl}
use Rattle.omega_hoa_label_text.specs.Reading.{BeginsLabel, ReadsNoLabel}
use Rattle.omega_hoa_expression.proofs.PassingLemmas.{error_then}
use Rattle.omega_hoa_expression.proofs.UnreadLemmas.{first_same}
use Rattle.omega_hoa_label_text.proofs.reading.read_whole.Goals as goal

pub returns-clause-ok : goal.returns-clause-ok
returns-clause-ok g c whole wants = rw c.if-branch.false at (c.in_ok-read_infix.ensures.more whole (c.loop.invariant.has whole wants))

pub returns-in_err-operand-clause-err : goal.returns-in_err-operand-clause-err
returns-in_err-operand-clause-err g c =
    error_then c.from_residual.result _ _ c.from_residual.ensures.1
    (λ e is whole wants. first_same ReadsNoLabel BeginsLabel whole _ _ _ e is refl (c.in_err-operand.ensures.err whole wants))

pub returns-in_err-read_infix-clause-err : goal.returns-in_err-read_infix-clause-err
returns-in_err-read_infix-clause-err g c =
    error_then c.from_residual-in_err-read_infix.result _ _ c.from_residual-in_err-read_infix.ensures.1
    (λ e is whole wants. first_same ReadsNoLabel BeginsLabel whole _ _ _ e is c.loop.invariant.text
    (c.in_err-read_infix.ensures.err whole (c.loop.invariant.has whole wants)))
