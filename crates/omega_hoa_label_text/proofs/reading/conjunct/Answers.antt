-- A proposition is joined, and what else follows is read as an operand.
use Rattle.std.proofs.Common.{◌∙◌}
use Rattle.omega_hoa_label_text.specs.Reading.{BeginsLabel, ReadsNoLabel}
use Rattle.omega_hoa_expression.proofs.PassingLemmas.{error_then}
use Rattle.omega_hoa_expression.proofs.UnreadLemmas.{first_same}
use Rattle.omega_hoa_label_text.proofs.ReadingLemmas.{after_and_not, has_literal}
use Rattle.omega_hoa_label_text.proofs.reading.conjunct.Goals as goal

pub returns-in-Some-clause-ok : goal.returns-in-Some-clause-ok
returns-in-Some-clause-ok g c whole before one has =
    has_literal c.is_passed-negated.result whole before _ _ _ _ _ _ _ _ _ _ _ _ one c.is_passed-negated.ensures.passed c.in-Some.ensures.passed
    c.in_ok-conjoin_literal.ensures.nodes c.in_ok-conjoin_literal.ensures.depth c.in_ok-conjoin_literal.ensures.names c.in_ok-conjoin_literal.ensures.pending has

pub returns-in_err-operand-clause-err : goal.returns-in_err-operand-clause-err
returns-in_err-operand-clause-err g c =
    error_then c.from_residual-in_err-operand.result _ _ c.from_residual-in_err-operand.ensures.1
    (λ e is whole before one has. first_same ReadsNoLabel BeginsLabel whole _ _ _ e is (c.in_default.ensures.length ∙ c.is_passed-negated.ensures.length)
    (c.in_err-operand.ensures.err whole
    (after_and_not c.is_passed-negated.result whole before _ _ _ _ _ _ _ _ _ _ one c.is_passed-negated.ensures.passed c.in_default.ensures.passed
    c.in_ok-wait.ensures.nodes c.in_ok-wait.ensures.names c.in_ok-wait.ensures.pending has)))

pub returns-clause-ok : goal.returns-clause-ok
returns-clause-ok g c whole before one has =
    c.in_ok-operand.ensures.ok whole
    (after_and_not c.is_passed-negated.result whole before _ _ _ _ _ _ _ _ _ _ one c.is_passed-negated.ensures.passed c.in_default.ensures.passed
    c.in_ok-wait.ensures.nodes c.in_ok-wait.ensures.names c.in_ok-wait.ensures.pending has)
