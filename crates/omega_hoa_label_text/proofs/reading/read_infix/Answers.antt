-- What follows a part is passed, or the whole is read, or nothing is.
use Rattle.std.proofs.Common.{◌∙◌}
use Rattle.omega_hoa_label_text.specs.Reading.{BeginsLabel, ReadsNoLabel}
use Rattle.omega_hoa_expression.proofs.PassingLemmas.{error_then}
use Rattle.omega_hoa_expression.proofs.UnreadLemmas.{first_same}
use Rattle.omega_hoa_label_text.proofs.ReadingLemmas.{after_close, after_or, unclosed_none, whole_read}
use Rattle.omega_hoa_label_text.proofs.reading.read_infix.Goals as goal

pub returns-then-is_passed-clause-more : goal.returns-then-is_passed-clause-more
returns-then-is_passed-clause-more g c whole has = c.in_ok-conjunct.ensures.ok whole _ c.if-is_passed.ensures.passed has

pub returns-then-is_passed-2-clause-more : goal.returns-then-is_passed-2-clause-more
returns-then-is_passed-2-clause-more g c whole has =
    c.in_ok-operand.ensures.ok whole
    (after_or whole _ _ _ _ _ _ _ _ c.if-is_passed.ensures.passed c.if-is_passed-2.ensures.passed c.in_ok-push.ensures.ok (c.in_ok-bind_loosely.ensures.ok whole _ has))

pub returns-in_default-clause-more : goal.returns-in_default-clause-more
returns-in_default-clause-more g c whole has =
    let read = whole_read whole _ _ _ _ _ _ _ c.if-is_passed.ensures.passed c.if-is_passed.ensures.other c.if-is_passed-2.ensures.passed c.if-is_passed-2.ensures.other
    c.in_default.ensures.0 (c.in_ok-bind_loosely.ensures.ok whole _ has) in
    record { tree = read.tree; reads = read.reads; flat = read.flat; named = read.named; deep = read.deep }

pub returns-then-not-is_passed-clause-err : goal.returns-then-not-is_passed-clause-err
returns-then-not-is_passed-clause-err g c whole has =
    unclosed_none whole _ _ _ _ _ _ _ _ _ _ _ _ _ c.if-is_passed.ensures.passed c.if-is_passed.ensures.other c.if-is_passed-2.ensures.passed c.if-is_passed-2.ensures.other
    c.if-not-is_passed.ensures.passed c.if-not-is_passed.ensures.other c.in-Some.ensures
    (c.if-not-is_passed.ensures.length ∙ (c.if-is_passed-2.ensures.length ∙ c.if-is_passed.ensures.length)) c.place-at.ensures (c.in_ok-bind_loosely.ensures.ok whole _ has)

pub returns-clause-more : goal.returns-clause-more
returns-clause-more g c whole has =
    c.in_ok-bind_tightly.ensures.ok whole _
    (after_close whole _ _ _ _ _ _ _ _ _ _ _ _ c.if-is_passed.ensures.passed c.if-is_passed-2.ensures.passed c.if-not-is_passed.ensures.passed c.in-Some.ensures
    c.in_ok-push-2.ensures.ok c.counted_deeper-unfinished.ensures (c.in_ok-bind_loosely.ensures.ok whole _ has))

pub returns-in_err-conjunct-clause-err : goal.returns-in_err-conjunct-clause-err
returns-in_err-conjunct-clause-err g c =
    error_then c.from_residual.result _ _ c.from_residual.ensures.1
    (λ e is whole has. first_same ReadsNoLabel BeginsLabel whole _ _ _ e is c.if-is_passed.ensures.length (c.in_err-conjunct.ensures.err whole _ c.if-is_passed.ensures.passed has))

pub returns-in_err-operand-clause-err : goal.returns-in_err-operand-clause-err
returns-in_err-operand-clause-err g c =
    error_then c.from_residual-in_err-operand.result _ _ c.from_residual-in_err-operand.ensures.1
    (λ e is whole has. first_same ReadsNoLabel BeginsLabel whole _ _ _ e is (c.if-is_passed-2.ensures.length ∙ c.if-is_passed.ensures.length)
    (c.in_err-operand.ensures.err whole
    (after_or whole _ _ _ _ _ _ _ _ c.if-is_passed.ensures.passed c.if-is_passed-2.ensures.passed c.in_ok-push.ensures.ok (c.in_ok-bind_loosely.ensures.ok whole _ has))))
