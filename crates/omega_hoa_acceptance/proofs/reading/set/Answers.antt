-- A set is passed, or no formula goes on.
use Rattle.std.proofs.Common.{[], refl, ◌∙◌}
use Rattle.omega_hoa_acceptance.specs.private.layout.States.{BeginsSet, IsStuck, named}
use Rattle.omega_hoa_acceptance.proofs.AtomLemmas.{PassesSet-of, unclosed_unread, unentered_unread, unset_unread}
use Rattle.omega_hoa_expression.proofs.PassingLemmas.{error_then}
use Rattle.omega_hoa_expression.proofs.UnreadLemmas.{first_same}
use Rattle.omega_hoa_acceptance.proofs.reading.set.Goals as goal

pub returns-in_err-pass-clause-err : goal.returns-in_err-pass-clause-err
returns-in_err-pass-clause-err g c =
    error_then c.from_residual.result _ _ c.from_residual.ensures.1
    (λ e is. first_same (IsStuck named) (BeginsSet []) (g.S.TokenSource.left c.args.source.now) _ _ _ e is refl (unentered_unread _ _ _ c.in_err-pass.ensures.err))

pub returns-in_err-set-clause-err : goal.returns-in_err-set-clause-err
returns-in_err-set-clause-err g c =
    error_then c.from_residual-in_err-set.result _ _ c.from_residual-in_err-set.ensures.1
    (λ e is. first_same (IsStuck named) (BeginsSet []) (g.S.TokenSource.left c.args.source.now) _ _ _ e is (c.is_passed-negated.ensures.length ∙ c.in_ok-pass.ensures.length)
    (unset_unread _ _ _ c.is_passed-negated.result _ _ c.in_ok-pass.ensures.ok c.is_passed-negated.ensures.passed c.is_passed-negated.ensures.other c.in_err-set.ensures.err))

pub returns-in_err-pass-2-clause-err : goal.returns-in_err-pass-2-clause-err
returns-in_err-pass-2-clause-err g c =
    error_then c.from_residual-in_err-pass-2.result _ _ c.from_residual-in_err-pass-2.ensures.1
    (λ e is. first_same (IsStuck named) (BeginsSet []) (g.S.TokenSource.left c.args.source.now) _ _ _ e is (c.in_ok-set.ensures.length ∙ (c.is_passed-negated.ensures.length ∙ c.in_ok-pass.ensures.length))
    (unclosed_unread _ _ _ _ c.is_passed-negated.result _ _ _ c.in_ok-pass.ensures.ok c.is_passed-negated.ensures.passed c.in_ok-set.ensures.ok c.in_err-pass-2.ensures.err))

pub returns-clause-ok : goal.returns-clause-ok
returns-clause-ok g c =
    PassesSet-of _ _ _ _ _ _ _ c.in_ok-pass.ensures.ok c.is_passed-negated.ensures.passed c.in_ok-set.ensures.ok c.in_ok-pass-2.ensures.ok
