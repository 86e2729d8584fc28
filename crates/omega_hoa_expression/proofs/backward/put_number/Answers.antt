-- A number below ten is its digit.
use Rattle.std.proofs.Common.{◌++◌, ap, sym, ◌∙◌}
use Rattle.std.proofs.lemmas.Fmt.{decimal_digit}
use Rattle.omega_hoa_expression.proofs.backward.put_number.Goals as goal

pub returns-in_ok-push-clause-ok : goal.returns-in_ok-push-clause-ok
returns-in_ok-push-clause-ok c =
    c.in_ok-push.ensures.ok ∙ ap (λ digits. digits ++ c.args.bytes.now) (sym (decimal_digit c.args.number c.if-number-lt10.true))
