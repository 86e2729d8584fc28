-- `number_in`: the kind of the error gives the reason.
use Rattle.std.proofs.Common.{◌≡◌, rules, subst, sym}
use Rattle.std.specs.List.{list_all}
use Rattle.std.specs.Str.Parse.{error_kind}
use Rattle.omega_cli_command.specs.Reason.{BeginsWithSign, IsNumberReason}
use Rattle.omega_cli_command.specs.declared.mistake.Reason.{Reason}
use Rattle.omega_cli_command.specs.private.Numbers.{is_decimal, reason_for}
use Rattle.omega_cli_command.proofs.Numbers.{reported_after}
use Rattle.omega_cli_command.proofs.number.number_in.Goals as goal

pub returns-in-Err-clause-reason : goal.returns-in-Err-clause-reason
returns-in-Err-clause-reason c =
    let text = c.args.text.now in
    let unsigned : BeginsWithSign text → ⊥ = search rules in
    let reported : c.reason_of.result ≡ reason_for (list_all is_decimal text) (error_kind c.in-Err.error) = search rules in
    subst (λ (reason : Reason). IsNumberReason c.args.least c.args.most text reason) (sym reported)
    (reported_after c.args.least c.args.most text (error_kind c.in-Err.error) unsigned c.in-Err.ensures.value.1 c.in-Err.ensures.value.0)
