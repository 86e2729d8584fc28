-- `is_wrong`: a name is looked for among those that are referred to.
use Rattle.std.proofs.Common.{not, ap, sym, ◌∙◌}
use Rattle.omega_hoa_diagnostics.specs.Aliases.{is_wrong}
use Rattle.omega_hoa_diagnostics.specs.declared.aliases.AliasMention.{AliasMention as Mention}
use Rattle.omega_hoa_diagnostics.specs.private.AliasReading.{as_said, names_in}
use Rattle.omega_hoa_diagnostics.proofs.Names.{added_name, among_keys}
use Rattle.omega_hoa_diagnostics.proofs.aliases.is_wrong.Goals as goal

pub returns-in-Used-clause-wrong : goal.returns-in-Used-clause-wrong
returns-in-Used-clause-wrong c =
    ap not (c.contains.ensures ∙ among_keys c.in-Used.name.now c.args.names.now.keys)
    ∙ ap (λ (mention : Mention). is_wrong (names_in c.args.names.now.keys) (as_said mention)) (sym c.in-Used.is)

pub returns-in_ok-insert-in-Defined-clause-wrong : goal.returns-in_ok-insert-in-Defined-clause-wrong
returns-in_ok-insert-in-Defined-clause-wrong c =
    added_name c.in_ok-insert-in-Defined.field-0 c.in-Defined.name.now c.args.names.now.keys c.in_ok-insert-in-Defined.ensures.added
    ∙ ap (λ (mention : Mention). is_wrong (names_in c.args.names.now.keys) (as_said mention)) (sym c.in-Defined.is)
