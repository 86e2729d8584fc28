-- In place no byte stands for an alias.
use Rattle.std.proofs.Common.{ap, sym, take, ◌∙◌}
use Rattle.std.specs.List.{list_any}
use Rattle.omega_hoa_label.specs.Bare.{is_alias}
use Rattle.omega_hoa_label.specs.private.layout.Compact.{notation_in}
use Rattle.omega_hoa_label.proofs.CodeLemmas.{no_alias-codes}
use Rattle.omega_hoa_label.proofs.compact.Compact.has_alias.Goals as goal

pub returns-in-Short : goal.returns-in-Short
returns-in-Short c =
    sym (no_alias-codes (take c.in-Short.count c.in-Short.codes))
    ∙ (ap (λ held. list_any is_alias (notation_in held).nodes) (sym c.in-Short.is) ∙ ap (λ n. list_any is_alias n.nodes) c.self.view_is)
