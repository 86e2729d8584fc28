-- In place the bytes stand for the nodes.
use Rattle.std.proofs.Common.{ap, sym, take, ◌∙◌}
use Rattle.std.specs.List.{list_all}
use Rattle.omega_hoa_label.specs.private.layout.Compact.{notation_in}
use Rattle.omega_hoa_label.specs.private.layout.Propositions.{proposition_below}
use Rattle.omega_hoa_label.proofs.CodeLemmas.{list_all-codes}
use Rattle.omega_hoa_label.proofs.compact.Compact.propositions_below.Goals as goal

pub returns-in-Short : goal.returns-in-Short
returns-in-Short c =
    c.all_codes_below.ensures
    ∙ (list_all-codes (proposition_below c.args.limit) (take c.in-Short.count c.in-Short.codes)
    ∙ (ap (λ held. list_all (proposition_below c.args.limit) (notation_in held).nodes) (sym c.in-Short.is)
    ∙ ap (λ n. list_all (proposition_below c.args.limit) n.nodes) c.self.view_is))
