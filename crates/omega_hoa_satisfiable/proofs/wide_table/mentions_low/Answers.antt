-- The propositions of the nodes are the label's.
use Rattle.std.proofs.Common.{ap, nat_lt, sym, ◌∙◌}
use Rattle.std.specs.List.{list_all}
use Rattle.omega_hoa_satisfiable.specs.private.Words.{propositions_of}
use Rattle.omega_hoa_satisfiable.proofs.WideTables.{low-nodes}
use Rattle.omega_hoa_satisfiable.proofs.WordLemmas.{propositions_of-label}
use Rattle.omega_hoa_satisfiable.proofs.wide_table.mentions_low.Goals as goal

pub returns : goal.returns
returns c =
    λ low.
    ap (list_all (λ number. nat_lt number 12)) (sym (ap propositions_of c.nodes.ensures.nodes ∙ propositions_of-label c.args.label.now))
    ∙ (sym (low-nodes c.nodes.result.now) ∙ (sym c.all_low.ensures ∙ low))
