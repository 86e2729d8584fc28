-- the sets of both are too many, or their names
use Rattle.std.proofs.Common.{◌+◌, ◌<◌, length}
use Rattle.omega_text.specs.Limits.{most_number}
use Rattle.omega_hoa_automaton.specs.Limits.{most_propositions}
use Rattle.omega_lang_product.specs.Joining.{joined_names}
use Rattle.omega_lang_product.specs.Refusing.{large_graph, many_names, many_sets}
use Rattle.omega_lang_product.proofs.Refused.{large_in_product}
use Rattle.omega_hoa_edges.proofs.Refusals.{passed_on}
use Rattle.omega_lang_product.proofs.forming.written_product.Goals as goal

pub returns-in_err-sets-clause-refused : goal.returns-in_err-sets-clause-refused
returns-in_err-sets-clause-refused c =
    passed_on c.from_residual.result _ _ c.from_residual.ensures.1
    (large_in_product c.args.one.now c.args.other.now (most_number < c.args.one.now.sets + c.args.other.now.sets) many_sets _ c.in_err-sets.ensures.err)

pub returns-in_err-names-clause-refused : goal.returns-in_err-names-clause-refused
returns-in_err-names-clause-refused c =
    let one = c.args.one.now in
    let other = c.args.other.now in
    passed_on c.from_residual-in_err-names.result _ _ c.from_residual-in_err-names.ensures.1
    (large_in_product one other (most_propositions < length (joined_names one.propositions other.propositions)) (λ many. large_graph (many_names many)) _ c.in_err-names.ensures.err)
