-- the sets of both are too many, or their names
use Rattle.std.proofs.Common.{◌+◌, ◌<◌, length}
use Rattle.omega_hoa_automaton.specs.Limits.{most_propositions}
use Rattle.omega_lang_product.specs.Joining.{joined_names}
use Rattle.omega_lang_product.specs.Limits.{most_joint_sets}
use Rattle.omega_lang_product.specs.Refusing.{many_joint_sets, many_names}
use Rattle.omega_lang_product.proofs.Refused.{large_in_graph}
use Rattle.omega_hoa_edges.proofs.Refusals.{passed_on}
use Rattle.omega_lang_product.proofs.graphing.graph_of.Goals as goal

pub returns-in_err-judge_sets-clause-refused : goal.returns-in_err-judge_sets-clause-refused
returns-in_err-judge_sets-clause-refused c =
    let one = c.args.one.now in
    let other = c.args.other.now in
    passed_on c.from_residual.result _ _ c.from_residual.ensures.1
    (large_in_graph one other (most_joint_sets < one.sets + other.sets) many_joint_sets _ c.in_err-judge_sets.ensures.err)

pub returns-in_err-names-clause-refused : goal.returns-in_err-names-clause-refused
returns-in_err-names-clause-refused c =
    let one = c.args.one.now in
    let other = c.args.other.now in
    passed_on c.from_residual-in_err-names.result _ _ c.from_residual-in_err-names.ensures.1
    (large_in_graph one other (most_propositions < length (joined_names one.propositions other.propositions)) many_names _ c.in_err-names.ensures.err)
