-- a label that is no label
use Rattle.omega_hoa_edges.specs.AutomatonLabels.{labels_of}
use Rattle.omega_hoa_edges.specs.Labels.{is_full}
use Rattle.omega_lang_complement.proofs.Faults.{edge_refused}
use Rattle.omega_hoa_edges.proofs.Refusals.{passed_on}
use Rattle.omega_lang_complement.proofs.turning.turned_state.Goals as goal

pub returns-in_err-labels-clause-err : goal.returns-in_err-labels-clause-err
returns-in_err-labels-clause-err c =
    passed_on c.from_residual.result _ _ c.from_residual.ensures.1
    (edge_refused (is_full c.args.count c.args.state.now) (labels_of c.args.count c.args.state.now) c.args.state.now.number _ c.in_err-labels.ensures.err)
