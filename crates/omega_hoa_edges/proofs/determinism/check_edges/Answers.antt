-- a state with an edge for each valuation is not judged
use Rattle.std.proofs.Common.{List, sym, subst, ◌∙◌}
use Rattle.std.specs.Prelude.{IfErr, OnOk}
use Rattle.std.proofs.lemmas.Result.{IfErr-weaker}
use Rattle.omega_hoa_label.specs.Label.{LabelTree}
use Rattle.omega_text.specs.Cases.{never, or_memory, or_task}
use Rattle.omega_hoa_edges.specs.AutomatonLabels.{labels_of}
use Rattle.omega_hoa_edges.specs.Labels.{is_full}
use Rattle.omega_hoa_edges.specs.Letters.{AreExclusive}
use Rattle.omega_hoa_edges.specs.Refusing.{IsClashFault}
use Rattle.omega_hoa_edges.proofs.Faults.{clash_partial, edge_partial}
use Rattle.omega_hoa_edges.proofs.Full.{full_apart}
use Rattle.omega_hoa_edges.proofs.Refusals.{passed_on}
use Rattle.omega_hoa_edges.proofs.determinism.check_edges.Goals as goal

pub returns-then-is_full-clause-apart : goal.returns-then-is_full-clause-apart
returns-then-is_full-clause-apart c = full_apart c.args.count c.args.state.now (sym c.is_full.ensures ∙ c.if-is_full.true)

pub returns-in_err-labels-clause-err : goal.returns-in_err-labels-clause-err
returns-in_err-labels-clause-err c =
    passed_on c.from_residual.result _ _ c.from_residual.ensures.1
    (edge_partial (is_full c.args.count c.args.state.now) (labels_of c.args.count c.args.state.now) c.args.state.now.number
    (sym c.is_full.ensures ∙ c.if-is_full.false) _ c.in_err-labels.ensures.err)

pub returns-clause-apart : goal.returns-clause-apart
returns-clause-apart c =
    subst (λ (ls : List LabelTree). OnOk c.check_exclusive_labels.result (AreExclusive ls)) (c.as_slice.ensures.value ∙ c.in_ok-labels.ensures.labels)
    c.check_exclusive_labels.ensures.apart

pub returns-clause-err : goal.returns-clause-err
returns-clause-err c =
    let full = is_full c.args.count c.args.state.now in
    IfErr-weaker c.check_exclusive_labels.result _ _
    (λ refusal here. clash_partial full (labels_of c.args.count c.args.state.now) c.args.state.now.number (sym c.is_full.ensures ∙ c.if-is_full.false) refusal here)
    (subst (λ (ls : List LabelTree). IfErr c.check_exclusive_labels.result (or_task (IsClashFault ls c.args.state.now.number) (or_memory never)))
    (c.as_slice.ensures.value ∙ c.in_ok-labels.ensures.labels) c.check_exclusive_labels.ensures.err)
