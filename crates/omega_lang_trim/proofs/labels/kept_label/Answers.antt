-- the label that is written is the one that stays
use Rattle.std.proofs.Common.{Bool, Option, IfErr, sym, ap, subst, ◌∙◌}
use Rattle.omega_hoa_label.specs.Label.{LabelTree}
use Rattle.omega_lang_runs.specs.Judging.{IsLabelWith}
use Rattle.omega_hoa_edges.specs.Fitting.{IsLarge}
use Rattle.omega_hoa_edges.specs.Labels.{label_at}
use Rattle.omega_hoa_edges.proofs.Refusals.{large_weaker, passed_on}
use Rattle.omega_lang_trim.specs.Refusing.{IsDeepLabel}
use Rattle.omega_lang_trim.specs.Trimmed.{label_kept}
use Rattle.omega_lang_trim.proofs.labels.kept_label.Goals as goal

pub returns-then-as_written-clause-err : goal.returns-then-as_written-clause-err
returns-then-as_written-clause-err c =
    subst (λ (b : Bool). IfErr c.same_label.result (IsLarge (IsLabelWith IsDeepLabel (label_kept b c.args.count c.args.state.now c.args.at c.args.edge.now)))) (sym c.if-as_written.true)
    (subst (λ (o : Option LabelTree). IfErr c.same_label.result (IsLarge (IsLabelWith IsDeepLabel o))) c.label.ensures c.same_label.ensures.err)

pub returns-in_err-written_form-clause-err : goal.returns-in_err-written_form-clause-err
returns-in_err-written_form-clause-err c =
    let tree : LabelTree = label_at c.args.count c.args.state.now c.args.at c.args.edge.now in
    passed_on c.from_residual-in_err-written_form.result _ _ c.from_residual-in_err-written_form.ensures.1
    (large_weaker (IsDeepLabel c.get.result.now)
    (IsLabelWith IsDeepLabel (label_kept c.args.as_written c.args.count c.args.state.now c.args.at c.args.edge.now))
    (λ deep. (
      tree,
      ap (λ (b : Bool). label_kept b c.args.count c.args.state.now c.args.at c.args.edge.now) c.if-as_written.false,
      subst IsDeepLabel (c.get.ensures ∙ c.in_ok-label.ensures.label) deep,
    ))
    _ c.in_err-written_form.ensures.err)
