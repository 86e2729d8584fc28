-- a label that is too deep is the one that the edge gets
use Rattle.std.proofs.Common.{◌≡◌, ℕ, Bool, false, if◌then◌else◌, Some, None, List, length, sym, ap, subst, ◌∙◌}
use Rattle.std.specs.Prelude.{is_some}
use Rattle.omega_hoa_label.specs.Label.{LabelTree}
use Rattle.omega_hoa_automaton.specs.declared.state.State.{State}
use Rattle.omega_hoa_edges.specs.Labels.{label_at}
use Rattle.omega_hoa_edges.proofs.Refusals.{large_weaker, passed_on}
use Rattle.omega_hoa_label.specs.Renumbering.{relabelled}
use Rattle.omega_lang_runs.specs.Judging.{IsLabelWith}
use Rattle.omega_lang_trim.specs.Refusing.{IsDeepLabel}
use Rattle.omega_lang_union.specs.Parts.{label_in}
use Rattle.omega_lang_union.proofs.labels.label_in.Goals as goal

pub returns-in_err-raw-clause-err : goal.returns-in_err-raw-clause-err
returns-in_err-raw-clause-err c =
    let places : List ℕ = c.args.places.now in
    let state : State = c.args.state.now in
    let tree : LabelTree = relabelled places (label_at (length places) state c.args.at c.args.edge.now) in
    let bare : is_some state.label ≡ false = sym c.is_some.ensures ∙ c.if-is_some.false in
    passed_on c.from_residual-in_err-raw.result _ _ c.from_residual-in_err-raw.ensures.1
    (large_weaker (IsDeepLabel (relabelled places c.get.result.now)) (IsLabelWith IsDeepLabel (label_in places state c.args.at c.args.edge.now))
    (λ deep. (
      tree,
      ap (λ (b : Bool). if b then None else Some tree) bare,
      subst (λ (label : LabelTree). IsDeepLabel (relabelled places label)) (c.get.ensures ∙ c.in_ok-label.ensures.label) deep,
    ))
    _ c.in_err-raw.ensures.err)
