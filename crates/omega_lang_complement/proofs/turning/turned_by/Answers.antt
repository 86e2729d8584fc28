-- the labels that are judged and those that are written fit
use Rattle.std.proofs.Common.{List, subst}
use Rattle.std.specs.List.{All}
use Rattle.omega_hoa_label.specs.Label.{LabelTree}
use Rattle.omega_hoa_label.specs.Shape.{FitsALabel}
use Rattle.omega_lang_complement.specs.Judged.{IsJudgedLabel}
use Rattle.omega_hoa_edges.specs.AutomatonLabels.{labels_of}
use Rattle.omega_hoa_edges.specs.Labels.{is_full}
use Rattle.omega_lang_complement.specs.Letters.{IsRestLabel, LacksLetter}
use Rattle.omega_lang_complement.proofs.Judged.{all_fitting}
use Rattle.omega_hoa_edges.specs.Fitting.{FitsAText}
use Rattle.omega_lang_complement.proofs.turning.turned_by.Goals as goal

pub returns-clause-fitting : goal.returns-clause-fitting
returns-clause-fitting c =
    all_fitting (is_full c.args.count c.args.state.now) (labels_of c.args.count c.args.state.now)
    (subst (λ (ls : List LabelTree). (label : LabelTree) → IsJudgedLabel (is_full c.args.count c.args.state.now) ls label → FitsALabel label) c.requires.labels c.in_ok-missing.ensures.judged)
    (subst (λ (ls : List LabelTree). LacksLetter ls → (label : LabelTree) → IsRestLabel ls label → FitsAText label) c.requires.labels c.in_ok-missing.ensures.written)
    (subst (All FitsAText) c.requires.labels c.in_ok-edges.ensures.written)
