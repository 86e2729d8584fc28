-- a state with an edge for each valuation is not judged
use Rattle.std.proofs.Common.{List, subst, sym, ◌∙◌, true≢false}
use Rattle.std.proofs.lemmas.Result.{on_ok_weaker}
use Rattle.omega_hoa_label.specs.Label.{LabelTree}
use Rattle.omega_hoa_edges.specs.Letters.{HasClash}
use Rattle.omega_lang_complement.specs.Letters.{LacksLetter}
use Rattle.omega_hoa_edges.specs.Labels.{is_full}
use Rattle.omega_lang_complement.proofs.Faults.{clash_refused}
use Rattle.omega_hoa_edges.proofs.Full.{full_apart}
use Rattle.omega_lang_complement.proofs.Full.{full_lacks_none}
use Rattle.omega_lang_complement.proofs.Judged.{judged_fit}
use Rattle.omega_hoa_edges.proofs.Refusals.{passed_on}
use Rattle.omega_lang_complement.proofs.turning.missing_letters_of.Goals as goal

pub returns-then-is_full-clause-missing : goal.returns-then-is_full-clause-missing
returns-then-is_full-clause-missing c =
    λ lacks. full_lacks_none c.args.count c.args.state.now (sym c.is_full.ensures ∙ c.if-is_full.true) (subst (λ (ls : List LabelTree). LacksLetter ls) c.requires lacks)

pub returns-then-is_full-clause-apart : goal.returns-then-is_full-clause-apart
returns-then-is_full-clause-apart c =
    λ clash. full_apart c.args.count c.args.state.now (sym c.is_full.ensures ∙ c.if-is_full.true) (subst (λ (ls : List LabelTree). HasClash ls) c.requires clash)

pub returns-then-is_full-clause-judged : goal.returns-then-is_full-clause-judged
returns-then-is_full-clause-judged c = λ label judged. absurd (true≢false (sym c.if-is_full.true ∙ c.is_full.ensures ∙ judged.0))

pub returns-then-is_full-clause-written : goal.returns-then-is_full-clause-written
returns-then-is_full-clause-written c =
    λ lacks.
    absurd (full_lacks_none c.args.count c.args.state.now (sym c.is_full.ensures ∙ c.if-is_full.true) (subst (λ (ls : List LabelTree). LacksLetter ls) c.requires lacks))

pub returns-clause-judged : goal.returns-clause-judged
returns-clause-judged c =
    on_ok_weaker c.missing_label.result (judged_fit (is_full c.args.count c.args.state.now) c.args.labels.now c.in_ok-check_exclusive_labels.ensures.fits) c.missing_label.ensures.judged

pub returns-in_err-check_exclusive_labels-clause-err : goal.returns-in_err-check_exclusive_labels-clause-err
returns-in_err-check_exclusive_labels-clause-err c =
    passed_on c.from_residual.result _ _ c.from_residual.ensures.1
    (clash_refused (is_full c.args.count c.args.state.now) c.args.labels.now c.args.state.now.number
    (sym c.is_full.ensures ∙ c.if-is_full.false) _ c.in_err-check_exclusive_labels.ensures.err)
