-- The edge that is read is the one that was written.
use Rattle.omega_text.specs.declared.hoa.kind.HoaKind.TheVariants as kind
use Rattle.omega_hoa_syntax.specs.Symbols.{number}
use Rattle.omega_hoa_syntax.specs.private.steps.Joining.{conj_joins, optional_joins}
use Rattle.omega_hoa_expression.proofs.ClosingLemmas.{plain}
use Rattle.omega_hoa_syntax.proofs.BegunLemmas.{completed, conj_apart, marks_apart, number_first}
use Rattle.std.proofs.Common.{refl, ◌∙◌, [], None, ◌∷◌, arith}
use Rattle.omega_hoa_syntax.proofs.FollowLemmas.{some_any, guard_ends, targets_end, sig_ends}
use Rattle.omega_hoa_syntax.proofs.RowLemmas.{edge_same}
use Rattle.omega_hoa_syntax.proofs.StepLemmas.{finds_error, none_after, passes_after, passes_then}
use Rattle.omega_hoa_syntax.specs.Grammar.{edge_row, conj_row, optional_row, sig_row, label_row}
use Rattle.omega_hoa_syntax.proofs.body.edge.EdgeSyntaxPart.read.Goals as goal

pub returns-in_err-label-clause-finds : goal.returns-in_err-label-clause-finds
returns-in_err-label-clause-finds g c =
    finds_error c.from_residual.result _ edge_row _ _ (g.S.TokenSource.left c.read_if.new.source) _ _ _ _ c.from_residual.ensures.1 refl
    c.in_err-label.ensures.finds
    (λ tokens t it others rest valid follow spells.
    t it.label (conj_row it.targets (optional_row sig_row it.marks others)) rest (some_any it.label) (guard_ends it.targets _ valid) spells)
    (λ before b.
    let d = completed (λ others. number 0 ∷ others) (plain kind.Int ∷ []) before tt (λ left others rest ends spells. number_first left others rest spells) b in
    record { more = d.more; it = record { label = d.it; targets = 0 ∷ []; marks = None }; is = omega arith; spells = d.spells })

pub returns-in_err-targets-clause-finds : goal.returns-in_err-targets-clause-finds
returns-in_err-targets-clause-finds g c =
    finds_error c.from_residual-in_err-targets.result _ edge_row _ _ (g.S.TokenSource.left c.conj.new.source) _ _ _ _ c.from_residual-in_err-targets.ensures.1 c.in_ok-label.ensures.length
    (none_after _ _ _ _ _ _ _ _ (optional_row label_row c.in_ok-label.label) c.in_ok-label.ensures.finds (optional_joins label_row (λ it others. refl) c.in_ok-label.label)
    c.in_ok-label.ensures.gives.spells (λ it is. conj_apart it [] is) c.in_err-targets.ensures.finds)
    (λ tokens t it others rest valid follow spells.
    let s1 = t.first it.label (conj_row it.targets (optional_row sig_row it.marks others)) rest (some_any it.label) (guard_ends it.targets _ valid) spells in
    t.second it.targets (optional_row sig_row it.marks others) rest valid (targets_end it.marks others follow) s1.1)
    (λ before b. record { more = b.more; it = record { label = c.in_ok-label.label; targets = b.it; marks = None }; is = b.is; spells = b.spells })

pub returns-in_err-marks-clause-finds : goal.returns-in_err-marks-clause-finds
returns-in_err-marks-clause-finds g c =
    finds_error c.from_residual-in_err-marks.result _ edge_row _ _ (g.S.TokenSource.left c.read_marks.new.source) _ _ _ _ c.from_residual-in_err-marks.ensures.1 (c.in_ok-targets.ensures.length ∙ c.in_ok-label.ensures.length)
    (none_after _ _ _ _ _ _ _ _ (optional_row label_row c.in_ok-label.label) c.in_ok-label.ensures.finds (optional_joins label_row (λ it others. refl) c.in_ok-label.label)
    c.in_ok-label.ensures.gives.spells (λ it is. conj_apart c.in_ok-targets.targets (optional_row sig_row it []) c.in_ok-targets.ensures.gives.is) (none_after _ _ _ _ _ _ _ _ (conj_row c.in_ok-targets.targets) c.in_ok-targets.ensures.finds (conj_joins c.in_ok-targets.targets)
    c.in_ok-targets.ensures.gives.spells (λ it is. marks_apart it [] tt) c.in_err-marks.ensures.finds))
    (λ tokens t it others rest valid follow spells.
    let s1 = t.first it.label (conj_row it.targets (optional_row sig_row it.marks others)) rest (some_any it.label) (guard_ends it.targets _ valid) spells in
    let s2 = t.second.first it.targets (optional_row sig_row it.marks others) rest valid (targets_end it.marks others follow) s1.1 in
    t.second.second it.marks others rest (some_any it.marks) (sig_ends others follow) s2.1)
    (λ before b. record { more = b.more; it = record { label = c.in_ok-label.label; targets = c.in_ok-targets.targets; marks = b.it }; is = c.in_ok-targets.ensures.gives.is; spells = b.spells })

pub returns-clause-gives : goal.returns-clause-gives
returns-clause-gives g c = record { is = c.in_ok-targets.ensures.gives.is; spells = λ others rest spells. c.in_ok-label.ensures.gives.spells (conj_row c.in_ok-targets.targets (optional_row sig_row c.in_ok-marks.marks others)) rest (c.in_ok-targets.ensures.gives.spells (optional_row sig_row c.in_ok-marks.marks others) rest (c.in_ok-marks.ensures.gives.spells others rest spells)) }

pub returns-clause-finds : goal.returns-clause-finds
returns-clause-finds g c =
    passes_then _ _ _ _ (passes_after _ _ _ _ _ c.in_ok-label.ensures.finds (passes_after _ _ _ _ _ c.in_ok-targets.ensures.finds c.in_ok-marks.ensures.finds))
    (λ tokens left t it others rest valid follow spells.
    let s1 = t.first it.label (conj_row it.targets (optional_row sig_row it.marks others)) rest (some_any it.label) (guard_ends it.targets _ valid) spells in
    let s2 = t.second.first it.targets (optional_row sig_row it.marks others) rest valid (targets_end it.marks others follow) s1.1 in
    let s3 = t.second.second it.marks others rest (some_any it.marks) (sig_ends others follow) s2.1 in
    (edge_same _ _ _ it s1.0 s2.0 s3.0, s3.1))
