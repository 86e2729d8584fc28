-- The state that is read is the one that was written.
use Rattle.omega_text.specs.declared.hoa.kind.HoaKind.TheVariants as kind
use Rattle.omega_hoa_syntax.specs.private.steps.Joining.{optional_joins, sig_joins}
use Rattle.omega_hoa_expression.proofs.ClosingLemmas.{plain}
use Rattle.omega_hoa_syntax.proofs.BegunLemmas.{completed, edges_apart, marks_apart, number_first}
use Rattle.std.proofs.Common.{refl, ◌∷◌, ◌∙◌, [], None, codes}
use Rattle.omega_hoa_syntax.proofs.FollowLemmas.{some_any, sig_ends, edges_end, edges_begin, name_ends}
use Rattle.omega_hoa_syntax.proofs.RowLemmas.{state_same}
use Rattle.omega_hoa_syntax.proofs.StepLemmas.{finds_error, none_after, passes_after, passes_then, none_after_token}
use Rattle.omega_hoa_syntax.specs.Grammar.{state_row, each, edge_row, label_row, optional_row, sig_row, string_row}
use Rattle.omega_hoa_syntax.specs.Symbols.{number, header}
use Rattle.omega_hoa_syntax.proofs.body.state.StateSyntaxPart.read.Goals as goal

pub returns-in_err-take_header-clause-finds : goal.returns-in_err-take_header-clause-finds
returns-in_err-take_header-clause-finds g c =
    finds_error c.from_residual.result _ state_row _ _ (g.S.TokenSource.left c.take_header.new.source) _ _ _ _ c.from_residual.ensures.1 refl
    c.in_err-take_header.ensures.finds
    (λ tokens t it others rest valid follow spells.
    t (optional_row label_row it.label (number it.number ∷ optional_row string_row it.name (optional_row sig_row it.marks (each edge_row it.edges others)))) rest spells)
    (λ before b.
    let d = completed (λ others. number 0 ∷ others) (plain kind.Int ∷ []) before tt (λ left others rest ends spells. number_first left others rest spells) b in
    record { more = d.more; it = record { label = None; number = 0; name = None; marks = None; edges = [] }; is = tt; spells = d.spells })

pub returns-in_err-label-clause-finds : goal.returns-in_err-label-clause-finds
returns-in_err-label-clause-finds g c =
    finds_error c.from_residual-in_err-label.result _ state_row _ _ (g.S.TokenSource.left c.read_if.new.source) _ _ _ _ c.from_residual-in_err-label.ensures.1 c.in_ok-take_header.ensures.length
    (none_after_token _ _ _ _ _ _ _ _ (header (codes "State")) (λ tokens others rest splits. splits) c.in_ok-take_header.ensures.finds
    (c.in_ok-take_header.ensures.gives [] _ refl) c.in_err-label.ensures.finds)
    (λ tokens t it others rest valid follow spells.
    let s1 = t.first (optional_row label_row it.label (number it.number ∷ optional_row string_row it.name (optional_row sig_row it.marks (each edge_row it.edges others)))) rest spells in
    t.second it.label (number it.number ∷ optional_row string_row it.name (optional_row sig_row it.marks (each edge_row it.edges others))) rest (some_any it.label) (refl, tt) s1)
    (λ before b.
    let d = completed (λ others. number 0 ∷ others) (plain kind.Int ∷ []) before tt (λ left others rest ends spells. number_first left others rest spells) b in
    record { more = d.more; it = record { label = d.it; number = 0; name = None; marks = None; edges = [] }; is = tt; spells = d.spells })

pub returns-in_err-number-clause-finds : goal.returns-in_err-number-clause-finds
returns-in_err-number-clause-finds g c =
    finds_error c.from_residual-in_err-number.result _ state_row _ _ (g.S.TokenSource.left c.take_int.new.source) _ _ _ _ c.from_residual-in_err-number.ensures.1 (c.in_ok-label.ensures.length ∙ c.in_ok-take_header.ensures.length)
    (none_after_token _ _ _ _ _ _ _ _ (header (codes "State")) (λ tokens others rest splits. splits) c.in_ok-take_header.ensures.finds
    (c.in_ok-take_header.ensures.gives [] _ refl) (none_after _ _ _ _ _ _ _ _ (optional_row label_row c.in_ok-label.label) c.in_ok-label.ensures.finds (optional_joins label_row (λ it others. refl) c.in_ok-label.label)
    c.in_ok-label.ensures.gives.spells (λ it is. tt) c.in_err-number.ensures.finds))
    (λ tokens t it others rest valid follow spells.
    let s1 = t.first (optional_row label_row it.label (number it.number ∷ optional_row string_row it.name (optional_row sig_row it.marks (each edge_row it.edges others)))) rest spells in
    let s2 = t.second.first it.label (number it.number ∷ optional_row string_row it.name (optional_row sig_row it.marks (each edge_row it.edges others))) rest (some_any it.label) (refl, tt) s1 in
    t.second.second it.number (optional_row string_row it.name (optional_row sig_row it.marks (each edge_row it.edges others))) rest tt tt s2.1)
    (λ before b. record { more = b.more; it = record { label = c.in_ok-label.label; number = b.it; name = None; marks = None; edges = [] }; is = tt; spells = b.spells })

pub returns-in_err-name-clause-finds : goal.returns-in_err-name-clause-finds
returns-in_err-name-clause-finds g c =
    finds_error c.from_residual-in_err-name.result _ state_row _ _ (g.S.TokenSource.left c.read_name.new.source) _ _ _ _ c.from_residual-in_err-name.ensures.1 (c.in_ok-number.ensures.length ∙ (c.in_ok-label.ensures.length ∙ c.in_ok-take_header.ensures.length))
    (none_after_token _ _ _ _ _ _ _ _ (header (codes "State")) (λ tokens others rest splits. splits) c.in_ok-take_header.ensures.finds
    (c.in_ok-take_header.ensures.gives [] _ refl) (none_after _ _ _ _ _ _ _ _ (optional_row label_row c.in_ok-label.label) c.in_ok-label.ensures.finds (optional_joins label_row (λ it others. refl) c.in_ok-label.label)
    c.in_ok-label.ensures.gives.spells (λ it is. tt) (none_after_token _ _ _ _ _ _ _ _ (number c.in_ok-number.number) (λ tokens others rest splits. splits) c.in_ok-number.ensures.finds
    (c.in_ok-number.ensures.gives.spells [] _ refl) c.in_err-name.ensures.finds)))
    (λ tokens t it others rest valid follow spells.
    let s1 = t.first (optional_row label_row it.label (number it.number ∷ optional_row string_row it.name (optional_row sig_row it.marks (each edge_row it.edges others)))) rest spells in
    let s2 = t.second.first it.label (number it.number ∷ optional_row string_row it.name (optional_row sig_row it.marks (each edge_row it.edges others))) rest (some_any it.label) (refl, tt) s1 in
    let s3 = t.second.second.first it.number (optional_row string_row it.name (optional_row sig_row it.marks (each edge_row it.edges others))) rest tt tt s2.1 in
    t.second.second.second it.name (optional_row sig_row it.marks (each edge_row it.edges others)) rest (some_any it.name) (name_ends it.marks _ (edges_begin it.edges others valid follow)) s3.1)
    (λ before b. record { more = b.more; it = record { label = c.in_ok-label.label; number = c.in_ok-number.number; name = b.it; marks = None; edges = [] }; is = tt; spells = b.spells })

pub returns-in_err-marks-clause-finds : goal.returns-in_err-marks-clause-finds
returns-in_err-marks-clause-finds g c =
    finds_error c.from_residual-in_err-marks.result _ state_row _ _ (g.S.TokenSource.left c.read_marks.new.source) _ _ _ _ c.from_residual-in_err-marks.ensures.1 (c.in_ok-name.ensures.length ∙ (c.in_ok-number.ensures.length ∙ (c.in_ok-label.ensures.length ∙ c.in_ok-take_header.ensures.length)))
    (none_after_token _ _ _ _ _ _ _ _ (header (codes "State")) (λ tokens others rest splits. splits) c.in_ok-take_header.ensures.finds
    (c.in_ok-take_header.ensures.gives [] _ refl) (none_after _ _ _ _ _ _ _ _ (optional_row label_row c.in_ok-label.label) c.in_ok-label.ensures.finds (optional_joins label_row (λ it others. refl) c.in_ok-label.label)
    c.in_ok-label.ensures.gives.spells (λ it is. tt) (none_after_token _ _ _ _ _ _ _ _ (number c.in_ok-number.number) (λ tokens others rest splits. splits) c.in_ok-number.ensures.finds
    (c.in_ok-number.ensures.gives.spells [] _ refl) (none_after _ _ _ _ _ _ _ _ (optional_row string_row c.in_ok-name.name) c.in_ok-name.ensures.finds (optional_joins string_row (λ it others. refl) c.in_ok-name.name)
    c.in_ok-name.ensures.gives.spells (λ it is. marks_apart it [] tt) c.in_err-marks.ensures.finds))))
    (λ tokens t it others rest valid follow spells.
    let s1 = t.first (optional_row label_row it.label (number it.number ∷ optional_row string_row it.name (optional_row sig_row it.marks (each edge_row it.edges others)))) rest spells in
    let s2 = t.second.first it.label (number it.number ∷ optional_row string_row it.name (optional_row sig_row it.marks (each edge_row it.edges others))) rest (some_any it.label) (refl, tt) s1 in
    let s3 = t.second.second.first it.number (optional_row string_row it.name (optional_row sig_row it.marks (each edge_row it.edges others))) rest tt tt s2.1 in
    let s4 = t.second.second.second.first it.name (optional_row sig_row it.marks (each edge_row it.edges others)) rest (some_any it.name) (name_ends it.marks _ (edges_begin it.edges others valid follow)) s3.1 in
    t.second.second.second.second it.marks (each edge_row it.edges others) rest (some_any it.marks) (sig_ends _ (edges_begin it.edges others valid follow)) s4.1)
    (λ before b. record { more = b.more; it = record { label = c.in_ok-label.label; number = c.in_ok-number.number; name = c.in_ok-name.name; marks = b.it; edges = [] }; is = tt; spells = b.spells })

pub returns-in_err-edges-clause-finds : goal.returns-in_err-edges-clause-finds
returns-in_err-edges-clause-finds g c =
    finds_error c.from_residual-in_err-edges.result _ state_row _ _ (g.S.TokenSource.left c.read_edges.new.source) _ _ _ _ c.from_residual-in_err-edges.ensures.1 (c.in_ok-marks.ensures.length ∙ (c.in_ok-name.ensures.length ∙ (c.in_ok-number.ensures.length ∙ (c.in_ok-label.ensures.length ∙ c.in_ok-take_header.ensures.length))))
    (none_after_token _ _ _ _ _ _ _ _ (header (codes "State")) (λ tokens others rest splits. splits) c.in_ok-take_header.ensures.finds
    (c.in_ok-take_header.ensures.gives [] _ refl) (none_after _ _ _ _ _ _ _ _ (optional_row label_row c.in_ok-label.label) c.in_ok-label.ensures.finds (optional_joins label_row (λ it others. refl) c.in_ok-label.label)
    c.in_ok-label.ensures.gives.spells (λ it is. tt) (none_after_token _ _ _ _ _ _ _ _ (number c.in_ok-number.number) (λ tokens others rest splits. splits) c.in_ok-number.ensures.finds
    (c.in_ok-number.ensures.gives.spells [] _ refl) (none_after _ _ _ _ _ _ _ _ (optional_row string_row c.in_ok-name.name) c.in_ok-name.ensures.finds (optional_joins string_row (λ it others. refl) c.in_ok-name.name)
    c.in_ok-name.ensures.gives.spells (λ it is. marks_apart c.in_ok-marks.marks (each edge_row it []) (edges_apart it is)) (none_after _ _ _ _ _ _ _ _ (optional_row sig_row c.in_ok-marks.marks) c.in_ok-marks.ensures.finds (optional_joins sig_row sig_joins c.in_ok-marks.marks)
    c.in_ok-marks.ensures.gives.spells (λ it is. edges_apart it is) c.in_err-edges.ensures.finds)))))
    (λ tokens t it others rest valid follow spells.
    let s1 = t.first (optional_row label_row it.label (number it.number ∷ optional_row string_row it.name (optional_row sig_row it.marks (each edge_row it.edges others)))) rest spells in
    let s2 = t.second.first it.label (number it.number ∷ optional_row string_row it.name (optional_row sig_row it.marks (each edge_row it.edges others))) rest (some_any it.label) (refl, tt) s1 in
    let s3 = t.second.second.first it.number (optional_row string_row it.name (optional_row sig_row it.marks (each edge_row it.edges others))) rest tt tt s2.1 in
    let s4 = t.second.second.second.first it.name (optional_row sig_row it.marks (each edge_row it.edges others)) rest (some_any it.name) (name_ends it.marks _ (edges_begin it.edges others valid follow)) s3.1 in
    let s5 = t.second.second.second.second.first it.marks (each edge_row it.edges others) rest (some_any it.marks) (sig_ends _ (edges_begin it.edges others valid follow)) s4.1 in
    t.second.second.second.second.second it.edges others rest valid (edges_end others follow) s5.1)
    (λ before b. record { more = b.more; it = record { label = c.in_ok-label.label; number = c.in_ok-number.number; name = c.in_ok-name.name; marks = c.in_ok-marks.marks; edges = b.it }; is = b.is; spells = b.spells })

pub returns-clause-gives : goal.returns-clause-gives
returns-clause-gives g c = record { is = c.in_ok-edges.ensures.gives.is; spells = λ others rest spells. c.in_ok-take_header.ensures.gives (optional_row label_row c.in_ok-label.label (number c.in_ok-number.number ∷ optional_row string_row c.in_ok-name.name (optional_row sig_row c.in_ok-marks.marks (each edge_row c.in_ok-edges.edges others)))) rest (c.in_ok-label.ensures.gives.spells (number c.in_ok-number.number ∷ optional_row string_row c.in_ok-name.name (optional_row sig_row c.in_ok-marks.marks (each edge_row c.in_ok-edges.edges others))) rest (c.in_ok-number.ensures.gives.spells (optional_row string_row c.in_ok-name.name (optional_row sig_row c.in_ok-marks.marks (each edge_row c.in_ok-edges.edges others))) rest (c.in_ok-name.ensures.gives.spells (optional_row sig_row c.in_ok-marks.marks (each edge_row c.in_ok-edges.edges others)) rest (c.in_ok-marks.ensures.gives.spells (each edge_row c.in_ok-edges.edges others) rest (c.in_ok-edges.ensures.gives.spells others rest spells))))) }

pub returns-clause-finds : goal.returns-clause-finds
returns-clause-finds g c =
    passes_then _ _ _ _ (passes_after _ _ _ _ _ c.in_ok-take_header.ensures.finds (passes_after _ _ _ _ _ c.in_ok-label.ensures.finds (passes_after _ _ _ _ _ c.in_ok-number.ensures.finds (passes_after _ _ _ _ _ c.in_ok-name.ensures.finds (passes_after _ _ _ _ _ c.in_ok-marks.ensures.finds c.in_ok-edges.ensures.finds)))))
    (λ tokens left t it others rest valid follow spells.
    let s1 = t.first (optional_row label_row it.label (number it.number ∷ optional_row string_row it.name (optional_row sig_row it.marks (each edge_row it.edges others)))) rest spells in
    let s2 = t.second.first it.label (number it.number ∷ optional_row string_row it.name (optional_row sig_row it.marks (each edge_row it.edges others))) rest (some_any it.label) (refl, tt) s1 in
    let s3 = t.second.second.first it.number (optional_row string_row it.name (optional_row sig_row it.marks (each edge_row it.edges others))) rest tt tt s2.1 in
    let s4 = t.second.second.second.first it.name (optional_row sig_row it.marks (each edge_row it.edges others)) rest (some_any it.name) (name_ends it.marks _ (edges_begin it.edges others valid follow)) s3.1 in
    let s5 = t.second.second.second.second.first it.marks (each edge_row it.edges others) rest (some_any it.marks) (sig_ends _ (edges_begin it.edges others valid follow)) s4.1 in
    let s6 = t.second.second.second.second.second it.edges others rest valid (edges_end others follow) s5.1 in
    (state_same _ _ _ _ _ it s2.0 s3.0 s4.0 s5.0 s6.0, s6.1))
