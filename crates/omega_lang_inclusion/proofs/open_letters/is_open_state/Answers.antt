-- without edges there is no label, and with edges the label is that of the first
use Rattle.std.proofs.Common.{◌≡◌, ◌<◌, ◌↔◌, List, [], ◌∷◌, length, slice_index_or, IfErr, IfOk, IsTrue, Option, ap, subst, ◌∙◌, arith}
use Rattle.omega_hoa_label.specs.Label.{LabelTree}
use Rattle.omega_hoa_automaton.specs.declared.edge.Edge.{Edge}
use Rattle.omega_lang_inclusion.specs.private.Opened.{CanBeBoth, IsUnjudgedWith, first_label}
use Rattle.omega_lang_inclusion.proofs.open_letters.is_open_state.Goals as goal

none_open : (held unheld : LabelTree) (edges : List Edge) → length edges ≡ 0 → CanBeBoth held unheld (first_label edges) → ⊥
none_open held unheld [] none both = both
none_open held unheld (edge ∷ edges) none both = omega (arith, none)

first_is : (edges : List Edge) (edge : Edge) → edge ≡ slice_index_or edges 0 edge → 0 < length edges → edge.label ≡ first_label edges
first_is [] edge here longer = absurd (omega arith)
first_is (first ∷ edges) edge here longer = ap (λ (e : Edge). e.label) here

pub returns-clause-right : goal.returns-clause-right
returns-clause-right c =
    let first : c.edge-edge.result.label ≡ first_label c.args.state.now.edges = first_is c.args.state.now.edges c.edge-edge.result c.edge-edge.ensures (omega arith) in
    subst (λ (label : Option LabelTree). IfOk c.can_label_be_both.result (λ found. IsTrue found ↔ CanBeBoth c.args.held.now c.args.unheld.now label))
    (c.label.ensures ∙ first) c.can_label_be_both.ensures.right

pub returns-clause-refused : goal.returns-clause-refused
returns-clause-refused c =
    let first : c.edge-edge.result.label ≡ first_label c.args.state.now.edges = first_is c.args.state.now.edges c.edge-edge.result c.edge-edge.ensures (omega arith) in
    subst (λ (label : Option LabelTree). IfErr c.can_label_be_both.result (IsUnjudgedWith c.args.held.now c.args.unheld.now label))
    (c.label.ensures ∙ first) c.can_label_be_both.ensures.refused
