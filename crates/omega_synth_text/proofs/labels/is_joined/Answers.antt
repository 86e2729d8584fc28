-- the last node of a label is its operator
use Rattle.std.proofs.Common.{◌≡◌, ◌-◌, List, None, Some, length, ap, sym, ◌∙◌}
use Rattle.std.specs.Prelude.{slice_get}
use Rattle.omega_hoa_label.specs.Postfix.{postfix}
use Rattle.omega_hoa_label.specs.declared.label.LabelNode.{LabelNode}
use Rattle.omega_synth_text.proofs.Literals.{last_joins, last_there}
use Rattle.omega_synth_text.proofs.labels.is_joined.Goals as goal

pub returns-in-Some : goal.returns-in-Some
returns-in-Some c =
    let last : slice_get (postfix c.args.label.now) (length (postfix c.args.label.now) - 1) ≡ Some c.in-Some.node.now =
    ap (λ (nodes : List LabelNode). slice_get nodes (length nodes - 1)) (sym c.nodes.ensures.nodes) ∙ sym c.in-Some.ensures.value in
    c.joins.ensures ∙ last_joins c.args.label.now c.in-Some.node.now last

pub returns-in-None : goal.returns-in-None
returns-in-None c =
    let last : slice_get (postfix c.args.label.now) (length (postfix c.args.label.now) - 1) ≡ None =
    ap (λ (nodes : List LabelNode). slice_get nodes (length nodes - 1)) (sym c.nodes.ensures.nodes) ∙ sym c.in-None.ensures.value in
    absurd (last_there c.args.label.now last)
