-- A label is added unless it is there.
use Rattle.std.proofs.Common.{◌≡◌, true, false, ◌++◌, ◌∷◌, [], List, sym, ap, ◌∙◌}
use Rattle.std.specs.Cmp.Lexicographic.{pointwise}
use Rattle.std.specs.List.{list_any}
use Rattle.omega_hoa_label.specs.Label.{LabelTree}
use Rattle.omega_hoa_label.specs.Postfix.{postfix}
use Rattle.omega_hoa_label.specs.contracts.label.LabelNodePartialEq.TheImpl as node
use Rattle.omega_hoa_edges.proofs.Adding.{absent, present}
use Rattle.omega_hoa_edges.proofs.finding.add_once.Goals as goal

pub returns-then-is_among-clause-added : goal.returns-then-is_among-clause-added
returns-then-is_among-clause-added c =
    let there : list_any (λ (label : LabelTree). pointwise node.ghosts.eq c.args.nodes.now (postfix label)) c.args.found.now.items ≡ true =
    sym (c.is_among.ensures ∙ ap (λ (labels : List LabelTree). list_any (λ (label : LabelTree). pointwise node.ghosts.eq c.args.nodes.now (postfix label)) labels) c.as_slice.ensures.value)
    ∙ c.if-is_among.true in
    λ label is. present c.args.nodes.now c.args.found.now.items label there is

pub returns-clause-added : goal.returns-clause-added
returns-clause-added c =
    let none : list_any (λ (label : LabelTree). pointwise node.ghosts.eq c.args.nodes.now (postfix label)) c.args.found.now.items ≡ false =
    sym (c.is_among.ensures ∙ ap (λ (labels : List LabelTree). list_any (λ (label : LabelTree). pointwise node.ghosts.eq c.args.nodes.now (postfix label)) labels) c.as_slice.ensures.value)
    ∙ c.if-is_among.false in
    λ label is.
    c.in_ok-push.ensures.items
    ∙ (ap (λ (made : LabelTree). c.args.found.now.items ++ made ∷ []) (c.in_ok-label.ensures.label label is)
    ∙ absent c.args.nodes.now c.args.found.now.items label none is)
