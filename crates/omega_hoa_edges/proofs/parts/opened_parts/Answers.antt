-- What the last nodes say of the last label.
use Rattle.std.proofs.Common.{sym, ◌∙◌}
use Rattle.std.proofs.lemmas.Option.{IfSome_then}
use Rattle.omega_hoa_edges.proofs.Stacks.{conjunct_not, conjunct_other, none_then, opened_joins, opened_nots}
use Rattle.omega_hoa_edges.proofs.parts.opened_parts.Goals as goal

pub returns-then-joins-clause-opened : goal.returns-then-joins-clause-opened
returns-then-joins-clause-opened c =
    opened_joins c.args.nodes.now c.in_ok-node.before.now c.in_ok-node.node.now c.in_ok-node.ensures.cases.0 (sym c.joins.ensures ∙ c.if-joins.true)

pub returns-then-is_not-clause-opened : goal.returns-then-is_not-clause-opened
returns-then-is_not-clause-opened c =
    IfSome_then c.without_not.result c.without_not.ensures.before
    (λ within before. opened_nots c.args.nodes.now c.in_ok-node.before.now within.now c.in_ok-node.node.now c.in_ok-node.ensures.cases.0
    (sym c.is_not.ensures ∙ c.if-is_not.true) before)

pub returns-then-is_not-clause-conjunct : goal.returns-then-is_not-clause-conjunct
returns-then-is_not-clause-conjunct c =
    none_then c.without_not.result c.without_not.ensures.none
    (conjunct_not c.args.nodes.now c.in_ok-node.before.now c.in_ok-node.node.now c.in_ok-node.ensures.cases.0 (sym c.is_not.ensures ∙ c.if-is_not.true))

pub returns-clause-conjunct : goal.returns-clause-conjunct
returns-clause-conjunct c =
    conjunct_other c.args.nodes.now c.in_ok-node.before.now c.in_ok-node.node.now c.in_ok-node.ensures.cases.0 (sym c.joins.ensures ∙ c.if-joins.false)
    (sym c.is_not.ensures ∙ c.if-is_not.false)
