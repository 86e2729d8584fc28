-- one more node
use Rattle.std.proofs.Common.{rules, sym, subst}
use Rattle.omega_graph_accepting_walk.specs.private.Formulas.{IsFormula}
use Rattle.omega_graph_accepting_walk.proofs.Placing.{IsFormula-push, tree_pushed}
use Rattle.omega_graph_accepting_walk.proofs.flattening.push_node.Goals as goal

pub returns-clause-formula : goal.returns-clause-formula
returns-clause-formula c =
    subst IsFormula (sym c.in_ok-push.ensures.items) (IsFormula-push c.args.nodes.now.items c.args.node c.requires.formula c.requires.made)

pub returns-clause-tree : goal.returns-clause-tree
returns-clause-tree c =
    tree_pushed c.args.nodes.now.items c.push.new.self.items c.args.node c.len-place.result c.in_ok-push.ensures.items (search rules)
