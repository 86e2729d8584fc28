-- The node is there, behind the others or among them.
use Rattle.std.proofs.Common.{Some, ap, sym, ◌∙◌}
use Rattle.std.specs.List.{list_any}
use Rattle.omega_ltl_formula.specs.contracts.node.FormulaNodePartialEq.TheImpl as node
use Rattle.omega_ltl_formula.proofs.Equality.{node_same, put_with}
use Rattle.omega_ltl_formula.proofs.builder.number_of_node.Goals as goal

pub returns-clause-nodes : goal.returns-clause-nodes
returns-clause-nodes c =
    put_with (list_any (node.ghosts.eq c.args.node) c.args.nodes.now.keys) c.args.nodes.now.keys c.insert_full.new.self.keys c.args.node
    c.in_ok-number.ensures.keys

pub returns-clause-number : goal.returns-clause-number
returns-clause-number c =
    let stored = c.in_ok-number.ensures.stored in
    stored.1 ∙ ap Some (sym (node_same c.args.node stored.0 stored.2))
