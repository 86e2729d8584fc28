-- The node is put into the table.
use Rattle.std.proofs.Common.{ap}
use Rattle.omega_ltl_formula.specs.Table.{FormulaTable}
use Rattle.omega_ltl_formula.specs.declared.node.FormulaNode.TheVariants.{Binary}
use Rattle.omega_ltl_formula.specs.private.Keys.{bytes_of}
use Rattle.omega_ltl_formula.proofs.Putting.{put_adds, put_same, put_table}
use Rattle.omega_ltl_formula.proofs.builder.FormulaBuilder.binary.Goals as goal

pub returns-clause-ok : goal.returns-clause-ok
returns-clause-ok c =
    put_adds c.number_of_node.result c.args.self.now (bytes_of c.self.inside.names.keys) c.self.inside.nodes.keys c.number_of_node.new.nodes.keys
    (Binary c.args.operator c.args.left c.args.right) c.self.view_is c.self.invariant (c.requires.left, c.requires.right) c.number_of_node.ensures.number c.number_of_node.ensures.nodes

pub returns-clause-names : goal.returns-clause-names
returns-clause-names c = ap (λ (t : FormulaTable). t.names) c.self.view_is

pub returns-clause-err : goal.returns-clause-err
returns-clause-err c =
    put_same c.number_of_node.result c.args.self.now (bytes_of c.self.inside.names.keys) c.self.inside.nodes.keys c.number_of_node.new.nodes.keys
    c.self.view_is c.number_of_node.ensures.err

pub invariant_of-self : goal.invariant_of-self
invariant_of-self c =
    put_table c.number_of_node.result c.args.self.now (bytes_of c.self.inside.names.keys) c.self.inside.nodes.keys c.number_of_node.new.nodes.keys
    (Binary c.args.operator c.args.left c.args.right) c.self.view_is c.self.invariant (c.requires.left, c.requires.right) c.number_of_node.ensures.nodes c.number_of_node.ensures.err
