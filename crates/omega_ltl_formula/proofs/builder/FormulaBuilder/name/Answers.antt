-- The name is put into the table, and then its node.
use Rattle.std.proofs.Common.{ap, sym, ◌∙◌, subst, List, ℕ}
use Rattle.omega_ltl_formula.specs.Table.{FormulaTable, IsTable}
use Rattle.omega_ltl_formula.specs.Building.{with_name}
use Rattle.omega_ltl_formula.specs.private.Keys.{bytes_of}
use Rattle.omega_ltl_formula.proofs.Growing.{tabled}
use Rattle.omega_ltl_formula.proofs.Putting.{name_adds, name_table}
use Rattle.omega_ltl_formula.proofs.builder.FormulaBuilder.name.Goals as goal

pub returns-clause-ok : goal.returns-clause-ok
returns-clause-ok c =
    name_adds c.number_of_node.result c.args.self.now (bytes_of c.self.inside.names.keys) (bytes_of c.number_of_name.new.names.keys) c.self.inside.nodes.keys
    c.number_of_node.new.nodes.keys c.args.bytes.now c.in_ok-number.number c.self.view_is c.self.invariant c.in_ok-number.ensures.names
    c.in_ok-number.ensures.number c.number_of_node.ensures.number c.number_of_node.ensures.nodes

pub invariant_of-self : goal.invariant_of-self
invariant_of-self c =
    subst (λ (names : List (List ℕ)). IsTable (tabled names c.self.inside.nodes.keys)) (sym c.in_err-number.ensures.err) c.self.invariant

pub invariant_of-self-2 : goal.invariant_of-self-2
invariant_of-self-2 c =
    name_table c.number_of_node.result (bytes_of c.self.inside.names.keys) (bytes_of c.number_of_name.new.names.keys) c.self.inside.nodes.keys
    c.number_of_node.new.nodes.keys c.args.bytes.now c.in_ok-number.number c.self.invariant c.in_ok-number.ensures.names
    c.in_ok-number.ensures.number c.number_of_node.ensures.nodes c.number_of_node.ensures.err
