-- There are no names and no nodes.
use Rattle.std.proofs.Common.{ap₂, sym, subst, List, ℕ, Vec}
use Rattle.std.specs.Global.{Global}
use Rattle.std.proofs.lemmas.List.{nil_from_length}
use Rattle.omega_ltl_formula.specs.Table.{FormulaTable, IsTable}
use Rattle.omega_ltl_formula.specs.declared.node.FormulaNode.{FormulaNode}
use Rattle.omega_ltl_formula.specs.private.Keys.{table_of}
use Rattle.omega_ltl_formula.proofs.Growing.{empty_is}
use Rattle.omega_ltl_formula.proofs.builder.FormulaBuilder.new.Goals as goal

pub invariant_of-result : goal.invariant_of-result
invariant_of-result c =
    let names = nil_from_length c.new.result.keys c.new.ensures.len in
    let nodes = nil_from_length c.new-2.result.keys c.new-2.ensures.len in
    subst IsTable (sym (ap₂ table_of names nodes)) empty_is
