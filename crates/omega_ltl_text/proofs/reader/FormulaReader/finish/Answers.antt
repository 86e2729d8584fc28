-- What is left is the formula.
use Rattle.omega_ltl_text.proofs.Taking.{finish_formula, finish_nodes, finish_refused}
use Rattle.omega_ltl_text.proofs.reader.FormulaReader.finish.Goals as goal

pub returns-clause-formula : goal.returns-clause-formula
returns-clause-formula c =
    finish_formula c.args.self c.self.inside.table c.reduce.new.table c.self.inside.pending.items c.reduce.new.pending.items c.self.inside.current
    c.unwrap-tree.result c.in_ok-root.root c.self.view_is c.unwrap-tree.ensures c.in_ok-root.ensures.reduces c.requires.whole c.finish.result c.finish.ensures.ok

pub returns-clause-nodes : goal.returns-clause-nodes
returns-clause-nodes c =
    finish_nodes c.args.self c.self.inside.table c.reduce.new.table c.self.inside.pending.items c.reduce.new.pending.items c.self.inside.current
    c.unwrap-tree.result c.in_ok-root.root c.self.view_is c.unwrap-tree.ensures c.in_ok-root.ensures.reduces c.requires.whole c.requires.few c.finish.result c.finish.ensures.ok

pub returns-clause-refused : goal.returns-clause-refused
returns-clause-refused c =
    finish_refused c.args.self c.self.inside.table c.reduce.new.table c.self.inside.pending.items c.reduce.new.pending.items c.self.inside.current
    c.unwrap-tree.result c.in_ok-root.root c.self.view_is c.unwrap-tree.ensures c.in_ok-root.ensures.reduces c.requires.whole c.requires.few c.finish.result
    c.finish.ensures.refused
