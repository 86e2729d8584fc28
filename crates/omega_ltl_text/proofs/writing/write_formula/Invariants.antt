-- What is written and what is not are the text, and less and less is to be done.
use Rattle.omega_ltl_formula.specs.Table.{tree_of}
use Rattle.omega_ltl_text.specs.Written.{formula_text}
use Rattle.omega_ltl_text.specs.private.Unwritten.{works}
use Rattle.omega_ltl_text.proofs.Writings.{IsWriting}
use Rattle.omega_ltl_text.proofs.writing.write_formula.Given as goal

abbrev pub invariant-loop-next : goal.invariant-loop-next
invariant-loop-next l = IsWriting l.formula.table (formula_text (tree_of l.formula)) l.out.items l.unwritten.items

abbrev pub decreases-loop-next : goal.decreases-loop-next
decreases-loop-next l = works l.formula.table l.unwritten.items
