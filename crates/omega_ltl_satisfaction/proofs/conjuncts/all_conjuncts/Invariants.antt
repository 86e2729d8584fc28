-- the conjuncts so far, and what is pending, which gets smaller
use Rattle.std.specs.Prelude.{sum_by}
use Rattle.omega_ltl_formula.specs.Formula.{formula_size}
use Rattle.omega_ltl_formula.specs.Table.{tree_at, tree_of}
use Rattle.omega_ltl_translation.specs.Translation.{asked_tree}
use Rattle.omega_ltl_satisfaction.specs.declared.conjunct.Conjunct.{Conjunct}
use Rattle.omega_ltl_satisfaction.specs.private.Conjuncts.{IsTakenApart}
use Rattle.omega_ltl_satisfaction.proofs.conjuncts.all_conjuncts.Given as goal

abbrev pub invariant-loop-conjunct : goal.invariant-loop-conjunct
invariant-loop-conjunct l = IsTakenApart l.formula.table (asked_tree l.negated (tree_of l.formula)) l.found.items l.pending.items

abbrev pub decreases-loop-conjunct : goal.decreases-loop-conjunct
decreases-loop-conjunct l = sum_by (λ (part : Conjunct). formula_size (tree_at l.formula.table part.node)) l.pending.items
