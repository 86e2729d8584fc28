-- what the common words say, and their refusals
use Rattle.std.proofs.lemmas.Result.{IfErr-weaker, IfOk-weaker}
use Rattle.omega_ltl_formula.specs.Formula.{FormulaTree}
use Rattle.omega_ltl_formula.specs.Table.{tree_of}
use Rattle.omega_ltl_translation.specs.Translation.{asked_tree}
use Rattle.omega_ltl_satisfaction.proofs.Answering.{words_met}
use Rattle.omega_ltl_satisfaction.proofs.words.words_by.Goals as goal

pub returns-clause-right : goal.returns-clause-right
returns-clause-right c =
    let formula = c.args.formula.now in
    let whole : FormulaTree = asked_tree c.args.negated (tree_of formula) in
    IfOk-weaker c.common_words.result _ _
    (λ answer right. words_met c.args.automaton.now formula whole c.args.conjuncts.now c.requires.conjuncts answer right)
    c.common_words.ensures.right

pub returns-clause-refused : goal.returns-clause-refused
returns-clause-refused c =
    let formula = c.args.formula.now in
    let whole : FormulaTree = asked_tree c.args.negated (tree_of formula) in
    IfErr-weaker c.common_words.result _ _ (λ refusal refused. refused whole c.requires.conjuncts.found_are) c.common_words.ensures.refused
