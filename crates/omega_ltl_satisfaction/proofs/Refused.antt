-- The refusals of an automaton that is met with those of conjuncts.
use Rattle.std.proofs.Common.{◌≡◌, false}
use Rattle.omega_hoa_automaton.specs.Automaton.{Description}
use Rattle.omega_hoa_automaton.specs.Branching.{has_universal_branching}
use Rattle.omega_lang_product.specs.Product.{IsProduct}
use Rattle.omega_lang_product.specs.Refusing.{IsGraphRefusal, IsPairsFault, IsProductRefusal}
use Rattle.omega_lang_product.specs.Refusing.{IsProductTooLarge, IsGraphTooLarge, large_graph}
use Rattle.omega_ltl_formula.specs.Formula.{FormulaTree}
use Rattle.omega_ltl_formula.specs.Table.{FormulaTable, tree_at}
use Rattle.omega_text.specs.declared.refusal.Refusal.{Refusal}
use Rattle.omega_text.specs.declared.refusal.Refusal.TheVariants.{Memory, Task}
use Rattle.omega_text.specs.declared.refusal.task.TaskFault.{TaskFault}
use Rattle.omega_text.specs.declared.refusal.task.TaskFault.TheVariants.{TooLarge, TooManyPropositions}
use Rattle.omega_text.specs.declared.refusal.task.TaskFault.TheVariants.{UniversalBranch}
use Rattle.omega_ltl_satisfaction.specs.Conjuncts.{IsConjunctOf}
use Rattle.omega_ltl_satisfaction.specs.Refusing.{IsConjunctAutomaton, IsMeetingRefusal, IsMetWithConjuncts}
use Rattle.omega_ltl_satisfaction.specs.Refusing.{none, not_met, not_translated, one_more}
use Rattle.omega_ltl_satisfaction.specs.declared.conjunct.Conjunct.{Conjunct}
use Rattle.omega_ltl_satisfaction.specs.private.Conjuncts.{conjunct_over}
use Rattle.omega_ltl_satisfaction.specs.private.Meeting.{IsAutomatonOf}

-- the refusal of a graph is one of the product
fault_wider : (one other : Description) (fault : TaskFault) → IsPairsFault (IsGraphTooLarge one other) one other fault → IsPairsFault (IsProductTooLarge one other) one other fault
fault_wider one other UniversalBranch is = is
fault_wider one other TooManyPropositions is = is
fault_wider one other TooLarge is = (is.0, large_graph is.1)
fault_wider one other fault is = absurd is

pub graph_wider : (one other : Description) (refusal : Refusal) → IsGraphRefusal one other refusal → IsProductRefusal one other refusal
graph_wider one other (Task fault) is = fault_wider one other fault is
graph_wider one other Memory is = tt
graph_wider one other refusal is = absurd is

-- what a product with the automaton of a conjunct is met with, the first automaton is
module _ (whole : FormulaTree) (one conjunct both : Description) (is : IsConjunctAutomaton whole conjunct) (product : IsProduct one conjunct both) where
  met_before : (other : Description) → IsMetWithConjuncts whole both other → IsMetWithConjuncts whole one other
  met_before other none = one_more one conjunct both none is product
  met_before other (one_more first next last met automaton of) = one_more first next last (met_before first met) automaton of

  pub refused_before : (refusal : Refusal) → IsMeetingRefusal both whole refusal → IsMeetingRefusal one whole refusal
  refused_before refusal (not_translated large) = not_translated large
  refused_before refusal (not_met other next met plain automaton refused) = not_met other next (met_before other met) plain automaton refused

-- the refusal of a product with the automaton of a conjunct, or of its graph
module _ (table : FormulaTable) (whole : FormulaTree) (one part : Description) (c : Conjunct) (is : IsAutomatonOf table c part)
    (of : IsConjunctOf whole (conjunct_over (tree_at table) c)) where
  pub conjunct_automaton : IsConjunctAutomaton whole part
  conjunct_automaton = record {
    conjunct = conjunct_over (tree_at table) c;
    of_whole = of;
    translates = is.translates;
    buchi = is.buchi;
  }

  pub product_refused : has_universal_branching one ≡ false → (refusal : Refusal) → IsProductRefusal one part refusal → IsMeetingRefusal one whole refusal
  product_refused plain refusal refused = not_met one part none plain conjunct_automaton refused

  pub graph_refused : has_universal_branching one ≡ false → (refusal : Refusal) → IsGraphRefusal one part refusal → IsMeetingRefusal one whole refusal
  graph_refused plain refusal refused = product_refused plain refusal (graph_wider one part refusal refused)
