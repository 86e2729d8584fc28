-- The automaton of a graph of a formula is a translation.
use Rattle.std.proofs.Common.{◌≡◌, ℕ, Bool, true, false, List, length, refl, sym, ◌∙◌}
use Rattle.std.specs.Prelude.{IsTrue}
use Rattle.std.proofs.lemmas.Bool.{both_ways}
use Rattle.omega_text.specs.NamedWords.{NamedWord}
use Rattle.omega_hoa_automaton.specs.Automaton.{Description}
use Rattle.omega_ltl_formula.specs.Formula.{FormulaTree}
use Rattle.omega_ltl_formula.specs.Laws.{FormulasAreDecided}
use Rattle.omega_ltl_formula.specs.Meaning.{Satisfies}
use Rattle.omega_ltl_formula.specs.Table.{IsFormula, NumberedFormula, tree_of}
use Rattle.omega_ltl_shapes.specs.Demands.{Signed}
use Rattle.omega_ltl_shapes.specs.Graphs.{IsSetOf}
use Rattle.omega_ltl_shapes.specs.Laws.{GoodTermsAccept, TracesAreSound, TruthsFollowShapes}
use Rattle.omega_ltl_shapes.specs.Shapes.{AreShapesOf, demand}
use Rattle.omega_ltl_shapes.specs.declared.shape.Shape.{Shape}
use Rattle.omega_ltl_terms.specs.Tables.{AreStrongs}
use Rattle.omega_ltl_translation.specs.Translation.{IsTranslation, RejectedWordsSatisfy, asked_tree}
use Rattle.omega_ltl_translation.specs.declared.graph.GraphEdge.{GraphEdge}
use Rattle.omega_ltl_translation.specs.private.Automata.{IsAutomatonOf}
use Rattle.omega_ltl_translation.specs.private.Graphs.{IsExplored}
use Rattle.omega_ltl_translation.proofs.Choosing.{satisfied_accepted}
use Rattle.omega_ltl_translation.proofs.Tracing.{satisfied}

-- the formula that is asked for
pub signed_asked : (negated : Bool) (formula : FormulaTree) (word : NamedWord) → Signed negated (Satisfies formula word) → Satisfies (asked_tree negated formula) word
signed_asked false formula word h = h
signed_asked true formula word h = h

pub asked_signed : (negated : Bool) (formula : FormulaTree) (word : NamedWord) → Satisfies (asked_tree negated formula) word → Signed negated (Satisfies formula word)
asked_signed false formula word h = h
asked_signed true formula word h = h

-- each set is of one demand
sets_once : (shapes : List Shape) (strongs : List ℕ) → AreStrongs shapes strongs → (d one other : ℕ) → IsSetOf strongs one d → IsSetOf strongs other d → one ≡ other
sets_once shapes strongs are d one other first second = are.once one other first.below second.below (first.is ∙ sym second.is)

pub translated : TruthsFollowShapes → TracesAreSound → GoodTermsAccept → (formula : NumberedFormula) → IsFormula formula → (shapes : List Shape) → AreShapesOf formula.table.nodes shapes
    → (strongs : List ℕ) → AreStrongs shapes strongs → (negated : Bool) (states : List (List ℕ)) (edges : List (List GraphEdge))
    → IsExplored shapes strongs (demand formula.root negated) (length states) states edges → (a : Description)
    → IsAutomatonOf formula.table.names (length strongs) (length states) edges a → IsTranslation (asked_tree negated (tree_of formula)) a
translated truths sound accept formula is_formula shapes are strongs are_strongs negated states edges explored a is = record {
  sound = λ word accepted. signed_asked negated (tree_of formula) word
      (satisfied formula is_formula shapes are strongs negated (sets_once shapes strongs are_strongs) states edges explored a is word accepted sound);
  complete = λ omniscience word holds.
      satisfied_accepted truths accept omniscience formula is_formula shapes are strongs negated states edges explored a is word (asked_signed negated (tree_of formula) word holds);
}

-- what the automaton of the negation does not accept
pub rejected_satisfy : FormulasAreDecided → RejectedWordsSatisfy
rejected_satisfy decided omniscience formula a is word rejected =
    let truth = decided omniscience formula word in
    either (truth.0 0) (λ sure. (truth.1 0).1 sure)
    (λ never. absurd (rejected (is.complete omniscience word (λ holds. both_ways (truth.0 0) never ((truth.1 0).0 holds)))))
  where
    either : (value : Bool) → (IsTrue value → Satisfies formula word) → (value ≡ false → Satisfies formula word) → Satisfies formula word
    either true holds fails = holds refl
    either false holds fails = fails refl
