-- Words that satisfy the formula are accepted: good edges are chosen for ever.
use Rattle.std.proofs.Common.{◌≡◌, inl, inr, ◌<◌, ◌+◌, zero, suc, ℕ, Bool, true, false, List, [], ◌∷◌, length, refl, sym, ap, subst, arith}
use Rattle.std.specs.Prelude.{Contains, IsTrue, Option, option_map, unwrap_or}
use Rattle.std.proofs.lemmas.List.Elements.{Contains-push_cases}
use Rattle.omega_text.specs.NamedWords.{NamedWord}
use Rattle.omega_text.specs.Omniscience.{LimitedPrincipleOfOmniscience}
use Rattle.omega_hoa_acceptance.specs.Acceptance.{holds}
use Rattle.omega_hoa_automaton.specs.Automaton.{BodyEdge, Description}
use Rattle.omega_lang_runs.specs.Lasso.{IsStep, marks_at, marks_of}
use Rattle.omega_lang_runs.specs.Runs.{ForEver, Satisfies as RunSatisfies}
use Rattle.omega_lang_word_laws.specs.NamedWords.{AcceptsNamed, part_of}
use Rattle.omega_ltl_formula.specs.Meaning.{Satisfies}
use Rattle.omega_ltl_formula.specs.Table.{IsFormula, NumberedFormula, tree_of}
use Rattle.omega_ltl_shapes.specs.Covers.{HasLiteral, is_set}
use Rattle.omega_ltl_shapes.specs.Demands.{AreTrue, IsLiteralTrue, Signed, Valuation}
use Rattle.omega_ltl_shapes.specs.Graphs.{IsGood}
use Rattle.omega_ltl_shapes.specs.Laws.{AreTruthsOf, GoodTermsAccept, TruthsFollowShapes}
use Rattle.omega_ltl_shapes.specs.Shapes.{AreShapesOf, demand}
use Rattle.omega_ltl_shapes.specs.declared.cube.Cube.{Cube}
use Rattle.omega_ltl_shapes.specs.declared.shape.Shape.{Shape}
use Rattle.omega_ltl_shapes.specs.declared.term.Term.{Term}
use Rattle.omega_ltl_shapes.proofs.Showing.{unmet}
use Rattle.omega_ltl_translation.specs.declared.graph.GraphEdge.{GraphEdge}
use Rattle.omega_ltl_translation.specs.private.Automata.{IsAutomatonOf, IsMade}
use Rattle.omega_ltl_translation.specs.private.Graphs.{AreEdgesOf, IsExplored, IsNumberedEdge, edges_of_state, state_of}
use Rattle.omega_ltl_translation.proofs.Recurring.{recurs_each}

-- the demand on the root is one of the table
pub root_below : (formula : NumberedFormula) → IsFormula formula → (shapes : List Shape) → AreShapesOf formula.table.nodes shapes → (negated : Bool) → demand formula.root negated < length shapes
root_below formula is_formula shapes are false = omega (arith, are.count, is_formula.rooted)
root_below formula is_formula shapes are true = omega (arith, are.count, is_formula.rooted)

module _ (formula : NumberedFormula) (is_formula : IsFormula formula) (shapes : List Shape) (are : AreShapesOf formula.table.nodes shapes) (strongs : List ℕ) (negated : Bool)
    (states : List (List ℕ)) (edges : List (List GraphEdge)) (explored : IsExplored shapes strongs (demand formula.root negated) (length states) states edges)
    (a : Description) (is : IsAutomatonOf formula.table.names (length strongs) (length states) edges a) (word : NamedWord)
    (v : Valuation shapes) (truths : AreTruthsOf formula.table word shapes v) (root_true : IsTrue (v.truth (demand formula.root negated) 0)) where
  -- a state of the graph whose demands are true at an index
  record Standing (i : ℕ) : Type 0 where
    number : ℕ
    low : number < length states
    all : AreTrue v (state_of states number) i

  -- a good edge from there
  record Going (i : ℕ) (from : Standing i) : Type 0 where
    term : Term
    good : IsGood strongs v i term
    edge : GraphEdge
    listed : Contains (edges_of_state edges from.number) edge
    numbered : IsNumberedEdge states term edge

  abbrev go_from : (i : ℕ) (from : Standing i) → Going i from
  go_from i from =
      let there : AreEdgesOf shapes strongs states (state_of states from.number) (edges_of_state edges from.number) = explored.rows from.number from.low in
      let good = there.enough v i from.all in
      let edge = there.numbered.each good.0 good.1 in
      record { term = good.0; good = good.2; edge = edge.0; listed = edge.1; numbered = edge.2 }

  one_more : (i : ℕ) → i + 1 ≡ suc i
  one_more i = omega arith

  all_next : (i : ℕ) (from : Standing i) → AreTrue v (state_of states (go_from i from).edge.target) (suc i)
  all_next i from = subst (AreTrue v (state_of states (go_from i from).edge.target)) (one_more i)
      (subst (λ (s : List ℕ). AreTrue v s (i + 1)) (sym (go_from i from).numbered.target) (go_from i from).good.next)

  abbrev next_of : (i : ℕ) (from : Standing i) → Standing (suc i)
  next_of i from = record { number = (go_from i from).edge.target; low = (go_from i from).numbered.low; all = all_next i from }

  all_start : AreTrue v (state_of states 0) 0
  all_start = explored.start.true_then v 0 (λ d h. elim (Contains-push_cases [] (demand formula.root negated) d h) [
    | inl none ↦ absurd (omega (arith, none.1))
    | inr same ↦ subst (λ (n : ℕ). IsTrue (v.truth n 0)) same root_true
  ])

  abbrev standing : (i : ℕ) → Standing i
  standing zero = record { number = 0; low = explored.some; all = all_start }
  standing (suc i) = next_of i (standing i)

  -- the number of the next state is that of the edge
  next_number : (i : ℕ) → (standing (i + 1)).number ≡ (go_from i (standing i)).edge.target
  next_number i = ap (λ (k : ℕ). (standing k).number) (one_more i)

  -- the edge of the automaton that it is
  true_cube : (i name : ℕ) (negated : Bool) → HasLiteral (go_from i (standing i)).edge.cube name negated → IsLiteralTrue (part_of a.propositions word i) name negated
  true_cube i name negated h =
      subst (λ (names : List (List ℕ)). IsLiteralTrue (part_of names word i) name negated) (sym is.propositions)
      (subst (λ (held : ℕ → ℕ → Bool). IsLiteralTrue (held i) name negated) truths.held
      ((go_from i (standing i)).good.literals name negated (subst (λ (c : Cube). HasLiteral c name negated) (go_from i (standing i)).numbered.cube h)))

  made : (i : ℕ) → IsMade a (length strongs) (standing i).number (part_of a.propositions word i) (go_from i (standing i)).edge
  made i = is.made (standing i).number (go_from i (standing i)).edge (part_of a.propositions word i) (standing i).low (go_from i (standing i)).listed (true_cube i)

  abbrev edge_numbers : ℕ → ℕ
  edge_numbers i = (made i).number

  marks_here : (i : ℕ) → marks_at a (edge_numbers i) ≡ marks_of (made i).step.edge
  marks_here i = ap (λ (o : Option BodyEdge). unwrap_or (option_map marks_of o) []) (made i).step.numbered

  recurs : GoodTermsAccept → (set : ℕ) → set < length strongs → ForEver (λ i. marks_at a (edge_numbers i)) false set
  recurs accept set low i =
      let at = accept shapes strongs v (λ k. (go_from k (standing k)).term) (λ k. (go_from k (standing k)).good) set i in (
        at.0,
        at.1,
        subst (λ (m : List ℕ). IsTrue (holds set m)) (sym (marks_here at.0))
            (((made at.0).marks set low).1 (subst (λ (w : ℕ). is_set w set ≡ false) (sym (go_from at.0 (standing at.0)).numbered.late) at.2)),
      )

  pub accepted : GoodTermsAccept → AcceptsNamed a word
  accepted accept = record {
    states = λ i. (standing i).number;
    edges = edge_numbers;
    accepting = record {
      run = record {
        begins = subst (λ (s : List (List ℕ)). Contains s (0 ∷ [])) (sym is.starts) (0, omega arith, refl);
        steps = λ i. subst (λ (n : ℕ). IsStep a (standing i).number (edge_numbers i) n) (sym (next_number i)) (made i).step;
      };
      accepted = subst (RunSatisfies (λ i. marks_at a (edge_numbers i))) (sym is.acceptance)
          (recurs_each (λ i. marks_at a (edge_numbers i)) (length strongs) (recurs accept));
    };
    taken = λ i. (record { edge = (made i).step.edge; numbered = (made i).step.numbered; allowed = (made i).allowed });
  }

pub satisfied_accepted : TruthsFollowShapes → GoodTermsAccept → LimitedPrincipleOfOmniscience → (formula : NumberedFormula) → IsFormula formula → (shapes : List Shape)
    → AreShapesOf formula.table.nodes shapes → (strongs : List ℕ) (negated : Bool) (states : List (List ℕ)) (edges : List (List GraphEdge))
    → IsExplored shapes strongs (demand formula.root negated) (length states) states edges → (a : Description)
    → IsAutomatonOf formula.table.names (length strongs) (length states) edges a → (word : NamedWord) → Signed negated (Satisfies (tree_of formula) word) → AcceptsNamed a word
satisfied_accepted truths accept omniscience formula is_formula shapes are strongs negated states edges explored a is word holds_now =
    let v = truths omniscience formula word shapes is_formula are in
    let low : demand formula.root negated < length shapes = root_below formula is_formula shapes are negated in
    accepted formula is_formula shapes are strongs negated states edges explored a is word v.0 v.1
    ((v.1.truth (demand formula.root negated) 0 low).0 (unmet formula.table word formula.root negated 0 holds_now)) accept
