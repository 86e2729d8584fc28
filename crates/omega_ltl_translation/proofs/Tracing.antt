-- Accepted words satisfy the formula: a run is a trace.
use Rattle.std.proofs.Common.{◌≡◌, ◌⊎◌, inl, inr, ◌<◌, ◌+◌, zero, suc, ℕ, Bool, false, List, [], ◌∷◌, length, refl, sym, ap, subst, ◌∙◌, arith}
use Rattle.std.specs.Prelude.{Contains, IsTrue, Option, Some, option_map, unwrap_or}
use Rattle.std.proofs.lemmas.List.Elements.{Contains-push_cases}
use Rattle.omega_text.specs.NamedWords.{NamedWord}
use Rattle.omega_hoa_acceptance.specs.Acceptance.{holds}
use Rattle.omega_hoa_automaton.specs.Automaton.{BodyEdge, Description}
use Rattle.omega_lang_runs.specs.Lasso.{label_of, marks_at, marks_of}
use Rattle.omega_lang_runs.specs.Runs.{ForEver, IsRun, Satisfies as RunSatisfies}
use Rattle.omega_lang_runs.specs.Words.{Allows}
use Rattle.omega_lang_word_laws.specs.NamedWords.{AcceptsNamed, part_of}
use Rattle.omega_ltl_formula.specs.Meaning.{Satisfies}
use Rattle.omega_ltl_formula.specs.Table.{IsFormula, NumberedFormula, tree_of}
use Rattle.omega_ltl_shapes.specs.Covers.{CoversAll, HasLiteral, is_set}
use Rattle.omega_ltl_shapes.specs.Demands.{IsLiteralTrue, Signed, seen_of}
use Rattle.omega_ltl_shapes.specs.Graphs.{IsRight, IsSetOf, IsTrace, Trace}
use Rattle.omega_ltl_shapes.specs.Laws.{TracesAreSound}
use Rattle.omega_ltl_shapes.specs.Shapes.{AreShapesOf, demand}
use Rattle.omega_ltl_shapes.specs.declared.cube.Cube.{Cube}
use Rattle.omega_ltl_shapes.specs.declared.shape.Shape.{Shape}
use Rattle.omega_ltl_shapes.specs.declared.term.Term.{Term}
use Rattle.omega_ltl_shapes.proofs.Showing.{met}
use Rattle.omega_ltl_translation.specs.declared.graph.GraphEdge.{GraphEdge}
use Rattle.omega_ltl_translation.specs.private.Automata.{IsAutomatonOf, IsTaken}
use Rattle.omega_ltl_translation.specs.private.Graphs.{AreEdgesOf, IsExplored, IsNumberedEdge, edges_of_state, state_of}
use Rattle.omega_ltl_translation.proofs.Recurring.{each_recurs}

module _ (formula : NumberedFormula) (is_formula : IsFormula formula) (shapes : List Shape) (are : AreShapesOf formula.table.nodes shapes) (strongs : List ℕ) (negated : Bool)
    (once : (d one other : ℕ) → IsSetOf strongs one d → IsSetOf strongs other d → one ≡ other)
    (states : List (List ℕ)) (edges : List (List GraphEdge)) (explored : IsExplored shapes strongs (demand formula.root negated) (length states) states edges)
    (a : Description) (is : IsAutomatonOf formula.table.names (length strongs) (length states) edges a) (word : NamedWord) (accepted : AcceptsNamed a word) where
  run : IsRun a accepted.states accepted.edges
  run = accepted.accepting.run

  same_edge : (x y : BodyEdge) → Some x ≡ Some y → x ≡ y
  same_edge x y e = cc

  same_state : (x y : ℕ) → (x ∷ []) ≡ (y ∷ []) → x ≡ y
  same_state x y e = cc

  start_zero : 0 ≡ accepted.states 0
  start_zero = go (Contains-push_cases [] (0 ∷ []) (accepted.states 0 ∷ []) (subst (λ (s : List (List ℕ)). Contains s (accepted.states 0 ∷ [])) is.starts run.begins))
    where
      go : Contains [] (accepted.states 0 ∷ []) ⊎ ((0 ∷ []) ≡ (accepted.states 0 ∷ [])) → 0 ≡ accepted.states 0
      go (inl none) = absurd (omega (arith, none.1))
      go (inr same) = same_state 0 (accepted.states 0) same

  allowed_at : (i : ℕ) → Allows a (accepted.edges i) (label_of (run.steps i).edge) (part_of a.propositions word i)
  allowed_at i = subst (λ (e : BodyEdge). Allows a (accepted.edges i) (label_of e) (part_of a.propositions word i))
      (same_edge (accepted.taken i).edge (run.steps i).edge (sym (accepted.taken i).numbered ∙ (run.steps i).numbered)) (accepted.taken i).allowed

  abbrev Taken : ℕ → Type 0
  Taken i = IsTaken edges (length strongs) (accepted.states i) (accepted.states (i + 1)) (part_of a.propositions word i) (run.steps i).edge

  -- the edge of the graph that is taken from a state of the graph
  take_at : (i : ℕ) → accepted.states i < length states → Taken i
  take_at i low = is.taken (accepted.states i) (accepted.edges i) (accepted.states (i + 1)) (run.steps i) (part_of a.propositions word i) low (allowed_at i)

  edges_at : (i : ℕ) → accepted.states i < length states
      → AreEdgesOf shapes strongs states (state_of states (accepted.states i)) (edges_of_state edges (accepted.states i))
  edges_at i low = explored.rows (accepted.states i) low

  -- the term that it is
  record Fixed (i : ℕ) (taken : Taken i) : Type 0 where
    term : Term
    numbered : IsNumberedEdge states term taken.edge
    right : IsRight shapes strongs (state_of states (accepted.states i)) term

  fix_at : (i : ℕ) (low : accepted.states i < length states) (taken : Taken i) → Fixed i taken
  fix_at i low taken =
      let from = (edges_at i low).numbered.only taken.edge taken.listed in
      record { term = from.0; numbered = from.2; right = (edges_at i low).right from.0 from.1 }

  -- all states are of the graph
  low_at : (i : ℕ) → accepted.states i < length states
  low_at zero = subst (λ (n : ℕ). n < length states) start_zero explored.some
  low_at (suc i) =
      let taken = take_at i (low_at i) in
      subst (λ (n : ℕ). accepted.states n < length states) (let e : i + 1 ≡ suc i = omega arith in e)
      (subst (λ (n : ℕ). n < length states) taken.target (fix_at i (low_at i) taken).numbered.low)

  taken : (i : ℕ) → Taken i
  taken i = take_at i (low_at i)

  fixed : (i : ℕ) → Fixed i (taken i)
  fixed i = fix_at i (low_at i) (taken i)

  abbrev trace : Trace
  trace = record {
    states = λ i. state_of states (accepted.states i);
    cubes = λ i. (fixed i).term.cube;
    nexts = λ i. (fixed i).right.next;
    lates = λ i. (fixed i).term.late;
  }

  -- the next state is where the edge leads
  leads : (i : ℕ) → (fixed i).term.next ≡ state_of states (accepted.states (i + 1))
  leads i = sym (fixed i).numbered.target ∙ ap (state_of states) (taken i).target

  marks_here : (i : ℕ) → marks_at a (accepted.edges i) ≡ marks_of (run.steps i).edge
  marks_here i = ap (λ (o : Option BodyEdge). unwrap_or (option_map marks_of o) []) (run.steps i).numbered

  recurs : (set : ℕ) → set < length strongs → ForEver (λ i. marks_at a (accepted.edges i)) false set
  recurs set low = each_recurs (λ i. marks_at a (accepted.edges i)) (length strongs)
      (subst (RunSatisfies (λ i. marks_at a (accepted.edges i))) is.acceptance accepted.accepting.accepted) set low

  is_trace : IsTrace shapes strongs (seen_of formula.table.names word) trace
  is_trace = record {
    allowed = λ i name negated h. subst (λ (names : List (List ℕ)). IsLiteralTrue (part_of names word i) name negated) is.propositions
        ((taken i).true_cube name negated (subst (λ (c : Cube). HasLiteral c name negated) (sym (fixed i).numbered.cube) h));
    covers = λ i. (fixed i).right.covers;
    goes = λ i. (fixed i).right.closed.covered (fixed (i + 1)).term.cube (fixed (i + 1)).right.next
        (subst (CoversAll shapes (fixed (i + 1)).term.cube (fixed (i + 1)).right.next) (sym (leads i)) (fixed (i + 1)).right.covers);
    kept = λ i d h strong. subst (λ (s : List ℕ). Contains s d) (leads i) ((fixed i).right.closed.kept d h strong);
    postponed = λ i d h strong. (fixed i).right.postponed d h strong;
    once = once;
    ever = λ set i low.
        let at = recurs set low i in (
          at.0,
          at.1,
          subst (λ (w : ℕ). is_set w set ≡ false) (fixed at.0).numbered.late
              (((taken at.0).marks set low).0 (subst (λ (m : List ℕ). IsTrue (holds set m)) (marks_here at.0) at.2)),
        );
  }

  pub satisfied : TracesAreSound → Signed negated (Satisfies (tree_of formula) word)
  satisfied sound = met formula.table word formula.root negated 0
      (sound formula word shapes strongs trace is_formula are is_trace (demand formula.root negated) 0
      (explored.start.closing.covered (fixed 0).term.cube (fixed 0).right.next
      (subst (λ (n : ℕ). CoversAll shapes (fixed 0).term.cube (fixed 0).right.next (state_of states n)) (sym start_zero) (fixed 0).right.covers)
      (demand formula.root negated) (0, omega arith, refl)))
