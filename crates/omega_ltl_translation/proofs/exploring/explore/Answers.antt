-- one state more has its edges
use Rattle.std.proofs.Common.{◌≡◌, ◌⊎◌, inl, inr, ◌<◌, ◌≤◌, ◌+◌, ℕ, List, [], ◌∷◌, ◌++◌, length, take, refl, subst, sym, ap, ◌∙◌, arith}
use Rattle.std.specs.Prelude.{Contains, sum_by}
use Rattle.std.proofs.lemmas.List.{length_push}
use Rattle.std.proofs.lemmas.List.Elements.{Contains-get_or}
use Rattle.std.proofs.lemmas.List.Sums.{sum_by_push}
use Rattle.omega_ltl_terms.specs.Meeting.{IsStateTooLarge}
use Rattle.omega_ltl_terms.proofs.Refused.{large_weaker, passed_on}
use Rattle.omega_ltl_translation.specs.PastLimits.{HaveEdges, IsGraphTooLarge, many_states, no_edges}
use Rattle.omega_ltl_translation.specs.declared.graph.GraphEdge.{GraphEdge}
use Rattle.omega_ltl_translation.specs.private.Graphs.{AddsStates, AreEdgesOf, GrowTooMany, IsExplored, IsNext, IsStateNumber, LacksNeededSet, state_of}
use Rattle.omega_ltl_translation.proofs.Needing.{reached_too_large}
use Rattle.omega_ltl_translation.proofs.Growing.{adds_weaker, explored_more, explored_none, longer}
use Rattle.omega_ltl_translation.proofs.Reaching.{counted_more, edges_too_large, grown_too_large, reached_first, reached_more}
use Rattle.omega_ltl_translation.proofs.exploring.explore.Goals as goal

pub loop-alloc-init : goal.loop-alloc-init
loop-alloc-init c =
    let shapes = c.args.tables.now.shapes in
    let strongs : List ℕ = c.args.tables.now.strongs in
    let states : List (List ℕ) = c.number_of.new.states.items in
    let start : List ℕ = c.in_ok-start.start in
    let number : ℕ = c.in_ok-number_of.field-0 in
    let from : IsStateNumber start c.new-states.result.items states number =
    subst (λ (s : List ℕ). IsStateNumber s c.new-states.result.items states number) c.as_slice.ensures c.in_ok-number_of.ensures.number in
    let is : IsStateNumber start [] states number = subst (λ (old : List (List ℕ)). IsStateNumber start old states number) c.new-states.ensures.items from in
    let none : length c.new-edges.result.items ≡ 0 = ap length c.new-edges.ensures.items in
    record {
      explored = subst (λ (es : List (List GraphEdge)). IsExplored shapes strongs c.args.root (length es) states es) (sym c.new-edges.ensures.items)
          (explored_none shapes strongs c.args.root number start states c.in_ok-start.ensures.closes is);
      within = omega arith;
      few = omega arith;
      reached = reached_first shapes strongs c.args.root start states c.in_ok-start.ensures.start is.adds;
      counted = subst (λ (es : List (List GraphEdge)). HaveEdges shapes strongs (take (length es) states) (sum_by length es)) (sym c.new-edges.ensures.items) no_edges;
      count = ap (λ (es : List (List GraphEdge)). sum_by length es) (sym c.new-edges.ensures.items);
      found = c.in_ok-number_of.ensures.found;
    }

pub loop-alloc-preserved : goal.loop-alloc-preserved
loop-alloc-preserved c =
    let shapes = c.args.tables.now.shapes in
    let strongs : List ℕ = c.args.tables.now.strongs in
    let edges : List (List GraphEdge) = c.loop-alloc.edges.items in
    let old : List (List ℕ) = c.loop-alloc.states.items in
    let new : List (List ℕ) = c.row_of.new.states.items in
    let row : List GraphEdge = c.in_ok-row.row in
    let low : length edges < length old = omega arith in
    let at : c.len-in-loop-alloc-3.result ≡ length edges = omega arith in
    let state : List ℕ = state_of old (length edges) in
    let is : AreEdgesOf shapes strongs new state row = subst (λ (k : ℕ). AreEdgesOf shapes strongs new (state_of old k) row) at c.in_ok-row.ensures.row in
    let adds : AddsStates (IsNext shapes strongs state) old new = subst (λ (k : ℕ). AddsStates (IsNext shapes strongs (state_of old k)) old new) at c.in_ok-row.ensures.adds in
    let given : AddsStates (λ next. (d : ℕ) → Contains next d → d < length shapes) old new =
    adds_weaker (IsNext shapes strongs state) (λ next. (d : ℕ) → Contains next d → d < length shapes) old new (λ next leads. leads.below) adds in
    let more : IsExplored shapes strongs c.args.root (length edges + 1) new (edges ++ row ∷ []) =
    explored_more shapes strongs c.args.root (length edges) old new edges row c.loop-alloc.invariant.explored given is low in
    let long : length old ≤ length new = longer (IsNext shapes strongs state) old new adds in
    let total : sum_by length c.push.new.self.items ≡ sum_by length edges + length row = ap (λ (es : List (List GraphEdge)). sum_by length es) c.in_ok-push.ensures.items ∙ sum_by_push length edges row in
    let pushed : length c.push.new.self.items ≡ length edges + 1 = ap length c.in_ok-push.ensures.items ∙ length_push edges row in
    record {
      explored = subst (λ (es : List (List GraphEdge)). IsExplored shapes strongs c.args.root (length es) new es) (sym c.in_ok-push.ensures.items)
          (subst (λ (n : ℕ). IsExplored shapes strongs c.args.root n new (edges ++ row ∷ [])) (sym (length_push edges row)) more);
      within = omega arith;
      few = omega arith;
      reached = reached_more shapes strongs c.args.root state old new (Contains-get_or old (length edges) [] low) adds c.loop-alloc.invariant.reached;
      counted = subst (λ (es : List (List GraphEdge)). HaveEdges shapes strongs (take (length es) new) (sum_by length es)) (sym c.in_ok-push.ensures.items)
          (counted_more shapes strongs (IsNext shapes strongs state) old new edges row low adds is c.loop-alloc.invariant.counted);
      count = omega (arith, c.saturating_add-count.ensures, c.loop-alloc.invariant.count, c.len-in-loop-alloc-4.ensures, c.if-count-gt-MOST_EDGES.false, total);
      found = c.in_ok-row.ensures.found;
    }

-- over the limit of states
pub returns-then-len-gt-MOST_STATES-clause-refused : goal.returns-then-len-gt-MOST_STATES-clause-refused
returns-then-len-gt-MOST_STATES-clause-refused c =
    (refl, inl (many_states c.loop-alloc.states.items c.loop-alloc.invariant.reached (omega arith)))

-- the edges of a state, or the states that they lead to
pub returns-in_err-row-clause-refused : goal.returns-in_err-row-clause-refused
returns-in_err-row-clause-refused c =
    let shapes = c.args.tables.now.shapes in
    let strongs : List ℕ = c.args.tables.now.strongs in
    let old : List (List ℕ) = c.loop-alloc.states.items in
    let at : ℕ = c.len-in-loop-alloc-3.result in
    let low : at < length old = omega arith in
    let state : List ℕ = state_of old at in
    let has : Contains old state = Contains-get_or old at [] low in
    passed_on c.from_residual-in_err-row.result _ _ c.from_residual-in_err-row.ensures.1
    (large_weaker (IsStateTooLarge shapes strongs state ⊎ GrowTooMany (IsNext shapes strongs state) old) (IsGraphTooLarge shapes strongs c.args.root ⊎ LacksNeededSet shapes strongs c.args.root)
    (λ why. elim why [
      | inl large ↦ reached_too_large shapes c.args.root strongs state (c.loop-alloc.invariant.reached.each state has) large
      | inr grow ↦ inl (grown_too_large shapes strongs c.args.root state old has c.loop-alloc.invariant.reached grow)
    ])
    _ c.in_err-row.ensures.refused)

-- over the limit of edges
pub returns-then-count-gt-MOST_EDGES-clause-refused : goal.returns-then-count-gt-MOST_EDGES-clause-refused
returns-then-count-gt-MOST_EDGES-clause-refused c =
    let shapes = c.args.tables.now.shapes in
    let strongs : List ℕ = c.args.tables.now.strongs in
    let edges : List (List GraphEdge) = c.loop-alloc.edges.items in
    let old : List (List ℕ) = c.loop-alloc.states.items in
    let new : List (List ℕ) = c.row_of.new.states.items in
    let row : List GraphEdge = c.in_ok-row.row in
    let low : length edges < length old = omega arith in
    let at : c.len-in-loop-alloc-3.result ≡ length edges = omega arith in
    let state : List ℕ = state_of old (length edges) in
    let is : AreEdgesOf shapes strongs new state row = subst (λ (k : ℕ). AreEdgesOf shapes strongs new (state_of old k) row) at c.in_ok-row.ensures.row in
    let adds : AddsStates (IsNext shapes strongs state) old new = subst (λ (k : ℕ). AddsStates (IsNext shapes strongs (state_of old k)) old new) at c.in_ok-row.ensures.adds in
    let total : sum_by length (edges ++ row ∷ []) ≡ sum_by length edges + length row = sum_by_push length edges row in (
      refl,
      inl (edges_too_large shapes strongs c.args.root new (length (edges ++ row ∷ [])) (sum_by length (edges ++ row ∷ []))
          (reached_more shapes strongs c.args.root state old new (Contains-get_or old (length edges) [] low) adds c.loop-alloc.invariant.reached)
          (counted_more shapes strongs (IsNext shapes strongs state) old new edges row low adds is c.loop-alloc.invariant.counted)
          (omega (arith, c.saturating_add-count.ensures, c.loop-alloc.invariant.count, c.len-in-loop-alloc-4.ensures, c.if-count-gt-MOST_EDGES.true, total))),
    )
