-- the automaton of the graph of the formula is a translation
use Rattle.std.proofs.Common.{◌≡◌, ◌⊎◌, inl, inr, ◌<◌, ℕ, List, length, sym, subst}
use Rattle.std.specs.Prelude.{sum_by}
use Rattle.std.proofs.lemmas.Result.{IfErr-weaker, IfOk-weaker}
use Rattle.omega_ltl_shapes.specs.Shapes.{demand}
use Rattle.omega_ltl_terms.specs.Tables.{HasLargeDemand}
use Rattle.omega_ltl_terms.proofs.Refused.{large_weaker, passed_on}
use Rattle.omega_ltl_translation.specs.PastLimits.{IsGraphTooLarge, IsPastLimits, large_demand, large_graph, many_edges, many_promises}
use Rattle.omega_ltl_translation.specs.Translation.{HasHeader, given_name}
use Rattle.omega_ltl_translation.specs.declared.graph.GraphEdge.{GraphEdge}
use Rattle.omega_ltl_translation.specs.private.Automata.{IsAutomatonOf}
use Rattle.omega_ltl_translation.specs.private.Graphs.{IsExplored, LacksNeededSet}
use Rattle.omega_ltl_translation.proofs.Choosing.{root_below}
use Rattle.omega_ltl_translation.proofs.Needing.{promises_many}
use Rattle.omega_ltl_translation.proofs.Translations.{translated}
use Rattle.omega_ltl_translation.proofs.translating.translate.Goals as goal

pub explore-requires-clause-root : goal.explore-requires-clause-root
explore-requires-clause-root c =
    subst (λ (d : ℕ). d < length c.in_ok-tables.tables.shapes) (sym c.root_demand-root.ensures)
    (root_below c.args.formula.now c.keeps_limits.ensures c.in_ok-tables.tables.shapes c.in_ok-tables.ensures.shapes c.args.negated)

pub returns-clause-right : goal.returns-clause-right
returns-clause-right c =
    let formula = c.args.formula.now in
    let shapes = c.in_ok-tables.tables.shapes in
    let strongs : List ℕ = c.in_ok-tables.tables.strongs in
    let states : List (List ℕ) = c.in_ok-graph.graph.states.items in
    let edges : List (List GraphEdge) = c.in_ok-graph.graph.edges.items in
    let explored : IsExplored shapes strongs (demand formula.root c.args.negated) (length states) states edges =
    subst (λ (d : ℕ). IsExplored shapes strongs d (length states) states edges) c.root_demand-root.ensures c.in_ok-graph.ensures.explored in
    let sets : c.len-sets.result ≡ length strongs = c.len-sets.ensures in
    IfOk-weaker c.automaton_of_graph.result _ _
    (λ a is. translated c.truths_follow_shapes.ensures c.traces_are_sound.ensures c.good_terms_accept.ensures formula c.keeps_limits.ensures shapes c.in_ok-tables.ensures.shapes
    strongs c.in_ok-tables.ensures.tables.strongs c.args.negated states edges explored a
    (subst (λ (n : ℕ). IsAutomatonOf formula.table.names (length strongs) n edges a) explored.counted
    (subst (λ (es : List (List GraphEdge)). IsAutomatonOf formula.table.names (length strongs) (length es) es a) c.as_slice.ensures.value
    (subst (λ (n : ℕ). IsAutomatonOf formula.table.names n (length c.as_slice.result.now) c.as_slice.result.now a) sets
    (subst (λ (names : List (List ℕ)). IsAutomatonOf names c.len-sets.result (length c.as_slice.result.now) c.as_slice.result.now a) c.names.ensures is)))))
    c.automaton_of_graph.ensures.graph

pub returns-clause-header : goal.returns-clause-header
returns-clause-header c = IfOk-weaker c.automaton_of_graph.result _ _
    (λ a is. subst (λ (names : List (List ℕ)). HasHeader (given_name c.args.name.now) names a) c.names.ensures is)
    c.automaton_of_graph.ensures.header

-- a demand is too large, or the graph
pub returns-in_err-tables-clause-refused : goal.returns-in_err-tables-clause-refused
returns-in_err-tables-clause-refused c = passed_on c.from_residual.result _ _ c.from_residual.ensures.1
    (large_weaker (HasLargeDemand c.args.formula.now.table.nodes) (IsPastLimits c.args.formula.now c.args.negated) (λ large. large_demand large) _ c.in_err-tables.ensures.refused)

pub returns-in_err-graph-clause-refused : goal.returns-in_err-graph-clause-refused
returns-in_err-graph-clause-refused c =
    let formula = c.args.formula.now in
    let shapes = c.in_ok-tables.tables.shapes in
    let strongs : List ℕ = c.in_ok-tables.tables.strongs in
    passed_on c.from_residual-in_err-graph.result _ _ c.from_residual-in_err-graph.ensures.1
    (large_weaker (IsGraphTooLarge shapes strongs c.root_demand-root.result ⊎ LacksNeededSet shapes strongs c.root_demand-root.result) (IsPastLimits formula c.args.negated)
    (λ why. elim why [
      | inl large ↦ large_graph shapes strongs c.in_ok-tables.ensures.shapes c.in_ok-tables.ensures.tables.strongs c.in_ok-tables.ensures.sets
          (subst (IsGraphTooLarge shapes strongs) c.root_demand-root.ensures large)
      | inr lacks ↦ many_promises shapes c.in_ok-tables.ensures.shapes
          (promises_many shapes (demand formula.root c.args.negated) strongs c.in_ok-tables.ensures.tables.strongs c.in_ok-tables.ensures.sets
          (subst (LacksNeededSet shapes strongs) c.root_demand-root.ensures lacks))
    ])
    _ c.in_err-graph.ensures.refused)

pub returns-clause-refused : goal.returns-clause-refused
returns-clause-refused c =
    let formula = c.args.formula.now in
    let shapes = c.in_ok-tables.tables.shapes in
    let strongs : List ℕ = c.in_ok-tables.tables.strongs in
    let states : List (List ℕ) = c.in_ok-graph.graph.states.items in
    let edges : List (List GraphEdge) = c.in_ok-graph.graph.edges.items in
    IfErr-weaker c.automaton_of_graph.result _ _
    (λ refusal large. large_weaker (86928 < sum_by length c.as_slice.result.now) (IsPastLimits formula c.args.negated)
    (λ many. large_graph shapes strongs c.in_ok-tables.ensures.shapes c.in_ok-tables.ensures.tables.strongs c.in_ok-tables.ensures.sets
    (subst (IsGraphTooLarge shapes strongs) c.root_demand-root.ensures
    (many_edges states (sum_by length edges) c.in_ok-graph.ensures.reached c.in_ok-graph.ensures.counted
    (subst (λ (es : List (List GraphEdge)). 86928 < sum_by length es) c.as_slice.ensures.value many))))
    refusal large)
    c.automaton_of_graph.ensures.refused
