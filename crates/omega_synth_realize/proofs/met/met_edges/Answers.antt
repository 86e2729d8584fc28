-- the flags tell which states are reached
use Rattle.std.proofs.Common.{◌≡◌, ◌<◌, ℕ, All, List, [], ◌∷◌, ◌++◌, length, ap, subst, sym, ◌∙◌, arith}
use Rattle.std.specs.Prelude.{filter}
use Rattle.std.specs.List.{range_with_len}
use Rattle.std.proofs.lemmas.Result.{IfOk-weaker}
use Rattle.std.specs.List.Sorted.{IsStrictlyIncreasing}
use Rattle.std.proofs.lemmas.List.Kept.{IsStrictlyIncreasing-filter}
use Rattle.omega_synth_realize.specs.private.Met.{AreMetAmong, leaves_flagged}
use Rattle.omega_synth_realize.proofs.MetEdges.{all_places, flagged_met, start_alone}
use Rattle.omega_synth_realize.proofs.met.met_edges.Goals as goal

pub reached_flags-requires-clause-edges : goal.reached_flags-requires-clause-edges
reached_flags-requires-clause-edges c =
    let all : c.as_slice.result.now ≡ range_with_len 0 (length c.in_ok-graph.graph.edges) =
    c.as_slice.ensures.value ∙ c.in_ok-edges.ensures ∙ ap (range_with_len 0) c.len.ensures.count in
    subst (λ (numbers : List ℕ). All (λ number. number < length c.in_ok-graph.graph.edges) numbers) (sym all) (all_places (length c.in_ok-graph.graph.edges))

pub reached_flags-requires-clause-sources : goal.reached_flags-requires-clause-sources
reached_flags-requires-clause-sources c =
    subst (λ (states : List ℕ). All (λ state. state < c.in_ok-graph.graph.states) states)
    (sym (c.as_slice-2.ensures.value ∙ c.in_ok-push.ensures.items ∙ ap (λ (list : List ℕ). list ++ c.args.start ∷ []) c.new-sources.ensures.items))
    (start_alone c.args.start c.in_ok-graph.graph.states (omega (arith, c.requires.start, c.in_ok-graph.ensures.graph.states_are)))

pub returns-clause-met : goal.returns-clause-met
returns-clause-met c =
    let all : c.as_slice.result.now ≡ range_with_len 0 (length c.in_ok-graph.graph.edges) =
    c.as_slice.ensures.value ∙ c.in_ok-edges.ensures ∙ ap (range_with_len 0) c.len.ensures.count in
    let rounds = c.args.rounds.now in
    IfOk-weaker c.edges_from.result _ _
    (λ found is. subst (λ (list : List ℕ). AreMetAmong rounds c.args.start c.args.kept.now list)
    (sym (is ∙ ap (λ flags. filter (leaves_flagged rounds flags) c.args.kept.now) c.as_slice-3.ensures.value))
    (flagged_met rounds c.requires.rounds c.args.start c.args.kept.now c.requires.answers c.in_ok-graph.graph c.in_ok-graph.ensures.graph
    c.as_slice.result.now c.as_slice-2.result.now c.in_ok-reached.reached.items all (c.as_slice-2.ensures.value ∙ c.in_ok-push.ensures.items ∙ ap (λ (list : List ℕ). list ++ c.args.start ∷ []) c.new-sources.ensures.items) c.in_ok-reached.ensures.reached))
    c.edges_from.ensures.found

pub returns-clause-rising : goal.returns-clause-rising
returns-clause-rising c = λ rising.
    IfOk-weaker c.edges_from.result _ _
    (λ found is. subst IsStrictlyIncreasing (sym is) (IsStrictlyIncreasing-filter (leaves_flagged c.args.rounds.now c.as_slice-3.result.now) c.args.kept.now rising))
    c.edges_from.ensures.found
