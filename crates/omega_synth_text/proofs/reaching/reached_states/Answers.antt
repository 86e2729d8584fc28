-- the graph's edges are those with numbers below their count
use Rattle.std.proofs.Common.{◌≡◌, ◌<◌, ℕ, All, List, length, ap, subst, sym, ◌∙◌}
use Rattle.std.specs.List.{range_with_len}
use Rattle.std.proofs.lemmas.Result.{IfOk-weaker}
use Rattle.omega_synth_text.specs.private.Reached.{AreStarts}
use Rattle.omega_synth_text.proofs.Graphs.{tells_reached}
use Rattle.omega_synth_text.proofs.Ranges.{range_below}
use Rattle.omega_synth_text.proofs.reaching.reached_states.Goals as goal

pub reached_flags-requires-clause-edges : goal.reached_flags-requires-clause-edges
reached_flags-requires-clause-edges c =
    let all : c.as_slice.result.now ≡ range_with_len 0 (length c.in_ok-graph.graph.edges) =
    c.as_slice.ensures.value ∙ c.in_ok-edges.ensures ∙ ap (range_with_len 0) c.len.ensures.count in
    subst (λ (numbers : List ℕ). All (λ number. number < length c.in_ok-graph.graph.edges) numbers) (sym all) (range_below (length c.in_ok-graph.graph.edges))

pub returns-clause-reached : goal.returns-clause-reached
returns-clause-reached c =
    let all : c.as_slice.result.now ≡ range_with_len 0 (length c.in_ok-graph.graph.edges) =
    c.as_slice.ensures.value ∙ c.in_ok-edges.ensures ∙ ap (range_with_len 0) c.len.ensures.count in
    IfOk-weaker c.reached_flags.result _ _
    (λ flags tells. tells_reached c.args.automaton.now c.args.kept.now c.in_ok-graph.graph c.as_slice-2.result.now c.as_slice.result.now flags.items
    c.in_ok-graph.ensures.graph (subst (AreStarts c.args.automaton.now) (sym c.as_slice-2.ensures.value) c.in_ok-starts.ensures.starts) all tells)
    c.reached_flags.ensures.reached
