-- one number more
use Rattle.std.proofs.Common.{ℕ, ◌<◌, List, get_or, length, subst, refl, arith}
use Rattle.std.proofs.lemmas.List.{take_all}
use Rattle.omega_synth_text.proofs.Graphs.{HasKept, kept_more, kept_none}
use Rattle.omega_synth_text.proofs.graph.kept_graph.Goals as goal
use Rattle.omega_synth_text.proofs.graph.kept_graph.Goals.{in-Some+in_ok-add-in-Some, in-None}

pub loop-number-preserved : goal.loop-number-preserved
loop-number-preserved c =
    let kept : List ℕ = c.args.kept.now in
    let index : ℕ = c.loop-number.number-index in
    let below : index < length kept = omega (arith, c.loop-number-test.true) in
    elim c.match-ends_of.branch [
      | in-Some+in_ok-add-in-Some w ↦
          rw (w.graph-is, w.in_ok-add-in-Some.ensures.ok, w.in_ok-add-in-Some.ensures.states) (
            c.loop-number.invariant.0,
            kept_more c.args.automaton.now kept index (get_or kept index 0) below refl c.loop-number.graph.edges w.in-Some.ends.0 w.in-Some.ends.1
                w.in-Some.ensures.ends c.loop-number.invariant.1,
          )
      | in-None w ↦
          rw w.graph-is (
            c.loop-number.invariant.0,
            kept_none c.args.automaton.now kept index (get_or kept index 0) below refl c.loop-number.graph.edges w.in-None.ensures.none c.loop-number.invariant.1,
          )
    ]

pub returns-clause-graph : goal.returns-clause-graph
returns-clause-graph c = record {
  states_are = c.loop-number.invariant.0;
  edges_are = subst (λ (numbers : List ℕ). HasKept c.args.automaton.now numbers c.loop-number.graph.edges)
      (take_all c.loop-number.number-index c.args.kept.now (omega (arith, c.loop-number-test.false))) c.loop-number.invariant.1;
}
