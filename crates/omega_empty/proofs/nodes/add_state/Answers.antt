-- the state's node was linked to its usable edges, or is linked to the sink
use Rattle.std.proofs.Common.{◌+◌, ◌*◌, ap, ◌∙◌}
use Rattle.std.proofs.lemmas.Bool.{both_ways}
use Rattle.omega_empty.specs.EmptinessGame.{span}
use Rattle.omega_empty.proofs.making.Rows.{linked_state, unlinked_state}
use Rattle.omega_empty.proofs.nodes.add_state.Goals as goal

pub returns-then-some-clause-ok : goal.returns-then-some-clause-ok
returns-then-some-clause-ok c =
    let judged = c.args.judged.now in
    linked_state judged.kind judged.automaton judged.usable c.usable_flags.result.now c.args.counter c.args.state
    (c.args.counter * c.span.result + c.args.state) (c.args.counter * c.span.result + c.states.result) c.range-range.result c.add_linked.new.builder c.args.builder.now
    c.range-range.ensures c.usable_flags.ensures (ap (λ n. c.args.counter * n + c.args.state) c.span.ensures)
    (ap (λ n. c.args.counter * n + c.states.result) c.span.ensures ∙ ap (λ n. c.args.counter * span judged.automaton + n) c.states.ensures)
    c.in_ok-some.ensures.ok (c.in_ok-some.ensures.some.0 c.if-some.true)

pub returns-clause-ok : goal.returns-clause-ok
returns-clause-ok c =
    let judged = c.args.judged.now in
    unlinked_state judged.kind judged.automaton judged.usable c.usable_flags.result.now c.args.counter c.args.state
    (c.args.counter * c.span.result + c.args.state) (c.args.counter * c.span.result + c.states.result) c.range-range.result c.add_linked.new.builder c.args.builder.now
    c.range-range.ensures c.usable_flags.ensures (ap (λ n. c.args.counter * n + c.args.state) c.span.ensures)
    (ap (λ n. c.args.counter * n + c.states.result) c.span.ensures ∙ ap (λ n. c.args.counter * span judged.automaton + n) c.states.ensures)
    c.in_ok-some.ensures.ok c.add_node.new.self c.sink-sink.result
    (λ some. both_ways c.in_ok-some.some c.if-some.false (c.in_ok-some.ensures.some.1 some)) c.sink-sink.ensures c.in_ok-add_node.ensures.ok
