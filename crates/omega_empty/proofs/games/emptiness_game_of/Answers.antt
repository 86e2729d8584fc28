-- one counter more, and at the end the table, whose specifications have no fault
use Rattle.std.proofs.Common.{◌≡◌, List, subst, arith}
use Rattle.std.specs.Prelude.{IfOk}
use Rattle.omega_game_values.specs.Building.{IsGameOf}
use Rattle.omega_game_values.specs.declared.node_spec.NodeSpec.{NodeSpec}
use Rattle.omega_empty.specs.Counters.{counters}
use Rattle.omega_empty.specs.EmptinessGame.{table}
use Rattle.omega_empty.proofs.making.Faultless.{memory_refused, table_faultless}
use Rattle.omega_empty.proofs.making.Rows.{counters_more, table_made}
use Rattle.omega_empty.proofs.games.emptiness_game_of.Goals as goal

pub loop-counter-preserved : goal.loop-counter-preserved
loop-counter-preserved c =
    counters_more c.args.judged.now.kind c.args.judged.now.automaton c.args.judged.now.usable c.loop-counter.counter c.loop-counter.builder c.add_counter.new.builder
    c.loop-counter.invariant c.in_ok-add_counter.ensures.ok

pub returns-clause-game : goal.returns-clause-game
returns-clause-game c =
    let judged = c.args.judged.now in
    let all : c.loop-counter.counter ≡ counters judged.kind = omega (arith, c.counters-counter-end.ensures, c.loop-counter.auto.counter-end) in
    let made : c.add_node.new.self ≡ table judged.kind judged.automaton judged.usable =
    table_made judged.kind judged.automaton judged.usable c.loop-counter.counter c.sink-sink.result c.loop-counter.builder c.add_node.new.self
    c.loop-counter.invariant all c.sink-sink.ensures c.in_ok-add_node.ensures.ok in
    subst (λ (specs : List NodeSpec). IfOk c.finish_forward.result (IsGameOf specs)) made c.finish_forward.ensures.game

pub returns-clause-memory : goal.returns-clause-memory
returns-clause-memory c =
    let judged = c.args.judged.now in
    let all : c.loop-counter.counter ≡ counters judged.kind = omega (arith, c.counters-counter-end.ensures, c.loop-counter.auto.counter-end) in
    let made : c.add_node.new.self ≡ table judged.kind judged.automaton judged.usable =
    table_made judged.kind judged.automaton judged.usable c.loop-counter.counter c.sink-sink.result c.loop-counter.builder c.add_node.new.self
    c.loop-counter.invariant all c.sink-sink.ensures c.in_ok-add_node.ensures.ok in
    memory_refused c.finish_forward.result c.add_node.new.self
    (table_faultless judged.kind judged.automaton judged.usable c.add_node.new.self made c.keeps_ready.ensures.automaton c.keeps_ready.ensures.plain c.keeps_ready.ensures.fits)
    c.finish_forward.ensures.refused
