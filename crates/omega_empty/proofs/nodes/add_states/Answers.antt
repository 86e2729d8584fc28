-- one state more
use Rattle.std.proofs.Common.{ℕ, ◌++◌, [], ◌∷◌, map, sym, ap, ◌∙◌, append_assoc, arith}
use Rattle.std.specs.List.{range_with_len}
use Rattle.std.proofs.lemmas.List.FromFn.{map-range_with_len_more}
use Rattle.omega_game_values.specs.declared.node_spec.NodeSpec.{NodeSpec}
use Rattle.omega_empty.specs.EmptinessGame.{state_node}
use Rattle.omega_empty.proofs.nodes.add_states.Goals as goal

pub loop-state-preserved : goal.loop-state-preserved
loop-state-preserved c =
    let node : ℕ → NodeSpec = state_node c.args.judged.now.kind c.args.judged.now.automaton c.args.judged.now.usable c.args.counter in
    let state : ℕ = c.loop-state.state in
    c.in_ok-add_state.ensures.ok
    ∙ ap (λ list. list ++ node state ∷ []) c.loop-state.invariant
    ∙ append_assoc c.args.builder.now (map node (range_with_len 0 state)) (node state ∷ [])
    ∙ ap (λ list. c.args.builder.now ++ list) (sym (map-range_with_len_more node 0 state state (omega arith)))
