-- one node more, and at the end the table, whose only faults are its numbers
use Rattle.std.proofs.Common.{◌≤◌, ◌++◌, [], ◌∷◌, ℕ, rules, ap, sym, ◌∙◌, arith}
use Rattle.std.proofs.lemmas.List.FromFn.{map-range_with_len_more}
use Rattle.omega_game_values.specs.Limits.{most_nodes}
use Rattle.omega_game_values.specs.declared.node_spec.NodeSpec.{NodeSpec}
use Rattle.omega_synth_rounds.specs.RoundsGame.{node_count, node_for}
use Rattle.omega_synth_rounds.proofs.Making.{made_fits, made_refused}
use Rattle.omega_synth_rounds.proofs.games.rounds_game.Goals as goal

pub loop-place-preserved : goal.loop-place-preserved
loop-place-preserved c =
    let node : ℕ → NodeSpec = node_for c.args.rounds.now in
    let place : ℕ = c.loop-place.place in
    c.in_ok-add_node_at.ensures.ok
    ∙ ap (λ list. list ++ node place ∷ []) c.loop-place.invariant
    ∙ sym (map-range_with_len_more node 0 place place (omega arith))

pub returns-clause-refused : goal.returns-clause-refused
returns-clause-refused c =
    let fits : node_count c.args.rounds.now ≤ most_nodes = search rules in
    made_refused c.args.rounds.now c.requires c.finish.result c.loop-place.builder c.loop-place.place fits c.loop-place.invariant
    (omega (arith, c.node_count-count.ensures, c.loop-place.auto.place-end)) c.finish.ensures.refused

pub returns-clause-fits : goal.returns-clause-fits
returns-clause-fits c =
    let fits : node_count c.args.rounds.now ≤ most_nodes = search rules in
    made_fits c.args.rounds.now c.requires c.finish.result c.loop-place.builder c.loop-place.place fits c.loop-place.invariant
    (omega (arith, c.node_count-count.ensures, c.loop-place.auto.place-end)) c.finish.ensures.faultless
