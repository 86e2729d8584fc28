-- one node more, and at the end the table, whose only faults are its numbers
use Rattle.std.proofs.Common.{◌≡◌, ◌++◌, [], ◌∷◌, ℕ, List, map, ap, sym, subst, ◌∙◌, arith}
use Rattle.std.specs.List.{range_with_len}
use Rattle.std.proofs.lemmas.List.FromFn.{map-range_with_len_more}
use Rattle.std.proofs.lemmas.Result.{IfOk-weaker}
use Rattle.omega_game_values.specs.Building.{IsGameOf}
use Rattle.omega_game_values.specs.declared.node_spec.NodeSpec.{NodeSpec}
use Rattle.omega_synth_rounds.specs.RoundsGame.{node_count}
use Rattle.omega_synth_rounds.specs.private.Naming.{named_node, node_name}
use Rattle.omega_synth_rounds.proofs.Named.{named_fits, named_refused, name_is}
use Rattle.omega_synth_rounds.proofs.games.named_game.Goals as goal

pub loop-place-preserved : goal.loop-place-preserved
loop-place-preserved c =
    let node : ℕ → NodeSpec = named_node c.args.rounds.now c.args.states.now in
    let place : ℕ = c.loop-place.place in
    c.in_ok-add_named_node.ensures.ok
    ∙ ap (λ list. list ++ node place ∷ []) c.loop-place.invariant
    ∙ sym (map-range_with_len_more node 0 place place (omega arith))

pub returns-clause-game : goal.returns-clause-game
returns-clause-game c =
    let rounds = c.args.rounds.now in
    let states = c.args.states.now in
    let all : c.loop-place.place ≡ node_count rounds = omega (arith, c.node_count-count.ensures, c.loop-place.auto.place-end) in
    let table : c.loop-place.builder ≡ map (named_node rounds states) (range_with_len 0 (node_count rounds)) =
    c.loop-place.invariant ∙ ap (λ n. map (named_node rounds states) (range_with_len 0 n)) all in
    IfOk-weaker c.finish.result _ _
    (λ game made. record {
      names = node_name rounds states;
      named = name_is rounds states c.requires.states;
      game_is = subst (λ (specs : List NodeSpec). IsGameOf specs game) table made;
    })
    c.finish.ensures.game

pub returns-clause-refused : goal.returns-clause-refused
returns-clause-refused c =
    named_refused c.args.rounds.now c.requires.rounds c.args.states.now c.finish.result c.loop-place.builder c.loop-place.place c.requires.fits
    c.loop-place.invariant (omega (arith, c.node_count-count.ensures, c.loop-place.auto.place-end)) c.finish.ensures.refused

pub returns-clause-fits : goal.returns-clause-fits
returns-clause-fits c =
    named_fits c.args.rounds.now c.requires.rounds c.args.states.now c.finish.result c.loop-place.builder c.loop-place.place c.requires.fits
    c.loop-place.invariant (omega (arith, c.node_count-count.ensures, c.loop-place.auto.place-end)) c.finish.ensures.faultless
