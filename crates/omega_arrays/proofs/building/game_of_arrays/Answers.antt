-- `built`: the specifications have one game, and no fault within the limits.
use Rattle.std.proofs.Common.{◌≡◌, ◌≤◌, List, length, None, ap, ◌∙◌, subst, arith}
use Rattle.std.proofs.lemmas.Result.{IfErr-weaker, IfOk-weaker}
use Rattle.omega_game_values.specs.declared.node_spec.NodeSpec.{NodeSpec}
use Rattle.omega_game_values.specs.Building.{IsGameOf, game_fault_of}
use Rattle.omega_game_values.specs.Limits.{most_nodes, most_successors}
use Rattle.omega_arrays.specs.Arrays.{node_count, nodes_in}
use Rattle.omega_arrays.specs.private.Specified.{specs_below}
use Rattle.omega_arrays.proofs.Built.{count_is, game_of_specs, limits_of_shape, only_memory}
use Rattle.omega_arrays.proofs.building.game_of_arrays.Goals as goal

pub returns-clause-game : goal.returns-clause-game
returns-clause-game c =
    let a = c.args.arrays.now in
    IfOk-weaker c.finish_forward.result _ _
    (λ game made. c.specifications_have_one_game.ensures (specs_below a (node_count a)) game (nodes_in a)
    (subst (λ (specs : List NodeSpec). IsGameOf specs game) c.in_ok-nodes.ensures.specified made) (game_of_specs a c.requires))
    c.finish_forward.ensures.game

pub returns-clause-count : goal.returns-clause-count
returns-clause-count c =
    let a = c.args.arrays.now in
    IfOk-weaker c.finish_forward.result _ _
    (λ game made. ap length (c.specifications_have_one_game.ensures (specs_below a (node_count a)) game (nodes_in a)
    (subst (λ (specs : List NodeSpec). IsGameOf specs game) c.in_ok-nodes.ensures.specified made) (game_of_specs a c.requires)) ∙ count_is a)
    c.finish_forward.ensures.game

pub returns-clause-refused : goal.returns-clause-refused
returns-clause-refused c =
    let a = c.args.arrays.now in
    let nodes : node_count a ≤ most_nodes = omega (arith, c.if-priorities-gt-MOST_NODES.false, ap length c.priorities.ensures) in
    let edges : length a.successors ≤ most_successors = omega (arith, c.if-successors-gt-MOST_SUCCESSORS.false, ap length c.successors.ensures) in
    let none : game_fault_of (specs_below a (node_count a)) ≡ None =
    c.games_have_no_fault.ensures (specs_below a (node_count a)) (nodes_in a) (game_of_specs a c.requires) (limits_of_shape a c.requires nodes edges) in
    IfErr-weaker c.finish_forward.result _ _
    (λ refusal. only_memory c.in_ok-nodes.nodes a refusal (ap game_fault_of c.in_ok-nodes.ensures.specified ∙ none)) c.finish_forward.ensures.refused
