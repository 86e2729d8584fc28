-- the propositions of the nodes are the label's
use Rattle.std.proofs.Common.{ap, not, ◌∙◌}
use Rattle.std.specs.Prelude.{filter}
use Rattle.omega_hoa_satisfiable.specs.Satisfiable.{each_once}
use Rattle.omega_hoa_satisfiable.specs.private.Words.{propositions_of}
use Rattle.omega_hoa_satisfiable.proofs.WordLemmas.{propositions_of-label}
use Rattle.omega_synth_controllers.specs.Strategies.{is_controlled}
use Rattle.omega_synth_game.proofs.inputs.add_inputs_of.Goals as goal

pub loop-node-init : goal.loop-node-init
loop-node-init c =
    ap (λ all. each_once c.args.inputs.now (filter (λ p. not (is_controlled c.args.controlled.now p)) all))
    (ap propositions_of c.nodes-nodes.ensures.nodes ∙ propositions_of-label c.args.label.now)
