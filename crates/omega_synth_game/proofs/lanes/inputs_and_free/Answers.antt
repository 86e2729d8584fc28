-- the propositions of the nodes are the label's
use Rattle.std.proofs.Common.{length, ap, ◌∙◌, arith}
use Rattle.std.specs.Prelude.{filter}
use Rattle.omega_hoa_satisfiable.specs.Satisfiable.{each_once}
use Rattle.omega_hoa_satisfiable.specs.private.Words.{propositions_of}
use Rattle.omega_hoa_satisfiable.proofs.WordLemmas.{propositions_of-label}
use Rattle.omega_synth_controllers.specs.Strategies.{is_controlled}
use Rattle.omega_synth_game.proofs.lanes.inputs_and_free.Goals as goal

pub loop-node-init : goal.loop-node-init
loop-node-init c = (
  ap (λ seen. each_once seen (filter (is_controlled c.args.lanes.now.controlled.now) (propositions_of c.nodes-nodes.result.now))) c.in_ok-atoms.ensures
      ∙ ap (λ all. each_once c.args.lanes.now.inputs.now (filter (is_controlled c.args.lanes.now.controlled.now) all))
      (ap propositions_of c.nodes-nodes.ensures.nodes ∙ propositions_of-label c.args.label.now),
  omega (arith, ap length c.in_ok-atoms.ensures),
)
