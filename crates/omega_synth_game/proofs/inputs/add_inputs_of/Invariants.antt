-- the inputs so far, with those of the nodes that are left, are the inputs of the label
use Rattle.std.proofs.Common.{◌≡◌, drop, not}
use Rattle.std.specs.Prelude.{filter}
use Rattle.omega_hoa_satisfiable.specs.Satisfiable.{each_once}
use Rattle.omega_hoa_satisfiable.specs.private.Words.{propositions_of}
use Rattle.omega_synth_controllers.specs.Strategies.{is_controlled}
use Rattle.omega_synth_game.specs.Classes.{input_mentions}
use Rattle.omega_synth_game.proofs.inputs.add_inputs_of.Given as goal

abbrev pub invariant-loop-node : goal.invariant-loop-node
invariant-loop-node l =
    each_once l.inputs (filter (λ p. not (is_controlled l.controlled p)) (propositions_of (drop l.node-index l.nodes)))
    ≡ each_once l.fn.inputs (input_mentions l.controlled l.label)
