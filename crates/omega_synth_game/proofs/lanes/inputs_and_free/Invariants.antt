-- the propositions so far, with those of the nodes that are left, are the inputs and the controlled ones that are
-- mentioned
use Rattle.std.proofs.Common.{◌≡◌, ◌+◌, ◌≤◌, drop, length}
use Rattle.std.specs.Prelude.{filter}
use Rattle.omega_hoa_label.specs.Label.{propositions}
use Rattle.omega_hoa_satisfiable.specs.Satisfiable.{each_once}
use Rattle.omega_hoa_satisfiable.specs.private.Words.{propositions_of}
use Rattle.omega_synth_controllers.specs.Strategies.{is_controlled}
use Rattle.omega_synth_game.specs.private.Lanes.{most_free}
use Rattle.omega_synth_game.proofs.lanes.inputs_and_free.Given as goal

abbrev pub invariant-loop-node : goal.invariant-loop-node
invariant-loop-node l =
    (each_once l.atoms (filter (is_controlled l.lanes.controlled.now) (propositions_of (drop l.node-index l.nodes)))
    ≡ each_once l.lanes.inputs.now (filter (is_controlled l.lanes.controlled.now) (propositions l.label)))
    × (length l.atoms ≤ length l.lanes.inputs.now + most_free)
