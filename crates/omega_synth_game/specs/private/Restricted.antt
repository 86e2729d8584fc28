-- The nodes of a label where the environment's propositions are given.
use Rattle.std.specs.Prelude.{ℕ, if◌then◌else◌, List}
use Rattle.omega_hoa_label.specs.declared.label.LabelNode.{LabelNode}
use Rattle.omega_hoa_label.specs.declared.label.LabelNode.TheVariants.{Constant, Proposition}
use Rattle.omega_synth_controllers.specs.Strategies.{is_controlled}
use Rattle.omega_synth_game.specs.Letters.{holds_in}

-- a node with a constant in place of an input: whether it holds in the letter
abbrev pub restricted_node : List ℕ → List ℕ → LabelNode → LabelNode
restricted_node controlled letter (Proposition p) =
    if is_controlled controlled p then Proposition p else Constant (holds_in letter p)
restricted_node controlled letter other = other
