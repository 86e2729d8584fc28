-- The nodes of a label that is read.
use Rattle.std.specs.Prelude.{ℕ, Bool, true, false, List, map, take}
use Rattle.omega_hoa_label.specs.private.layout.Codes.{node_of}
use Rattle.omega_hoa_label.specs.declared.label.LabelNode.{LabelNode}

-- the nodes, in an allocation or as the first of some bytes
abbrev pub nodes_in : (is_long : Bool) → ℕ → (codes : List ℕ) → (long : List LabelNode) → List LabelNode
nodes_in true count codes long = long
nodes_in false count codes long = map node_of (take count codes)
