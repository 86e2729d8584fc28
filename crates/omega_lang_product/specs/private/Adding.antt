-- Edges that are appended to those of a table.
use Rattle.std.specs.Prelude.{List, ◌++◌}
use Rattle.omega_lang_product.specs.JointEdges.{AreJoints, Joint, Numbered, numbered_from}
use Rattle.omega_lang_product.specs.Pairs.{Pair}
use Rattle.omega_lang_product.specs.declared.joint_edges.JointEdges.{JointEdges}
use Rattle.omega_lang_product.specs.declared.row.Row.{Row}
use Rattle.omega_lang_product.specs.declared.row.RowEdge.{RowEdge}

-- the edges of a row
abbrev pub numbered_in : Row → List Numbered
numbered_in row = numbered_from row.before row.edges.now

-- an edge of a row
abbrev pub numbered_edge : RowEdge → Numbered
numbered_edge edge = record { number = edge.number; plain_edge = edge.edge.now }

-- whatever edges a table had, it has `joints` after them
abbrev pub Adds : List Joint → JointEdges → JointEdges → Type 0
Adds joints before after = (earlier : List Joint) → AreJoints earlier before
    → AreJoints (earlier ++ joints) after

-- whatever pairs are found later, a table has the joint edges between all of them after those that it had
abbrev pub AddsAmong : List Pair → (List Pair → List Joint) → JointEdges → JointEdges → Type 0
AddsAmong pairs joints before after =
    (later : List Pair) → Adds (joints (pairs ++ later)) before after
