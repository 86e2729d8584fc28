-- The labels of joint edges, made of the labels of the two edges that each takes.
use Rattle.std.specs.Prelude.{◌≡◌, ◌<◌, ◌≤◌, ℕ, ◌+◌, ◌-◌, true, List, [], length, get_or, Contains}
use Rattle.omega_graph.specs.Graph.{edge_of}
use Rattle.omega_hoa_edges.specs.Conjuncts.{joined}
use Rattle.omega_hoa_expression.specs.Limits.{most_depth}
use Rattle.omega_hoa_label.specs.Label.{constant}
use Rattle.omega_hoa_label.specs.Raw.{raw_depth}
use Rattle.omega_hoa_label.specs.Writing.{label_written}
use Rattle.omega_lang_product.specs.JointEdges.{Joint, marks_of_both}
use Rattle.omega_lang_product.specs.declared.joint_edges.JointEdges.{JointEdges}
use Rattle.omega_lang_product.specs.declared.row.Row.{Row}
use Rattle.omega_lang_product.specs.declared.plain_edge.PlainEdge.{PlainEdge}

-- the edge of the product that a joint edge is, with its label
abbrev pub labelled : Joint → PlainEdge
labelled joint = record {
  label = joined joint.first.plain_edge.label joint.second.plain_edge.label;
  target = joint.to;
  marks = marks_of_both joint;
}

-- an edge of which nothing is known
abbrev pub no_edge : PlainEdge
no_edge = record { label = constant true; target = 0; marks = [] }

-- the edge of a row with a number
abbrev pub edge_numbered : Row → ℕ → PlainEdge
edge_numbered row number = get_or row.edges.now (number - row.before) no_edge

-- a row has an edge with a number
pub record HasEdge (row : Row) (number : ℕ) : Type 0 where
  pub after : row.before ≤ number
  pub below : number < row.before + length row.edges.now

-- a table has a joint edge at a place, which takes an edge of one row together with one of another
pub record IsJointAt (edges : JointEdges) (firsts seconds : Row) (place : ℕ)
    (joint : Joint) : Type 0 where
  pub to : (get_or edges.ends.items place (edge_of 0 0)).to ≡ joint.to
  pub marks : get_or edges.marks.items place [] ≡ marks_of_both joint
  pub has_first : HasEdge firsts (get_or edges.firsts.items place 0)
  pub first : edge_numbered firsts (get_or edges.firsts.items place 0) ≡ joint.first.plain_edge
  pub has_second : HasEdge seconds (get_or edges.seconds.items place 0)
  pub second : edge_numbered seconds (get_or edges.seconds.items place 0) ≡ joint.second.plain_edge

-- a joint edge has a label that is too deep as it is written
abbrev pub IsDeep : Joint → Type 0
IsDeep joint = most_depth < raw_depth (label_written (labelled joint).label)

-- joint edges stand in a table from one place up to another, and take edges of two rows
pub record AreJointsFrom (edges : JointEdges) (firsts seconds : Row) (start end : ℕ)
    (joints : List Joint) : Type 0 where
  pub many : start + length joints ≡ end
  pub each :
      (i : ℕ) (joint : Joint) → i < length joints → joint ≡ get_or joints i joint
      → IsJointAt edges firsts seconds (start + i) joint

-- some joint edge has a label that is too deep
pub record HasDeepLabel (joints : List Joint) : Type 0 where
  pub joint : Joint
  pub listed : Contains joints joint
  pub deep : IsDeep joint
