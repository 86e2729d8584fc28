-- the edges so far
use Rattle.std.proofs.Common.{◌≡◌, take}
use Rattle.omega_lang_product.specs.PlainEdges.{plain_edges_from}
use Rattle.omega_lang_product.specs.private.Tables.{view_of}
use Rattle.omega_lang_product.proofs.plain_edges.plain_edges_of.Given as goal

abbrev pub invariant-loop-at : goal.invariant-loop-at
invariant-loop-at l = l.row.items ≡ plain_edges_from (view_of l.renumbering) l.state 0 (take l.at l.state.edges)
