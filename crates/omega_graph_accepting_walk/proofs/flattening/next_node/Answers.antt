-- the places of two parts are those of nodes, and so are the others
use Rattle.std.proofs.Common.{length}
use Rattle.omega_graph_accepting_walk.proofs.NodesPushed.{others_within, parts_within}
use Rattle.omega_graph_accepting_walk.proofs.flattening.next_node.Goals as goal

pub returns-in-And-clause-made : goal.returns-in-And-clause-made
returns-in-And-clause-made c = parts_within (length c.args.nodes.now) c.args.places.now _ _ _ c.top_parts-parts.ensures c.requires.within

pub returns-in-And-clause-within : goal.returns-in-And-clause-within
returns-in-And-clause-within c = others_within (length c.args.nodes.now) c.args.places.now _ _ _ c.top_parts-parts.ensures c.requires.within

pub returns-in-Or-clause-made : goal.returns-in-Or-clause-made
returns-in-Or-clause-made c = parts_within (length c.args.nodes.now) c.args.places.now _ _ _ c.top_parts-parts-in-Or.ensures c.requires.within

pub returns-in-Or-clause-within : goal.returns-in-Or-clause-within
returns-in-Or-clause-within c = others_within (length c.args.nodes.now) c.args.places.now _ _ _ c.top_parts-parts-in-Or.ensures c.requires.within
