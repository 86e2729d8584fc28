-- the verdict on the graph
use Rattle.omega_lang_intersection.proofs.intersecting.intersection_by_search.Goals as goal

pub verdict_on-requires : goal.verdict_on-requires
verdict_on-requires c = (c.args.one.now, c.args.other.now, c.requires.graph)

pub intersection_of_verdict-requires-clause-graph : goal.intersection_of_verdict-requires-clause-graph
intersection_of_verdict-requires-clause-graph c = record {
  is_one = c.keeps_limits.ensures;
  is_other = c.keeps_limits-2.ensures;
  unbranched = c.requires.plain;
  graph_is = c.requires.graph;
}
