-- the graph, or the acceptance is too deep
use Rattle.std.proofs.Common.{◌<◌, ◌≤◌, List, length, subst}
use Rattle.omega_hoa_acceptance.specs.Acceptance.{acc_depth}
use Rattle.omega_hoa_expression.specs.Limits.{most_depth}
use Rattle.omega_hoa_edges.specs.Limits.{most_states}
use Rattle.omega_lang_product.specs.Pairs.{Pair}
use Rattle.omega_lang_product.specs.Acceptance.{conjoined_acceptance}
use Rattle.omega_lang_product.specs.Refusing.{deep_formula}
use Rattle.omega_lang_product.proofs.PairsOne.{pairs_one}
use Rattle.omega_lang_product.proofs.Refused.{large_in_graph}
use Rattle.omega_lang_product.proofs.graphing.graph_with.Goals as goal

pub returns-in-Err-clause-refused : goal.returns-in-Err-clause-refused
returns-in-Err-clause-refused c =
    large_in_graph c.args.one.now c.args.other.now (most_depth < acc_depth (conjoined_acceptance c.args.one.now c.args.other.now)) deep_formula _ c.in-Err.ensures.err

pub returns-in-Ok-clause-graph : goal.returns-in-Ok-clause-graph
returns-in-Ok-clause-graph c = record {
  pairs = c.args.explored.pairs.keys;
  reached = c.requires.explored.reached;
  propositions = c.requires.names;
  starts = c.requires.starts;
  edges = c.requires.explored.edges;
  acceptance = c.in-Ok.ensures.ok;
}

pub returns-in-Ok-clause-few_pairs : goal.returns-in-Ok-clause-few_pairs
returns-in-Ok-clause-few_pairs c = λ pairs reached.
    subst (λ (ps : List Pair). length ps ≤ most_states)
    (pairs_one c.args.one.now c.args.other.now c.args.explored.pairs.keys pairs c.requires.explored.reached reached) c.requires.explored.few
