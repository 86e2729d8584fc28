-- each number is its own name
use Rattle.omega_lang_lasso_search.proofs.Kept.{kept_numbers}
use Rattle.omega_lang_lasso_search.proofs.numbering.keep_numbers.Goals as goal

pub returns-clause-numbered : goal.returns-clause-numbered
returns-clause-numbered c =
    kept_numbers c.args.starts.now c.args.ends.now c.args.bound c.in_ok-sources.sources.items c.in_ok-graph.graph c.requires.first c.requires.ends
    c.in_ok-sources.ensures.items c.in_ok-graph.ensures.states c.in_ok-graph.ensures.edges
