-- an empty product
use Rattle.std.proofs.Common.{subst}
use Rattle.omega_lang_runs.specs.Verdict.{IsVerdict}
use Rattle.omega_lang_runs.specs.declared.verdict.Verdict.{Verdict}
use Rattle.omega_lang_word_laws.proofs.meeting.Graphs.{graphs_of_products}
use Rattle.omega_lang_intersection.proofs.Answering.{has_edges, no_word}
use Rattle.omega_lang_intersection.proofs.intersecting.intersection_of_verdict.Goals as goal

pub returns-in-Empty-clause-right : goal.returns-in-Empty-clause-right
returns-in-Empty-clause-right c =
    let one = c.args.one.now in
    let other = c.args.other.now in
    let graph = c.args.graph.now in
    let product = graphs_of_products one other graph c.requires.graph.graph_is in
    no_word one other graph c.requires.graph product.0 product.1
    (subst (λ (v : Verdict). IsVerdict product.0 v) c.in-Empty.is
    (c.requires.verdict product.0 (has_edges one other graph c.requires.graph product.0 product.1)))
