-- the refusal of the graph, and want of memory; a graph is one of automata without universal branching
use Rattle.std.proofs.lemmas.Result.{IfErr-weaker, IfOk-weaker}
use Rattle.omega_hoa_edges.proofs.Refusals.{memory_task}
use Rattle.omega_lang_product.specs.Refusing.{IsGraphTooLarge, IsPairsFault}
use Rattle.omega_lang_intersection.proofs.intersecting.intersection.Goals as goal

pub returns-in-Ok-clause-refused : goal.returns-in-Ok-clause-refused
returns-in-Ok-clause-refused c =
    let one = c.args.one.now in
    let other = c.args.other.now in
    IfErr-weaker c.intersection_by_search.result _ _
    (λ refusal memory. memory_task (IsPairsFault (IsGraphTooLarge one other) one other) refusal memory) c.intersection_by_search.ensures.memory

pub returns-in-Ok-clause-given : goal.returns-in-Ok-clause-given
returns-in-Ok-clause-given c =
    IfOk-weaker c.intersection_by_search.result _ _ (λ answer right. c.in-Ok.ensures.given) c.intersection_by_search.ensures.right
