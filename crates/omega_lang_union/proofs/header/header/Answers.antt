-- memory is refused for an item
use Rattle.std.proofs.lemmas.Result.{IfErr-weaker}
use Rattle.omega_hoa_edges.proofs.Refusals.{memory_task}
use Rattle.omega_lang_union.proofs.header.header.Goals as goal

pub returns-in-Ok-clause-err : goal.returns-in-Ok-clause-err
returns-in-Ok-clause-err c = IfErr-weaker c.items_of.result _ _ (λ refusal is. memory_task _ refusal is) c.items_of.ensures.memory
