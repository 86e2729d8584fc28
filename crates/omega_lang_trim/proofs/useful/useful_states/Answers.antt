-- memory is refused along the usable edges
use Rattle.std.proofs.lemmas.Result.{IfErr-weaker}
use Rattle.omega_hoa_edges.proofs.Refusals.{memory_task}
use Rattle.omega_lang_trim.proofs.useful.useful_states.Goals as goal

pub returns-clause-refused : goal.returns-clause-refused
returns-clause-refused c = IfErr-weaker c.useful_along.result _ _ (λ refusal is. memory_task _ refusal is) c.useful_along.ensures.memory
