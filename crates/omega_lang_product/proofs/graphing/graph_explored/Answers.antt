-- memory is refused for the starts
use Rattle.omega_lang_product.specs.private.Faults.{IsGraphFault}
use Rattle.omega_hoa_edges.proofs.Refusals.{memory_task}
use Rattle.omega_lang_product.proofs.graphing.graph_explored.Goals as goal

pub returns-in-Err-clause-refused : goal.returns-in-Err-clause-refused
returns-in-Err-clause-refused c = memory_task (IsGraphFault c.args.one.now c.args.other.now) _ c.in-Err.ensures.memory
