-- a refusal of the graph
use Rattle.omega_lang_product.proofs.Refused.{graph_in_product}
use Rattle.omega_lang_product.proofs.forming.written_over.Goals as goal

pub returns-in-Err-clause-refused : goal.returns-in-Err-clause-refused
returns-in-Err-clause-refused c = graph_in_product c.args.one.now c.args.other.now _ c.in-Err.ensures.err
