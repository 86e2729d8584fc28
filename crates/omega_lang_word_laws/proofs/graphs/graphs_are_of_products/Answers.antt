use Rattle.omega_lang_word_laws.proofs.meeting.Graphs.{graphs_of_products}
use Rattle.omega_lang_word_laws.proofs.graphs.graphs_are_of_products.Goals as goal

pub returns : goal.returns
returns c = graphs_of_products
