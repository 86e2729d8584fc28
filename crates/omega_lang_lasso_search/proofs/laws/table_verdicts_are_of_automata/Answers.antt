-- the law by its lemma
use Rattle.omega_lang_lasso_search.proofs.Tables.{on_automaton}
use Rattle.omega_lang_lasso_search.proofs.laws.table_verdicts_are_of_automata.Goals as goal

pub returns : goal.returns
returns c starts ends marks formula a verdict tabled usable = on_automaton starts ends marks formula a tabled usable verdict
