-- The words of the cubes, or those of the passes.
use Rattle.omega_hoa_satisfiable.proofs.WideTables.{passes-true}
use Rattle.omega_hoa_satisfiable.proofs.wide_table.words_of.Goals as goal

pub returns-in_ok-words-in-None-clause-words : goal.returns-in_ok-words-in-None-clause-words
returns-in_ok-words-in-None-clause-words c = λ tree low are. passes-true tree c.args.nodes.now _ low are c.in_ok-words-in-None.ensures.words
