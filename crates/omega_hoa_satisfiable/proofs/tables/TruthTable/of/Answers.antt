-- The word of the label is its truth table.
use Rattle.omega_hoa_satisfiable.proofs.TruthTables.{six-table}
use Rattle.omega_hoa_satisfiable.proofs.tables.TruthTable.of.Goals as goal

pub returns-then-mentions_few : goal.returns-then-mentions_few
returns-then-mentions_few c = six-table c.args.label.now _ (c.mentions_few.ensures c.if-mentions_few.true) c.word_of_six.ensures
