-- The words are the label's truth.
use Rattle.std.proofs.Common.{ap, arith}
use Rattle.omega_hoa_satisfiable.specs.private.Words.{peak}
use Rattle.omega_hoa_satisfiable.proofs.CubeWords.{true-table}
use Rattle.omega_hoa_satisfiable.proofs.WordLemmas.{peak-label}
use Rattle.omega_hoa_satisfiable.proofs.wide_table.WideTable.of.Goals as goal

pub words_of-requires : goal.words_of-requires
words_of-requires c = omega (arith, ap (peak 0) c.nodes.ensures.nodes, peak-label c.args.label.now c.nodes.ensures.shallow)

pub returns-clause-table : goal.returns-clause-table
returns-clause-table c =
    let low = c.mentions_low.ensures c.if-not-mentions_low.false in
    true-table c.args.label.now _ low (c.in_ok-words.ensures.words c.args.label.now low c.nodes.ensures.nodes)
