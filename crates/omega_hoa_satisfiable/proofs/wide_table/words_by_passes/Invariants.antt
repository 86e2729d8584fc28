-- The words so far are those of the blocks so far.
use Rattle.omega_hoa_satisfiable.specs.private.WideWords.{AreWords}
use Rattle.omega_hoa_satisfiable.proofs.wide_table.words_by_passes.Given as goal

abbrev pub invariant-loop-block : goal.invariant-loop-block
invariant-loop-block l = AreWords l.nodes l.words.items l.block
