-- The lanes of the cube were added to the words so far.
use Rattle.omega_hoa_satisfiable.proofs.CubeWords.{AreAdded}
use Rattle.omega_hoa_satisfiable.proofs.cube_words.add_cube.Given as goal

abbrev pub invariant-loop-block : goal.invariant-loop-block
invariant-loop-block l = AreAdded l.literals l.lanes l.initial.words l.words l.block
