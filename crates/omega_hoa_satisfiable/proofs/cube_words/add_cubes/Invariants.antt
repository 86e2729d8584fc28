-- The words are those of the cubes of the nodes from here on.
use Rattle.std.proofs.Common.{◌≡◌, Some, List, drop}
use Rattle.omega_hoa_satisfiable.specs.declared.literals.Literals.{Literals}
use Rattle.omega_hoa_satisfiable.specs.private.ReadCubes.{AreWordsOf, nothing_read, read_back}
use Rattle.omega_hoa_satisfiable.proofs.cube_words.add_cubes.Given as goal

abbrev pub invariant-loop-at : goal.invariant-loop-at
invariant-loop-at l =
    (cubes : List Literals) × ((read_back nothing_read (drop l.at l.nodes) ≡ Some (record { reader = l.reader; cubes = cubes })) × AreWordsOf cubes l.words)
