-- what is found once the pairs so far are expanded, and their edges in the tables
use Rattle.std.proofs.Common.{◌-◌}
use Rattle.omega_lang_product.specs.private.Explored.{HaveRowsOf}
use Rattle.omega_lang_product.specs.private.Operands.{AreTables}
use Rattle.omega_lang_product.proofs.Finding.{IsFoundSoFar}
use Rattle.omega_lang_product.proofs.exploring.explore.Given as goal

abbrev pub invariant-loop-at : goal.invariant-loop-at
invariant-loop-at l =
    IsFoundSoFar l.one l.other l.pairs l.edges l.past.items l.at × AreTables l.one l.other l.tables × HaveRowsOf l.tables l.pairs l.at

abbrev pub decreases-loop-at : goal.decreases-loop-at
decreases-loop-at l = 1048578 - l.at
