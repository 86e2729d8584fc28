-- the edges so far
use Rattle.std.proofs.Common.{◌≡◌, map, take}
use Rattle.omega_lang_trim.specs.Written.{edge_written}
use Rattle.omega_lang_union.specs.Parts.{edges_in}
use Rattle.omega_lang_union.specs.private.Operands.{part_of}
use Rattle.omega_lang_union.proofs.edges.edges_in.Given as goal

abbrev pub invariant-loop-at : goal.invariant-loop-at
invariant-loop-at l = l.edges ≡ map edge_written (edges_in (part_of l.operand) l.state 0 (take l.at l.state.edges))
