-- No word of the blocks so far has a bit that is set in both.
use Rattle.std.proofs.Common.{◌≡◌, ◌<◌, ℕ, bit_and, get_or}
use Rattle.omega_hoa_satisfiable.specs.private.LiteralLanes.{lanes_in}
use Rattle.omega_hoa_satisfiable.proofs.wide_table.WideTable.meets_literals.Given as goal

abbrev pub invariant-loop-block : goal.invariant-loop-block
invariant-loop-block l = (block : ℕ) → block < l.block
    → bit_and (get_or l.self.words.items block 0) (lanes_in l.literals l.lanes block) ≡ 0
