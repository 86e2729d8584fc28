-- the sets of the marks before are in the table
use Rattle.std.proofs.Common.{◌≡◌, ◌<◌, ◌||◌, ℕ, false, length, take, get_or}
use Rattle.omega_hoa_acceptance.specs.Acceptance.{holds}
use Rattle.omega_graph_accepting_walk.proofs.set_table.add_marks.Given as goal

abbrev pub invariant-loop-mark : goal.invariant-loop-mark
invariant-loop-mark l =
    (length l.sets.items ≡ length l.initial.sets.items)
    × ((set : ℕ) → set < length l.initial.sets.items → get_or l.sets.items set false ≡ (get_or l.initial.sets.items set false || holds set (take l.mark-index l.marks)))
