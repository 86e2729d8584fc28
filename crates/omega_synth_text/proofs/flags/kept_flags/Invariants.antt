-- the flags of the numbers so far are set
use Rattle.std.proofs.Common.{◌≡◌, ℕ, ◌&&◌, ltb, false, length, get_or, take}
use Rattle.omega_graph.specs.Graph.{listed}
use Rattle.omega_synth_text.proofs.flags.kept_flags.Given as goal

abbrev pub invariant-loop-number : goal.invariant-loop-number
invariant-loop-number l =
    (length l.flags.items ≡ l.count)
    × ((m : ℕ) → get_or l.flags.items m false ≡ (ltb m l.count && listed (take l.number-index l.kept) m))
