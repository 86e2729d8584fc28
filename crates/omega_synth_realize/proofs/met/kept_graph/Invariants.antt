-- the edges of the numbers so far
use Rattle.std.proofs.Common.{◌≡◌, length, map, take}
use Rattle.omega_synth_realize.specs.private.Met.{ends_of}
use Rattle.omega_synth_realize.proofs.met.kept_graph.Given as goal

abbrev pub invariant-loop-number : goal.invariant-loop-number
invariant-loop-number l =
    (l.graph.states ≡ length l.rounds.states) × (l.graph.edges ≡ map (ends_of l.rounds) (take l.number-index l.kept))
