-- the inputs among the propositions before
use Rattle.std.proofs.Common.{◌≡◌, not}
use Rattle.std.specs.List.{filter, range_with_len}
use Rattle.omega_graph.specs.Graph.{listed}
use Rattle.omega_answers_synth.proofs.letter.inputs_of.Given as goal

abbrev pub invariant-loop-p : goal.invariant-loop-p
invariant-loop-p l = l.inputs.items ≡ filter (λ p. not (listed l.controlled p)) (range_with_len 0 l.p)
