-- the names of the propositions before
use Rattle.std.proofs.Common.{◌≡◌, ℕ, [], map, take}
use Rattle.std.specs.Prelude.{slice_index_or}
use Rattle.omega_circuit_encoder.proofs.names.names_at.Given as goal

abbrev pub invariant-loop-number : goal.invariant-loop-number
invariant-loop-number l =
    l.made.items ≡ map (λ (p : ℕ). slice_index_or l.names p []) (take l.number-index l.numbers)
