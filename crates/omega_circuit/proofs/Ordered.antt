-- Parts whose gates are in an order have none of the first five faults.
use Rattle.std.proofs.Common.{◌≡◌, ℕ, List, refl, subst}
use Rattle.omega_circuit.specs.Circuit.{AreDefinitions, defined_literals, defined_variables}
use Rattle.omega_circuit.specs.Faults.{AreInRange, AreUsesDefined, HasRoom, value_of}
use Rattle.omega_circuit.specs.private.Numbers.{AreNets, first_gate}
use Rattle.omega_circuit.specs.private.Orders.{IsWholeOrder}
use Rattle.omega_text.specs.declared.refusal.circuit.CircuitFault.TheVariants.{Cycle}
use Rattle.omega_circuit.specs.declared.gate.Gate.{Gate}
use Rattle.omega_circuit.specs.declared.parts.CircuitParts.{CircuitParts}
use Rattle.omega_circuit.proofs.FirstFaults.{HasNoneBelow, none_of_four, one_more}
use Rattle.omega_circuit.proofs.Ordering.{acyclic}

pub none_of_five : (parts : CircuitParts) (nets : List Gate) (first : ℕ) (seen : List Gate) (order : List ℕ) → HasRoom parts → AreInRange parts
    → AreDefinitions (defined_literals (value_of parts)) → AreUsesDefined parts → AreNets (defined_variables (value_of parts)) (first_gate (value_of parts)) parts.gates nets
    → first ≡ first_gate (value_of parts) → seen ≡ nets → IsWholeOrder first seen order → HasNoneBelow parts 75
none_of_five parts nets first seen order room range definitions uses numbered is_first is_seen whole =
    one_more parts Cycle 74 refl (none_of_four parts room range definitions uses)
    (acyclic (value_of parts) nets numbered definitions.apart order
    (subst (λ (n : ℕ). IsWholeOrder n nets order) is_first (subst (λ (gates : List Gate). IsWholeOrder first gates order) is_seen whole)))
