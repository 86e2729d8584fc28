-- 0, and then the literals of inputs, latches and gates.
use Rattle.std.proofs.Common.{List, ℕ, map, ◌++◌, ap, ◌∷◌, ◌∙◌}
use Rattle.omega_circuit.specs.declared.gate.Gate.{Gate}
use Rattle.omega_circuit.specs.declared.latch.Latch.{Latch}
use Rattle.omega_circuit.proofs.Definitions.{joined}
use Rattle.omega_circuit.proofs.canonical.literals_of.Goals as goal

pub returns : goal.returns
returns c =
    joined c.new-literals.result.items c.push.new.self.items c.extend_from_slice.new.self.items c.push_latches.new.literals.items c.push_gates.new.literals.items
    c.inputs.result.now (map (λ (latch : Latch). latch.literal) c.latches.result.now) (map (λ (gate : Gate). gate.literal) c.gates.result.now)
    c.new-literals.ensures.items c.in_ok-push.ensures.items c.in_ok-extend_from_slice.ensures.items c.in_ok-push_latches.ensures c.in_ok-push_gates.ensures
    ∙ ap (λ (xs : List ℕ). 0 ∷ (xs ++ (map (λ (latch : Latch). latch.literal) c.latches.result.now ++ map (λ (gate : Gate). gate.literal) c.gates.result.now))) c.inputs.ensures
    ∙ ap (λ (xs : List Latch). 0 ∷ (c.args.circuit.now.inputs ++ (map (λ (latch : Latch). latch.literal) xs ++ map (λ (gate : Gate). gate.literal) c.gates.result.now))) c.latches.ensures
    ∙ ap (λ (xs : List Gate). 0 ∷ (c.args.circuit.now.inputs ++ (map (λ (latch : Latch). latch.literal) c.args.circuit.now.latches ++ map (λ (gate : Gate). gate.literal) xs))) c.gates.ensures
