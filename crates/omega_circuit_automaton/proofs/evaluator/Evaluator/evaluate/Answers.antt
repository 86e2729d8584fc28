-- what the inputs make known, and then the gates
use Rattle.std.proofs.Common.{ℕ, List, subst, sym, arith}
use Rattle.omega_circuit.specs.declared.gate.Gate.{Gate}
use Rattle.omega_circuit_automaton.specs.private.Lanes.{AreHeld}
use Rattle.omega_circuit_automaton.specs.private.Ternary.{AreGates, AreInputs}
use Rattle.omega_circuit_automaton.proofs.evaluator.Evaluator.evaluate.Goals as goal

pub returns : goal.returns
returns c = λ round gates inputs lane.
    c.in_ok-evaluate_gates.ensures round (subst (λ (gs : List Gate). AreGates gs round) (sym c.gates.ensures) gates) lane
    (c.in_ok-put_inputs.ensures round (subst (λ (literals : List ℕ). AreInputs literals c.args.cube.now round) (sym c.inputs.ensures) inputs)
    (subst (AreHeld round) (sym c.forget.ensures) (λ k d within. absurd (omega (arith, within)))))
